-- Compacting twice is compacting once; and a header's cards moved down over a gap.
use Prim.Native.Nat.{ℕ, ◌+◌}
use native.Mathlib.Omega.{arith}
use mathlib.Core.Path.{◌≡◌, refl, sym, ap, ◌∙◌}
use mathlib.Core.Bool.{Bool, true, false, not, ◌||◌, false≢true}
use mathlib.Core.List.{List, [], ◌∷◌, ◌++◌, append_assoc}
use lib.ListN.{length, take, drop, length-append, length-drop}
use lib.Seq.{take-append_seam, drop-append_seam, drop-append-add, drop-append-le}
use Rattle.base_lists.specs.Parts.{keep}
use Rattle.volume_form.specs.Moved.{moved}
use Rattle.volume_rules.specs.Latest.{superseded, latest}
use Rattle.volume_rules.specs.Volume.{Wholes}

module _ {ℓ} {A : Type ℓ} (same : A → A → Bool) where
  -- what no header supersedes no kept one does
  fewer : (h : A) (hs : List A) → superseded same h hs ≡ false → superseded same h (latest same hs) ≡ false
  unfolding superseded latest
  fewer h [] e = refl
  fewer h (g ∷ hs) e = go (fewer h hs) (same h g) refl (not (superseded same g hs)) e
    where
      go : (superseded same h hs ≡ false → superseded same h (latest same hs) ≡ false) → (x : Bool) → same h g ≡ x → (y : Bool) → (x || superseded same h hs) ≡ false → superseded same h (keep y g (latest same hs)) ≡ false
      go r true q y z = absurd (false≢true (sym z))
      go r false q false z = r z
      go r false q true z = rw q (r z)

  pub latest_twice : (hs : List A) → latest same (latest same hs) ≡ latest same hs
  unfolding latest
  latest_twice [] = refl
  latest_twice (h ∷ hs) = go (latest_twice hs) (superseded same h hs) refl
    where
      go : latest same (latest same hs) ≡ latest same hs → (x : Bool) → superseded same h hs ≡ x → latest same (keep (not x) h (latest same hs)) ≡ keep (not x) h (latest same hs)
      go r true q = r
      go r false q = rw (fewer h hs q) (ap (λ l. h ∷ l) r)

  -- the walk: one header kept, or passed over
  pub latest-kept : (h : A) (hs : List A) → superseded same h hs ≡ false → latest same (h ∷ hs) ≡ h ∷ latest same hs
  unfolding latest
  latest-kept h hs e = rw e

  pub latest-passed : (h : A) (hs : List A) → superseded same h hs ≡ true → latest same (h ∷ hs) ≡ latest same hs
  unfolding latest
  latest-passed h hs e = rw e

-- what is kept of whole headers is whole
pub latest_wholes : (same : List ℕ → List ℕ → Bool) (hs : List (List ℕ)) → Wholes hs → Wholes (latest same hs)
unfolding latest
latest_wholes same [] ws = tt
latest_wholes same (h ∷ hs) ws = go (latest_wholes same hs ws.1) (not (superseded same h hs))
  where
    go : Wholes (latest same hs) → (x : Bool) → Wholes (keep x h (latest same hs))
    go r true = (ws.0, r)
    go r false = r

-- a stretch h behind a gap g moved down over it: the gap is then behind it, as long as before
pub moved_down_lem : (a g h x : List ℕ)
    → moved (a ++ (g ++ (h ++ x))) (length a + length g) (length a) (length h) ≡ (a ++ h) ++ (drop (length h) (g ++ h) ++ x)
unfolding moved
moved_down_lem a g h x =
    let s : List ℕ = a ++ (g ++ (h ++ x)) in
    let one : take (length a) s ≡ a = take-append_seam a (g ++ (h ++ x)) in
    let two : take (length h) (drop (length a + length g) s) ≡ h =
    ap (take (length h)) (drop-append-add a (g ++ (h ++ x)) (length g) ∙ drop-append_seam g (h ++ x)) ∙ take-append_seam h x in
    let three : drop (length a + length h) s ≡ drop (length h) (g ++ h) ++ x =
    drop-append-add a (g ++ (h ++ x)) (length h)
    ∙ ap (drop (length h)) (sym (append_assoc g h x))
    ∙ drop-append-le (length h) (g ++ h) x (let q = length-append g h in omega arith) in
    rw (one, two, three) (sym (append_assoc a h (drop (length h) (g ++ h) ++ x)))

pub gap_long : (g h : List ℕ) → length (drop (length h) (g ++ h)) ≡ length g
gap_long g h = rw (length-drop, length-append) (omega arith)
