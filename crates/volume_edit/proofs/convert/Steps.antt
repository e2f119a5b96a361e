-- What the steps of a conversion ask and leave, in the buffer.
use Prim.Native.Nat.{ℕ, zero, suc, ◌+◌, ◌-◌, ◌*◌, ◌≤◌, ◌<◌}
use native.Mathlib.Omega.{arith}
use mathlib.Core.Path.{◌≡◌, refl, sym, ap, ◌∙◌}
use mathlib.Core.List.{List, ◌++◌}
use lib.Dec.{leb}
use lib.ListN.{length, take, drop, length-drop, take-append-drop}
use lib.Seq.{take_all, length-take-le, drop-drop}
use Rattle.std.specs.List.{list_all}
use Rattle.volume_form.specs.Moved.{laid_at}
use Rattle.volume_form.specs.Rows.{Row}
use Rattle.volume_form.specs.Marked.{entry_card, count_on}
use Rattle.volume_form.proofs.Cards.{Good}
use Rattle.volume_rules.specs.Converted.{few_on}
use Rattle.volume_rules.specs.Volume.{directory}
use Rattle.volume_rules.specs.Sound.{headers_in}
use Rattle.volume_rules.proofs.Converting.{Converting, convert_long, convert_there, convert_room, convert_goes, convert_ends}
use Rattle.volume_check.proofs.Chunks.{cards}
use Rattle.volume_edit.specs.Parts.{CardFits, Listed}

-- a card, and the rest from a card on
pub card_read : (f : Row) (s : List ℕ) (card n : ℕ) → n ≡ count_on f (take (80 * card + 80 - 80 * card) (drop (80 * card) s))
    → n ≡ count_on f (take 80 (drop (80 * card) s))
card_read f s card n e = let z : 80 * card + 80 - 80 * card ≡ 80 = omega arith in e ∙ ap (λ m. count_on f (take m (drop (80 * card) s))) z

pub rest_all : (s : List ℕ) (from : ℕ) → take (length s - from) (drop from s) ≡ drop from s
rest_all s from = take_all (length s - from) (drop from s) (rw length-drop (omega arith))

pub rest_long : (s : List ℕ) (from : ℕ) → from + 80 ≤ length s → 80 ≤ length (take (length s - from) (drop from s))
rest_long s from h = let e = ap length (rest_all s from) in let l = length-drop from s in omega arith

-- the buffer s₀ as it came in its parts: so many cards, the directory, and what follows
module _ (s₀ : List ℕ) (body k : ℕ) where
  abbrev pub cards₀ : List ℕ
  cards₀ = take (80 * body) s₀

  abbrev pub directory₀ : List ℕ
  directory₀ = take (80 * k) (drop (80 * body) s₀)

  abbrev pub rest₀ : List ℕ
  rest₀ = drop (80 * (body + k)) s₀

  pub parts₀ : s₀ ≡ cards₀ ++ (directory₀ ++ rest₀)
  parts₀ =
      let e : 80 * (body + k) ≡ 80 * body + 80 * k = omega arith in
      sym (ap (λ m. cards₀ ++ (directory₀ ++ drop m s₀)) e
      ∙ ap (λ l. cards₀ ++ (directory₀ ++ l)) (sym (drop-drop (80 * k) (80 * body) s₀))
      ∙ ap (λ l. cards₀ ++ l) (take-append-drop (80 * k) (drop (80 * body) s₀)) ∙ take-append-drop (80 * body) s₀)

  pub cards_long : 80 * (body + k) ≤ length s₀ → length cards₀ ≡ 80 * body
  cards_long h = length-take-le (80 * body) s₀ (omega arith)

  pub directory_long : 80 * (body + k) ≤ length s₀ → length directory₀ ≡ 80 * k
  directory_long h = length-take-le (80 * k) (drop (80 * body) s₀) (rw length-drop (omega arith))

-- the walk over the directory
abbrev pub Walk : Row → Row → List ℕ → ℕ → ℕ → List ℕ → ℕ → ℕ → Type 0
Walk f g s₀ body k s at i = Converting f g (cards₀ s₀ body k) (directory₀ s₀ body k) (rest₀ s₀ body k) k s at i

module _ (f g : Row) (good : Good g) (s₀ : List ℕ) (body k : ℕ) (l : Listed f g body k s₀) where
  b_long : length (cards₀ s₀ body k) ≡ 80 * body
  b_long = cards_long s₀ body k (omega (arith, l.room))

  d_long : length (directory₀ s₀ body k) ≡ 80 * k
  d_long = directory_long s₀ body k (omega (arith, l.room))

  module _ (s : List ℕ) (at i : ℕ) (inv : Walk f g s₀ body k s at i) where
    pub walk_long : i ≤ k → length s ≡ length s₀
    walk_long h =
        convert_long f g (cards₀ s₀ body k) (directory₀ s₀ body k) (rest₀ s₀ body k) body k s at i b_long d_long inv h ∙ sym (ap length (parts₀ s₀ body k))

    there : i < k → take 80 (drop (80 * (body + i)) s) ≡ take 80 (drop (80 * i) (directory₀ s₀ body k))
    there more = convert_there f g (cards₀ s₀ body k) (directory₀ s₀ body k) (rest₀ s₀ body k) body k s at i b_long d_long inv more

    pub walk_room : (more : i < k) → (at + count_on f (take 80 (drop (80 * (body + i)) s)) ≤ body) × (1 ≤ count_on f (take 80 (drop (80 * (body + i)) s)))
    walk_room more =
        convert_room f g good (cards₀ s₀ body k) (directory₀ s₀ body k) (rest₀ s₀ body k) body k s at i _ b_long d_long (omega (arith, l.small')) inv more
        (ap (count_on f) (sym (there more)))

    pub walk_fits : i < k → CardFits f g at (body + i) s
    walk_fits more =
        let r = walk_room more in
        let e : length s ≡ length s₀ = walk_long (omega arith) in
        record {
          header = omega (arith, r.0, r.1, l.room);
          entry = omega (arith, l.room);
          first = omega (arith, r.0, r.1, l.small');
          number = omega (arith, r.0, l.small');
        }

    pub walk_goes : (s' : List ℕ) (n : ℕ) → i < k → n ≡ count_on f (take 80 (drop (80 * (body + i)) s))
        → s' ≡ laid_at s (80 * (body + i)) (entry_card g (drop (80 * at) s) (1 + at) n) → Walk f g s₀ body k s' (at + n) (i + 1)
    walk_goes s' n more n_is s_is =
        rw s_is (convert_goes f g good (cards₀ s₀ body k) (directory₀ s₀ body k) (rest₀ s₀ body k) body k s at i n b_long d_long (omega (arith, l.small')) inv more
        (ap (count_on f) (sym (there more)) ∙ sym n_is))

    pub walk_ends : k ≤ i → i ≤ k
        → s ≡ cards₀ s₀ body k ++ (directory g 1 (headers_in f (cards₀ s₀ body k) (directory₀ s₀ body k) k) ++ rest₀ s₀ body k)
    walk_ends h h' = convert_ends f g (cards₀ s₀ body k) (directory₀ s₀ body k) (rest₀ s₀ body k) k s at i d_long h h' inv

-- how large the headers are, told card by card
pub few_all : (f : Row) (m k : ℕ) (d : List ℕ) → list_all (λ card. leb (count_on f card) m) (cards k d) ≡ few_on f m d k
unfolding cards few_on
few_all f m zero d = refl
few_all f m (suc k) d = rw (few_all f m k (drop 80 d))
