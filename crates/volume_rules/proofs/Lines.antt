-- The line at a place, from 0: where it stands in the volume, and what its directory card tells; the walk over the headers.
use Prim.Native.Nat.{ℕ, zero, suc, ◌+◌, ◌-◌, ◌*◌, ◌^◌, ◌≤◌, ◌<◌}
use native.Mathlib.Nat.{not-suc-le-zero, le_of_suc-le-suc}
use native.Mathlib.Omega.{arith}
use mathlib.Core.Path.{◌≡◌, refl, ap, ◌∙◌}
use mathlib.Core.List.{List, [], ◌∷◌, ◌++◌}
use lib.ListN.{length, take, drop, get_or}
use lib.Seq.{drop-drop, take_at, drop-append-add}
use Rattle.header_check.specs.forms.Cards.{cards_in}
use Rattle.volume_form.specs.Rows.{Row}
use Rattle.volume_form.specs.Marked.{entry_card, count_on}
use Rattle.volume_form.proofs.Cards.{Good, length-entry}
use Rattle.volume_rules.specs.Volume.{joined, before, directory, Whole, Wholes}
use Rattle.volume_rules.specs.Sound.{headers_in}
use Rattle.volume_rules.proofs.Appending.{joined-cards}

before_more : (h : List ℕ) (hs : List (List ℕ)) (p : ℕ) → Whole h → before (h ∷ hs) (suc p) ≡ cards_in h + before hs p
unfolding before
before_more h hs p w = joined-cards h (take p hs) w

before-none : (hs : List (List ℕ)) → before hs 0 ≡ 0
unfolding before cards_in joined
before-none hs = refl

-- the line is the part of the headers' cards from there on
pub line-part : (hs : List (List ℕ)) (p : ℕ) → Wholes hs → p < length hs
    → take (80 * cards_in (get_or hs p [])) (drop (80 * before hs p) (joined hs)) ≡ get_or hs p []
unfolding joined
line-part [] p ws h = absurd (not-suc-le-zero h)
line-part (g ∷ hs) zero ws h =
    ap (λ k. take (80 * cards_in g) (drop (80 * k) (g ++ joined hs))) (before-none (g ∷ hs)) ∙ take_at g (joined hs) (80 * cards_in g) ws.0.whole
line-part (g ∷ hs) (suc p) ws h =
    let e : 80 * before (g ∷ hs) (suc p) ≡ length g + 80 * before hs p = omega (arith, before_more g hs p ws.0, ws.0.whole) in
    ap (take (80 * cards_in (get_or hs p []))) (ap (λ k. drop k (g ++ joined hs)) e ∙ drop-append-add g (joined hs) (80 * before hs p))
    ∙ line-part hs p ws.1 (le_of_suc-le-suc h)

-- it is whole, and lies within them
pub line-whole : (hs : List (List ℕ)) (p : ℕ) → Wholes hs → p < length hs → Whole (get_or hs p [])
line-whole [] p ws h = absurd (not-suc-le-zero h)
line-whole (g ∷ hs) zero ws h = ws.0
line-whole (g ∷ hs) (suc p) ws h = line-whole hs p ws.1 (le_of_suc-le-suc h)

pub line-within : (hs : List (List ℕ)) (p : ℕ) → Wholes hs → p < length hs → before hs p + cards_in (get_or hs p []) ≤ cards_in (joined hs)
line-within [] p ws h = absurd (not-suc-le-zero h)
line-within (g ∷ hs) zero ws h = omega (arith, before-none (g ∷ hs), joined-cards g hs ws.0)
line-within (g ∷ hs) (suc p) ws h =
    omega (arith, before_more g hs p ws.0, joined-cards g hs ws.0, line-within hs p ws.1 (le_of_suc-le-suc h))

-- the directory card at a place is the line's
module _ (f : Row) (good : Good f) where
  pub entry_at : (at : ℕ) (hs : List (List ℕ)) (p : ℕ) → Wholes hs → at + cards_in (joined hs) < 10 ^ f.width → p < length hs
      → take 80 (drop (80 * p) (directory f at hs)) ≡ entry_card f (get_or hs p []) (at + before hs p) (cards_in (get_or hs p []))
  unfolding directory
  entry_at at [] p ws fits h = absurd (not-suc-le-zero h)
  entry_at at (g ∷ hs) zero ws fits h =
      let e : List ℕ = entry_card f g at (cards_in g) in
      let q : cards_in (joined (g ∷ hs)) ≡ cards_in g + cards_in (joined hs) = joined-cards g hs ws.0 in
      let l : length e ≡ 80 = length-entry f good at (cards_in g) (omega arith) (omega arith) g (omega (arith, ws.0.some, ws.0.whole)) in
      let z : at ≡ at + before (g ∷ hs) 0 = omega (arith, before-none (g ∷ hs)) in
      take_at e (directory f (at + cards_in g) hs) 80 l ∙ ap (λ k. entry_card f g k (cards_in g)) z
  entry_at at (g ∷ hs) (suc p) ws fits h =
      let e : List ℕ = entry_card f g at (cards_in g) in
      let q : cards_in (joined (g ∷ hs)) ≡ cards_in g + cards_in (joined hs) = joined-cards g hs ws.0 in
      let l : length e ≡ 80 = length-entry f good at (cards_in g) (omega arith) (omega arith) g (omega (arith, ws.0.some, ws.0.whole)) in
      let m : 80 * suc p ≡ length e + 80 * p = omega arith in
      let z : at + cards_in g + before hs p ≡ at + before (g ∷ hs) (suc p) = omega (arith, before_more g hs p ws.0) in
      ap (take 80) (ap (λ k. drop k (e ++ directory f (at + cards_in g) hs)) m ∙ drop-append-add e (directory f (at + cards_in g) hs) (80 * p))
      ∙ entry_at (at + cards_in g) hs p ws.1 (omega arith) (le_of_suc-le-suc h)
      ∙ ap (λ k. entry_card f (get_or hs p []) k (cards_in (get_or hs p []))) z

-- the headers that are left after i of them, `at` cards in all
module _ (f : Row) (b d : List ℕ) (k at i n : ℕ) (more : i < k) (n_is : count_on f (take 80 (drop (80 * i) d)) ≡ n) where
  pub headers_goes : headers_in f (drop (80 * at) b) (drop (80 * i) d) (k - i)
      ≡ take (80 * n) (drop (80 * at) b) ∷ headers_in f (drop (80 * (at + n)) b) (drop (80 * (i + 1)) d) (k - (i + 1))
  unfolding headers_in
  headers_goes =
      let e : k - i ≡ suc (k - (i + 1)) = omega arith in
      let q : 80 * at + 80 * n ≡ 80 * (at + n) = omega arith in
      let r : 80 * i + 80 ≡ 80 * (i + 1) = omega arith in
      rw (e, n_is, drop-drop (80 * n) (80 * at) b, drop-drop 80 (80 * i) d, q, r)

pub headers_end : (f : Row) (b d : List ℕ) (k i : ℕ) → k ≤ i → headers_in f b d (k - i) ≡ []
unfolding headers_in
headers_end f b d k i h = let e : k - i ≡ 0 = omega arith in rw e

-- as many as there are directory cards
pub headers_number : (f : Row) (b d : List ℕ) (k : ℕ) → length (headers_in f b d k) ≡ k
unfolding headers_in
headers_number f b d zero = refl
headers_number f b d (suc k) = ap suc (headers_number f (drop (80 * count_on f (take 80 d)) b) (drop 80 d) k)
