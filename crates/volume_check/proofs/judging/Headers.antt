-- What the walk over the headers knows, and the steps of judging one header or a trailer.
use Prim.Native.Nat.{ℕ, ◌+◌, ◌-◌, ◌*◌, ◌/◌, ◌≤◌, ◌<◌}
use native.Mathlib.Omega.{arith}
use mathlib.Core.Path.{◌≡◌, ap}
use mathlib.Core.Bool.{Bool, true, false, ◌&&◌}
use mathlib.Core.List.{List, ◌∷◌, ◌++◌}
use lib.Dec.{leb}
use lib.ListN.{length, take, drop}
use borrow.Author.Tests.{le-leb, lt-leb, leb-true}
use Rattle.base_digits.proofs.digits.Bools.{and_left, and_right}
use Rattle.base_lists.specs.Parts.{alike}
use Rattle.base_refusal.specs.declared.Refusal.{Refusal}
use Rattle.volume_form.specs.Rows.{Row}
use Rattle.volume_form.specs.Marked.{trailer_card, count_on, first_on}
use Rattle.volume_rules.specs.Sound.{points, enters, covers, headers_in}
use Rattle.volume_rules.specs.Judged.{header_answer, headers_answer}
use Rattle.volume_check.proofs.Chunks.{first_card, other_cards, one_more}
use Rattle.std.specs.Prelude.{Result, Err, ⊤}
use Rattle.base_refusal.specs.Refusals.{no_refusal}

-- a trailer, by the first card that stands on it
module _ (f : Row) (n first : ℕ) (t : List ℕ) (is : first ≡ first_on f t) where
  pub points_none : first ≡ 0 → false ≡ points f n t
  unfolding points
  points_none e = rw (← is, e)

  pub points-over : (first ≡ 0 → ⊥) → n < first → false ≡ points f n t
  unfolding points
  points-over z h = rw (← is, le-leb 1 first (omega arith), lt-leb first n h)

  pub points_as : (first ≡ 0 → ⊥) → first ≤ n → (x : List ℕ) → x ≡ trailer_card f first (n - first) → (r : Bool) → r ≡ alike t x → r ≡ points f n t
  unfolding points
  points_as z h x built r told = rw (← is, le-leb 1 first (omega arith), le-leb first n h, ← built) told

-- a header's cards, and a directory card, as parts that are lent
pub part_long : (a k : ℕ) (s : List ℕ) → take (a + k - a) (drop a s) ≡ take k (drop a s)
part_long a k s = let e : a + k - a ≡ k = omega arith in ap (λ m. take m (drop a s)) e

-- the step over one header of cards that are covered, whose directory card stands in front of others
module _ (f : Row) (at n : ℕ) (b d card e : List ℕ) (is : d ≡ card ++ e) (long : length card ≡ 80)
    (covered : covers f at b d (length d / 80) ≡ true) (told : n ≡ count_on f card) where
  both : (enters f at b card && covers f (at + n) (drop (80 * n) b) e (length e / 80)) ≡ true
  unfolding covers
  both =
      rw (one_more d card e is long, ← first_card d card e is long, ← other_cards d card e is long, ← told) at covered

  there : enters f at b card ≡ true
  there = and_left (enters f at b card) _ both

  pub within : 80 * n ≤ length b
  unfolding enters
  within =
      let h = and_left (leb (80 * count_on f card) (length b)) _ (and_right (leb 1 (count_on f card)) _ there) in
      omega (arith, told, leb-true (80 * count_on f card) (length b) h)

  pub covered_next : (b' : List ℕ) → b' ≡ drop (80 * n) b → covers f (at + n) b' e (length e / 80) ≡ true
  covered_next b' h = rw h (and_right (enters f at b card) _ both)

  module _ (h b' : List ℕ) (front : h ≡ take (80 * n) b) (back : b' ≡ drop (80 * n) b) (x : Result ⊤ Refusal) (answer : x ≡ header_answer f h) where
    headers-are : headers_in f b d (length d / 80) ≡ h ∷ headers_in f b' e (length e / 80)
    unfolding headers_in
    headers-are =
        rw (one_more d card e is long, ← first_card d card e is long, ← other_cards d card e is long, ← told, front, back)

    pub answers_goes : x ≡ no_refusal → headers_answer f (headers_in f b d (length d / 80)) ≡ headers_answer f (headers_in f b' e (length e / 80))
    unfolding headers_answer
    answers_goes a = rw (headers-are, ← answer, a)

    pub answers_stops : (r : Refusal) → x ≡ Err r → x ≡ headers_answer f (headers_in f b d (length d / 80))
    unfolding headers_answer
    answers_stops r a = rw (headers-are, ← answer, a)

pub answers_ends : (f : Row) (b d : List ℕ) → length d < 80 → no_refusal ≡ headers_answer f (headers_in f b d (length d / 80))
unfolding headers_answer headers_in
answers_ends f b d h = let z : length d / 80 ≡ 0 = omega arith in rw z
