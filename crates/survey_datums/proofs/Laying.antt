-- The numbers of all routes in a lent list, as many whole datums as fit; and the answer beside them.
use Prim.Native.Nat.{ℕ, suc, ◌+◌, ◌*◌, ◌/◌, min}
use native.Mathlib.Omega.{arith}
use native.Mathlib.Decide.{dec_lt}
use mathlib.Core.Path.{◌≡◌, refl, sym, ap, ◌∙◌}
use mathlib.Core.Bool.{Bool, true, false}
use mathlib.Core.List.{List, [], ◌∷◌, ◌++◌, map}
use lib.Dec.{ltb}
use Rattle.std.specs.List.{filter}
use Rattle.base_lists.specs.Count.{count}
use Rattle.base_lists.proofs.Counting.{count_same, count_split}
use lib.ListN.{length, get_or, take, drop}
use borrow.Author.Tests.{le-leb, lt-leb}
use Rattle.base_lists.specs.Laid.{fitting, laid}
use Rattle.base_lists.specs.Parts.{up_to}
use Rattle.base_refusal.specs.declared.Refusal.{Refusal}
use Rattle.survey_datums.specs.declared.Routes.{Routes}
use Rattle.survey_datums.specs.Answer.{routes_of}
use Rattle.survey_datums.specs.Listing.{number_at, numbers_of, routed, listed_by, listed_of, list_by, list_for}
use Rattle.survey_datums.specs.packed.Room.{room_in}
use Rattle.std.specs.Prelude.{Ok, Err}
use Rattle.base_refusal.specs.Refusals.{no_refusal}

room-is : (n : ℕ) → room_in n ≡ min 81 (n / 9 * 9)
unfolding room_in
room-is n = elim (dec_lt n 81) [
  | yes l ↦ rw (lt-leb 81 n l) (omega arith)
  | no l ↦ rw (le-leb 81 n (omega arith)) (omega arith)
]

-- all that fit
pub all_laid : (w l : List ℕ) (i : ℕ) → length w ≡ 81 → i ≡ room_in (length l) → take i w ++ drop i l ≡ laid 9 l w
unfolding laid fitting
all_laid w l i long e =
    let k : min (length w) (length l / 9 * 9) ≡ i = ap (λ n. min n (length l / 9 * 9)) long ∙ sym (room-is (length l))
    ∙ sym e in
    rw k

-- the elements of a list that pass, counted by their places
passing : (p : ℕ → Bool) (xs : List ℕ) → length (filter p xs) ≡ count (λ i. p (get_or xs i 0)) (length xs)
unfolding count
passing p [] = refl
passing p (x ∷ xs) = one (p x) refl (passing p xs)
  where
    q : ℕ → Bool
    q i = p (get_or (x ∷ xs) i 0)

    n : ℕ
    n = length xs

    longer : count q (1 + n) ≡ count q (suc n)
    longer = let e : 1 + n ≡ suc n = omega arith in ap (count q) e

    rest : length (filter p xs) ≡ count (λ i. p (get_or xs i 0)) n → count (λ i. q (1 + i)) n ≡ length (filter p xs)
    rest e = count_same (λ i. q (1 + i)) (λ i. p (get_or xs i 0)) n
        (λ i l. let e : 1 + i ≡ suc i = omega arith in rw e) ∙ sym e

    one : (b : Bool) → p x ≡ b → length (filter p xs) ≡ count (λ i. p (get_or xs i 0)) n
        → length (filter p (x ∷ xs)) ≡ count q (suc n)
    one true e ih =
        let s : count q 1 ≡ 1 = rw e in
        let l : length (filter p (x ∷ xs)) ≡ suc (length (filter p xs)) = rw e in
        omega (arith, s, l, rest ih, count_split q 1 n, longer)
    one false e ih =
        let s : count q 1 ≡ 0 = rw e in
        let l : length (filter p (x ∷ xs)) ≡ length (filter p xs) = rw e in
        omega (arith, s, l, rest ih, count_split q 1 n, longer)

pub routed_passing : (shifts : List ℕ) → length shifts ≡ 9 → length (filter (λ s. ltb s 9) shifts) ≡ routed shifts
unfolding routed
routed_passing shifts nine = passing (λ s. ltb s 9) shifts ∙ ap (count (λ a. ltb (get_or shifts a 0) 9)) nine

-- the answer beside the list
module _ (h l : List ℕ) (r : Routes) (is : r ≡ routes_of h) where
  pub told-listed : r.answer ≡ no_refusal → (n : ℕ) → n ≡ routed r.shifts
      → (w : List ℕ) → w ≡ laid 9 l (map (number_at r.shifts r.cards) (up_to 81))
      → (Ok n ≡ listed_of (routes_of h)) × (w ≡ list_for (routes_of h) l)
  unfolding listed_of listed_by list_for list_by numbers_of
  told-listed a n e w q = rw (← is, a) (ap Ok e, q)

  pub refused-listed : (x : Refusal) → r.answer ≡ Err x → (Err x ≡ listed_of (routes_of h)) × (l ≡ list_for (routes_of h) l)
  unfolding listed_of listed_by list_for list_by
  refused-listed x a = rw (← is, a) (refl, refl)
