-- What the walks over columns know.
use Prim.Native.Nat.{ℕ, suc, ◌+◌, ◌-◌, ◌*◌, ◌^◌, ◌≤◌, ◌<◌}
use native.Mathlib.Nat.{pow-succ', mul_comm}
use native.Mathlib.Numerals.{add-one}
use native.Mathlib.Omega.{arith}
use mathlib.Core.Path.{◌≡◌, ap, ◌∙◌}
use mathlib.Core.List.{List}
use lib.ListN.{length, take, drop, get_or, drop_of_length-le}
use lib.Seq.{drop-cons}
use Rattle.base_digits.specs.digits.Figures.{value_from}
use Rattle.volume_form.specs.Spelled.{standing}
use Rattle.volume_form.specs.Rows.{Row}
use Rattle.volume_form.specs.Marked.{count_on}

module _ (n i : ℕ) (s : List ℕ) where
  pub value_goes : i < length s → value_from n (drop i s) ≡ value_from (10 * n + (get_or s i 0 - 48)) (drop (i + 1) s)
  unfolding value_from
  value_goes h = rw (drop-cons s i 0 h, add-one i) (ap (λ m. value_from (m + (get_or s i 0 - 48)) (drop (suc i) s)) (mul_comm n 10))

  pub value_ends : length s ≤ i → value_from n (drop i s) ≡ n
  unfolding value_from
  value_ends h = rw (drop_of_length-le s h)

-- so many bytes make no larger number
pub value_more : (n i d : ℕ) → d ≤ 207 → n + 23 ≤ 23 * 10 ^ i → 10 * n + d + 23 ≤ 23 * 10 ^ (i + 1)
value_more n i d h l = let p : 10 ^ (i + 1) ≡ 10 * 10 ^ i = ap (λ k. 10 ^ k) (add-one i) ∙ pow-succ' 10 i in omega arith

-- the number on a card, as a part of it is lent
pub number-part : (s : List ℕ) (v w from n : ℕ) → w ≡ v → n ≡ standing (take (from + w - from) (drop from s))
    → n ≡ standing (take v (drop from s))
number-part s v w from n e h =
    let p : from + w - from ≡ w = omega arith in
    h ∙ ap (λ k. standing (take k (drop from s))) (p ∙ e)

pub count-part : (f : Row) (s : List ℕ) (w n : ℕ) → w ≡ f.width → n ≡ standing (take f.width (drop (28 + w + 1) s)) → n ≡ count_on f s
unfolding count_on
count-part f s w n e h =
    let p : 28 + w + 1 ≡ 29 + f.width = omega arith in
    h ∙ ap (λ k. standing (take f.width (drop k s))) p
