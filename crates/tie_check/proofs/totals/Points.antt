-- The notes that tell of a point of the variation grid are as many as the cards that have one.
use Prim.Native.Nat.{ℕ, zero, suc, ◌+◌, ◌≤◌, ◌<◌}
use native.Mathlib.Omega.{arith}
use native.Mathlib.Numerals.{add-one}
use mathlib.Core.Path.{◌≡◌, refl, sym, ap, ap₂, ◌∙◌}
use mathlib.Core.Bool.{Bool, true, false, cond}
use mathlib.Core.List.{List}
use lib.Dec.{eqb}
use lib.ListN.{length, get_or, take}
use Rattle.std.specs.List.{filter}
use Rattle.std.proofs.lemmas.List.Filters.{length-filter_more}
use Rattle.base_lists.specs.Count.{bit, count}
use Rattle.header_check.specs.forms.Cards.{card_at, layout_of}
use Rattle.header_check.specs.packed.Noted.{layout_in}
use Rattle.tie_check.specs.packed.Totals.{points_to}

as_bit : (b : Bool) → cond b 1 0 ≡ bit b
as_bit true = refl
as_bit false = refl

module _ (h cards : List ℕ) where
  pub points_noted : (n : ℕ) → n ≤ length cards → ((c : ℕ) → c < n → layout_in (get_or cards c 0) ≡ layout_of (card_at h c))
      → length (filter (λ note. eqb (layout_in note) 13) (take n cards)) ≡ points_to h n
  unfolding points_to count
  points_noted zero room told = refl
  points_noted (suc n) room told =
      let p : ℕ → Bool = λ note. eqb (layout_in note) 13 in
      ap (λ m. length (filter p (take m cards))) (sym (add-one n))
      ∙ length-filter_more p cards n 0 (omega arith)
      ∙ ap₂ (λ (x y : ℕ). x + y) (points_noted n (omega arith) (λ c l. told c (omega arith)))
      (as_bit (p (get_or cards n 0)) ∙ ap (λ k. bit (eqb k 13)) (told n (omega arith)))
