-- `card_field::needing::other_second` meets its contract: one field with a number that is not the given one says so.
use Rattle.std.proofs.Common.{◌≡◌, ℕ, zero, suc, ◌+◌, eqb, ◌&&◌, ◌||◌, Bool, not, List, length, drop, ap, ap₂, sym, ◌∙◌, refl, arith, rules, tests}
use Rattle.std.specs.List.{list_any, range_with_len}
use Rattle.std.proofs.lemmas.Iterator.Search.{any_from_yields_List}
use Rattle.format_layout.specs.Layouts.{fields_of, field_of}
use Rattle.card_field.specs.needing.Needs.{second_by, other_second}
use Rattle.card_field.proofs.needing.Steps.{other-is, other-over}
use Rattle.card_field.proofs.needing.UpTo.{left, from_range, all_left}
use Rattle.card_field.proofs.needing.other_second.Goals as goal

-- the fields from one on, by their numbers
module _ (s : List ℕ) (k n : ℕ) where
  abbrev other : ℕ → Bool
  other j = not (eqb j n) && second_by s (field_of k j)

  by_numbers : (i m : ℕ) → i + m ≡ length (fields_of k) → list_any other (range_with_len (i + 1) m) ≡ other_second s n (i + 1) (drop i (fields_of k))
  by_numbers i zero e = sym (other-over s k n (i + 1) i (omega arith))
  by_numbers i (suc m) e =
      ap (λ b. other (i + 1) || b) (by_numbers (i + 1) m (omega arith)) ∙ sym (other-is s k n i (omega arith) _ refl)

pub returns : goal.returns
returns c =
    let s = c.args.card.now in
    let a = c.args in
    let n = c.new in
    let count : left n.result ≡ length (fields_of a.layout) = omega (arith, all_left n.result n.ensures.exhausted, n.ensures.start, n.ensures.end, c.fields_in.ensures) in
    any_from_yields_List (other s a.layout a.number) _ _ c.any.result c.any.ensures.ran (from_range n.result) (λ x b q k. search (rules, tests))
    ∙ ap (list_any (other s a.layout a.number)) (ap₂ range_with_len n.ensures.start count)
    ∙ by_numbers s a.layout a.number 0 (length (fields_of a.layout)) (omega arith)
