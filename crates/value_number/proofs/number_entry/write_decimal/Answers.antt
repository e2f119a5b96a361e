-- `value_number::number_entry::write_decimal` meets its contract.
use Rattle.value_number.proofs.number_entry.Writing.{decimal_large, decimal-is, units_none}
use Rattle.base_digits.specs.signs.Signs.{is_minus}
use Rattle.base_digits.proofs.digits.Answers.{declined}
use Rattle.base_digits.specs.digits.Columns.{fits, written}
use mir.ValLaws.{to_z-of_z}
use mir.Syntax.{w64}
use mir.Val.{SFits, to_z, of_z}
use lib.Signed.{lt_z}
use borrow.Author.Rules.{rules}
use lib.IntN.{nat_abs, pos}
use lib.ListN.{length}
use mathlib.Core.Path.{◌≡◌, refl, sym, ap, ◌∙◌}
use Rattle.value_number.proofs.number_entry.write_decimal.Goals as goal

pub returns-then-n-ge-LIMIT : goal.returns-then-n-ge-LIMIT
returns-then-n-ge-LIMIT c =
    let h : SFits w64 c.args.d.units = search rules in
    record { answer = (declined c.args.columns.now (decimal_large _ c.args.d _ (c.unsigned_abs-n.ensures.value ∙ ap nat_abs (to_z-of_z w64 c.args.d.units h)) c.if-n-ge-LIMIT.true)).0; columns = (declined c.args.columns.now (decimal_large _ c.args.d _ (c.unsigned_abs-n.ensures.value ∙ ap nat_abs (to_z-of_z w64 c.args.d.units h)) c.if-n-ge-LIMIT.true)).1 }

pub returns-then-columns-p : goal.returns-then-columns-p
returns-then-columns-p c =
    let d = c.args.d in
    let h : SFits w64 d.units = search rules in
    record { answer = (declined c.args.columns.now (decimal-is _ d _ (c.unsigned_abs-n.ensures.value ∙ ap nat_abs (to_z-of_z w64 d.units h)) c.if-n-ge-LIMIT.false (is_minus d.units) refl ∙ units_none _ _ _ _ c.if-columns-p.true)).0; columns = (declined c.args.columns.now (decimal-is _ d _ (c.unsigned_abs-n.ensures.value ∙ ap nat_abs (to_z-of_z w64 d.units h)) c.if-n-ge-LIMIT.false (is_minus d.units) refl ∙ units_none _ _ _ _ c.if-columns-p.true)).1 }

pub returns : goal.returns
returns c =
    let d = c.args.d in
    let h : SFits w64 d.units = search rules in
    let e = decimal-is (length c.args.columns.now) d _ (c.unsigned_abs-n.ensures.value ∙ ap nat_abs (to_z-of_z w64 d.units h)) c.if-n-ge-LIMIT.false (is_minus d.units) refl in
    let below : lt_z (to_z w64 (of_z w64 d.units)) (pos 0) ≡ is_minus d.units = search rules in
    record {
      answer = rw below at c.write_units.ensures.answer ∙ sym (ap fits e);
      columns = rw below at c.write_units.ensures.columns ∙ sym (ap (λ o. written o c.args.columns.now) e);
    }
