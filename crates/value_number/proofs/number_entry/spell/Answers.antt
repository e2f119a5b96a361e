-- `value_number::number_entry::spell` meets its contract.
use Rattle.value_number.proofs.number_entry.Writing.{adjusted_none, adjusted_some, adjusted_written}
use Rattle.base_digits.proofs.digits.Answers.{fitted, declined}
use lib.Seq.{length-take-le}
use lib.ListN.{replicate, length}
use Prim.Native.Nat.{◌-◌, ◌+◌}
use mathlib.Core.List.{◌++◌}
use mathlib.Core.Path.{◌≡◌, sym, ap, ap₂, ◌∙◌}
use borrow.Author.Rules.{rules}
use Rattle.value_number.specs.number_entry.Spelling.{sign_columns}
use native.Mathlib.Omega.{arith}
use Rattle.value_number.proofs.number_entry.spell.Goals as goal

pub returns-then-columns-w : goal.returns-then-columns-w
returns-then-columns-w c =
    record { answer = (declined c.args.columns.now (adjusted_none _ _ _ _ _ (omega arith))).0; columns = (declined c.args.columns.now (adjusted_none _ _ _ _ _ (omega arith))).1 }

pub slice_bounds-fill_blanks-end-2 : goal.slice_bounds-fill_blanks-end-2
slice_bounds-fill_blanks-end-2 c = sym (length-take-le _ _ (omega arith))

pub returns : goal.returns
returns c =
    let s = c.args.columns.now in
    let minus : c.from.result ≡ sign_columns c.args.minus = search rules in
    let w = c.from.result + (c.args.k + c.point_columns.result) in
    record {
      answer = (fitted c.args.columns.now _ (adjusted_some (length s) _ _ _ _ w (ap₂ (λ a b. a + (c.args.k + b)) minus c.point_columns.ensures.found) c.if-columns-w.false)
          (adjusted_written s c.fill_blanks.new.columns c.write_signed.new.columns (length s - w) (omega arith) c.fill_blanks.ensures ∙ ap (λ t. replicate (length s - w) 32 ++ t) c.write_signed.ensures)).0;
      columns = (fitted c.args.columns.now _ (adjusted_some (length s) _ _ _ _ w (ap₂ (λ a b. a + (c.args.k + b)) minus c.point_columns.ensures.found) c.if-columns-w.false)
          (adjusted_written s c.fill_blanks.new.columns c.write_signed.new.columns (length s - w) (omega arith) c.fill_blanks.ensures ∙ ap (λ t. replicate (length s - w) 32 ++ t) c.write_signed.ensures)).1;
    }
