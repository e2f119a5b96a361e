-- `value_number::number_entry::write_units` meets its contract.
use Rattle.value_number.proofs.number_entry.Writing.{units_full, units_least}
use Rattle.base_digits.specs.digits.Digits.{size}
use Prim.Native.Nat.{◌+◌, max}
use mathlib.Core.Path.{sym, ap, ◌∙◌, ◌≡◌}
use Rattle.value_number.proofs.number_entry.write_units.Goals as goal

pub returns-then-spell : goal.returns-then-spell
returns-then-spell c =
    let e : c.max.result ≡ max (size c.args.n) (c.args.p + 1) = c.max.ensures ∙ ap (λ k. max k (c.args.p + 1)) c.size_of-size.ensures.found in
    record { answer = (units_full _ _ _ c.args.columns.now c.spell.new.columns (rw e at (sym c.spell.ensures.answer ∙ c.if-spell.true)) (rw e at c.spell.ensures.columns)).0; columns = (units_full _ _ _ c.args.columns.now c.spell.new.columns (rw e at (sym c.spell.ensures.answer ∙ c.if-spell.true)) (rw e at c.spell.ensures.columns)).1 }

pub returns : goal.returns
returns c =
    let e : c.max.result ≡ max (size c.args.n) (c.args.p + 1) = c.max.ensures ∙ ap (λ k. max k (c.args.p + 1)) c.size_of-size.ensures.found in
    let g : c.max-2.result ≡ max (size c.args.n) c.args.p = c.max-2.ensures ∙ ap (λ k. max k c.args.p) c.size_of-size.ensures.found in
    record { answer = (units_least _ _ _ c.args.columns.now c.spell.new.columns (rw e at (sym c.spell.ensures.answer ∙ c.if-spell.false)) (rw e at c.spell.ensures.columns) c.spell-2.new.columns _ (rw g at c.spell-2.ensures.answer) (rw g at c.spell-2.ensures.columns)).0; columns = (units_least _ _ _ c.args.columns.now c.spell.new.columns (rw e at (sym c.spell.ensures.answer ∙ c.if-spell.false)) (rw e at c.spell.ensures.columns) c.spell-2.new.columns _ (rw g at c.spell-2.ensures.answer) (rw g at c.spell-2.ensures.columns)).1 }
