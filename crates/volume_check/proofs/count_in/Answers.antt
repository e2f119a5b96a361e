-- `volume_check::count_in` meets its contract.
use mathlib.Core.Path.{sym, ap, ◌∙◌}
use Rattle.volume_form.specs.Rows.{row_of}
use Rattle.volume_form.proofs.Cards.{good_row}
use Prim.Native.Nat.{◌-◌}
use Rattle.volume_check.proofs.Placing.{held, trailed, count-is}
use Rattle.volume_check.proofs.judging.Parts.{before_last}
use native.Mathlib.Omega.{arith}
use Rattle.volume_check.proofs.count_in.Goals as goal

pub overflow_mul-cards : goal.overflow_mul-cards
overflow_mul-cards c =
    omega (arith, held (row_of c.args.form) (good_row c.args.form) c.args.cards c.args.volume.now c.requires)

pub slice_bounds-first_of-end : goal.slice_bounds-first_of-end
slice_bounds-first_of-end c =
    sym (trailed (row_of c.args.form) (good_row c.args.form) c.args.cards c.args.volume.now c.requires).cards.whole

pub first_of-requires : goal.first_of-requires
first_of-requires c =
    (trailed (row_of c.args.form) (good_row c.args.form) c.args.cards c.args.volume.now c.requires).cards

pub overflow_sub-result : goal.overflow_sub-result
overflow_sub-result c =
    omega (arith, c.first_of.ensures, before_last _ _ _ (trailed (row_of c.args.form) (good_row c.args.form) c.args.cards c.args.volume.now c.requires))

pub returns : goal.returns
returns c =
    ap (λ k. c.args.cards - k) c.first_of.ensures ∙ sym (count-is (row_of c.args.form) (good_row c.args.form) c.args.cards c.args.volume.now c.requires)
