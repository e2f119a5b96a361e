-- `volume_check::line_in` meets its contract.
use mathlib.Core.Path.{sym, ap, ◌∙◌}
use Rattle.volume_form.specs.Rows.{row_of}
use Rattle.volume_form.proofs.Cards.{good_row}
use Prim.Native.Nat.{◌*◌}
use lib.ListN.{take}
use Rattle.volume_form.proofs.Cards.{most-small}
use Rattle.volume_rules.specs.Sound.{headers_of}
use Rattle.volume_check.specs.Answers.{placed}
use Rattle.volume_check.proofs.Placing.{held, trailed, told-placed}
use Rattle.volume_check.proofs.judging.Parts.{before_last}
use native.Mathlib.Omega.{arith}
use Rattle.volume_check.proofs.line_in.Goals as goal

pub overflow_mul-front : goal.overflow_mul-front
overflow_mul-front c =
    omega (arith, held (row_of c.args.form) (good_row c.args.form) c.args.cards c.args.volume.now c.requires)

pub slice_bounds-front-end : goal.slice_bounds-front-end
slice_bounds-front-end c =
    sym (trailed (row_of c.args.form) (good_row c.args.form) c.args.cards c.args.volume.now c.requires).cards.whole

pub first_of-first-requires : goal.first_of-first-requires
first_of-first-requires c =
    (trailed (row_of c.args.form) (good_row c.args.form) c.args.cards c.args.volume.now c.requires).cards

pub directory_of-requires : goal.directory_of-requires
directory_of-requires c =
    trailed (row_of c.args.form) (good_row c.args.form) c.args.cards c.args.volume.now c.requires

pub line_at-requires : goal.line_at-requires
line_at-requires c =
    omega (arith, c.first_of-first.ensures, before_last _ _ _ (trailed (row_of c.args.form) (good_row c.args.form) c.args.cards c.args.volume.now c.requires), (trailed (row_of c.args.form) (good_row c.args.form) c.args.cards c.args.volume.now c.requires).few, most-small c.args.form)

pub returns : goal.returns
returns c =
    c.line_at.ensures ∙ told-placed (row_of c.args.form) (good_row c.args.form) c.args.cards c.args.volume.now c.requires _ c.directory_of.ensures _ _ ∙ ap (λ k. placed (headers_of (row_of c.args.form) c.args.cards (take (80 * c.args.cards) c.args.volume.now)) k c.args.place) c.first_of-first.ensures
