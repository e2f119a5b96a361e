-- `tie_check::begins::step_left` meets its contract.
use mathlib.Core.Path.{sym, ap, ◌∙◌}
use lib.ListN.{get_or}
use Rattle.format_layout.specs.Layouts.{fields_of}
use Rattle.tie_rules.specs.Faults.{misplaced_among}
use Rattle.tie_check.specs.packed.Begins.{walked}
use Rattle.tie_check.proofs.begins.Columns.{none_left}
use Rattle.tie_check.proofs.begins.step_left.Goals as goal

pub returns-then-left : goal.returns-then-left
unfolding walked
returns-then-left c =
    let k = c.args.layout in
    c.left_at.ensures
    ∙ sym (ap (λ b. misplaced_among (fields_of k) c.args.card.now (get_or (walked b k) c.args.i 0)) c.if-left.true)

pub returns-else-left : goal.returns-else-left
returns-else-left c =
    c.if-left.false ∙ sym (none_left c.args.card.now (fields_of c.args.layout) (sym c.requires.left_value ∙ c.if-left.false) _)
