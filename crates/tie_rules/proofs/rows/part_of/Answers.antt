-- `tie_rules::part_of` meets its contract: each line is a part of the table, by a computation.
use Rattle.tie_rules.specs.packed.Rows.{parts, part_at}
use Rattle.tie_rules.proofs.columns.Picked.{same_part, past_parts}
use Rattle.tie_rules.proofs.rows.part_of.Goals as goal

pub returns-in-0 : goal.returns-in-0
unfolding parts part_at
returns-in-0 c = same_part 0 _ c.in-0.is

pub returns-in-1 : goal.returns-in-1
unfolding parts part_at
returns-in-1 c = same_part 1 _ c.in-1.is

pub returns-in_default : goal.returns-in_default
unfolding parts part_at
returns-in_default c = past_parts _ c.in_default.in_default-own.rest
