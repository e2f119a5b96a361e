-- `base_lists::same` meets its contract: `==` compares as `alike` does.
use mathlib.Core.Path.{◌∙◌}
use Rattle.base_lists.proofs.Comparing.{alike_is}
use Rattle.base_lists.proofs.same.Goals as goal

pub returns : goal.returns
returns c = c.eq.ensures ∙ alike_is _ _
