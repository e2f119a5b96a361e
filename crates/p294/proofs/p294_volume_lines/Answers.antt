-- `p294::p294_volume_lines` meets its contract.
use mathlib.Core.Path.{ap, ◌∙◌}
use Rattle.p294.proofs.Giving.{answered}
use Rattle.p294.specs.answers.Replies.{counted_reply}
use borrow.Author.Rules.{rules}
use Rattle.p294.proofs.p294_volume_lines.Goals as goal

pub returns : goal.returns
returns c =
    record { said = (answered c.args.numbers.now _ c.of_counted.result _ _ (search rules) c.give.ensures.said c.give.ensures.numbers (c.of_counted.ensures ∙ ap counted_reply c.lines.ensures)).0; numbers = (answered c.args.numbers.now _ c.of_counted.result _ _ (search rules) c.give.ensures.said c.give.ensures.numbers (c.of_counted.ensures ∙ ap counted_reply c.lines.ensures)).1 }
