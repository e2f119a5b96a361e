-- `p294::p294_volume_line` meets its contract.
use mathlib.Core.Path.{ap, ◌∙◌}
use Rattle.p294.proofs.Giving.{answered}
use Rattle.p294.specs.answers.Replies.{line_reply}
use borrow.Author.Rules.{rules}
use Rattle.p294.proofs.p294_volume_line.Goals as goal

pub returns : goal.returns
returns c =
    record { said = (answered c.args.numbers.now _ c.of_line.result _ _ (search rules) c.give.ensures.said c.give.ensures.numbers (c.of_line.ensures ∙ ap line_reply c.find_line.ensures)).0; numbers = (answered c.args.numbers.now _ c.of_line.result _ _ (search rules) c.give.ensures.said c.give.ensures.numbers (c.of_line.ensures ∙ ap line_reply c.find_line.ensures)).1 }
