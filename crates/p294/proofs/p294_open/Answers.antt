-- `p294::p294_open` meets its contract.
use mathlib.Core.Path.{ap, ◌∙◌}
use Rattle.p294.specs.answers.Replies.{entered_reply}
use Rattle.p294.proofs.Giving.{answered}
use borrow.Author.Rules.{rules}
use Rattle.p294.proofs.p294_open.Goals as goal

pub returns : goal.returns
returns c =
    let said = answered c.args.numbers.now _ c.of_entered-reply.result _ _ (search rules)
    c.give.ensures.said c.give.ensures.numbers (c.of_entered-reply.ensures ∙ ap entered_reply c.«open».ensures.answer) in
    record {
      said = said.0;
      numbers = said.1;
      card = c.«open».ensures.card;
    }
