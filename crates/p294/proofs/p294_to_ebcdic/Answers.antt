-- `p294::p294_to_ebcdic` meets its contract.
use mathlib.Core.Path.{ap, ◌∙◌}
use Rattle.p294.specs.answers.Replies.{counted_reply}
use Rattle.p294.proofs.Giving.{answered}
use borrow.Author.Rules.{rules}
use Rattle.p294.proofs.p294_to_ebcdic.Goals as goal

pub returns : goal.returns
returns c =
    let said = answered c.args.numbers.now _ c.of_counted-reply.result _ _ (search rules)
    c.give.ensures.said c.give.ensures.numbers (c.of_counted-reply.ensures ∙ ap counted_reply c.to_ebcdic.ensures.answer) in
    record {
      said = said.0;
      numbers = said.1;
      out = c.to_ebcdic.ensures.out;
    }
