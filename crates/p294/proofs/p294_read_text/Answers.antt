-- `p294::p294_read_text` meets its contract.
use mathlib.Core.Path.{ap, ◌∙◌}
use Rattle.p294.specs.answers.Replies.{text_alone}
use Rattle.p294.proofs.answers.Steps.{text_alone_lem}
use Rattle.p294.proofs.Giving.{answered}
use borrow.Author.Rules.{rules}
use Rattle.p294.proofs.p294_read_text.Goals as goal

pub returns : goal.returns
returns c =
    record {
      said = (answered c.args.numbers.now _ c.of_text.result _ _ (search rules)
          c.give.ensures.said c.give.ensures.numbers (c.of_text.ensures ∙ ap text_alone c.reading.ensures ∙ text_alone_lem _)).0;
      numbers = (answered c.args.numbers.now _ c.of_text.result _ _ (search rules)
          c.give.ensures.said c.give.ensures.numbers (c.of_text.ensures ∙ ap text_alone c.reading.ensures ∙ text_alone_lem _)).1;
    }
