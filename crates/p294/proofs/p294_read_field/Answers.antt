-- `p294::p294_read_field` meets its contract.
use Rattle.p294.proofs.Giving.{answered}
use borrow.Author.Rules.{rules}
use Rattle.p294.proofs.p294_read_field.Goals as goal

pub returns : goal.returns
returns c =
    record {
      said = (answered c.args.numbers.now _ c.reading.result _ _ (search rules)
          c.give.ensures.said c.give.ensures.numbers c.reading.ensures).0;
      numbers = (answered c.args.numbers.now _ c.reading.result _ _ (search rules)
          c.give.ensures.said c.give.ensures.numbers c.reading.ensures).1;
    }
