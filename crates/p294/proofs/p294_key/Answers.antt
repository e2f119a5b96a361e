-- `p294::p294_key` meets its contract.
use mathlib.Core.Path.{ap, ◌∙◌}
use mir.Syntax.{w64}
use mir.ValLaws.{to_z-of_z}
use Rattle.tie_lookup.specs.questions.Questions.{key_answer}
use Rattle.p294.proofs.offered.Steps.{same_key, asked}
use Rattle.p294.specs.answers.Replies.{key_reply}
use Rattle.p294.proofs.Giving.{answered}
use borrow.Author.Rules.{rules}
use Rattle.p294.proofs.p294_key.Goals as goal

pub returns : goal.returns
returns c =
    let key = c.key_of-key.ensures
    ∙ same_key c.args.kind c.args.a c.args.b _ _ (to_z-of_z w64 _ c.ranges.a) (to_z-of_z w64 _ c.ranges.b) in
    record {
      said = (answered c.args.numbers.now _ c.of_key-reply.result _ _ (search rules)
          c.give.ensures.said c.give.ensures.numbers
          (c.of_key-reply.ensures ∙ ap key_reply (c.find_key.ensures
          ∙ asked (key_answer c.args.header.now c.args.class) _ _ _ _ key c.key_text-bytes.ensures))).0;
      numbers = (answered c.args.numbers.now _ c.of_key-reply.result _ _ (search rules)
          c.give.ensures.said c.give.ensures.numbers
          (c.of_key-reply.ensures ∙ ap key_reply (c.find_key.ensures
          ∙ asked (key_answer c.args.header.now c.args.class) _ _ _ _ key c.key_text-bytes.ensures))).1;
    }
