-- `p294::p294_put` meets its contract.
use mathlib.Core.Path.{ap, ◌∙◌}
use Rattle.p294.specs.answers.Replies.{entered_reply}
use Rattle.p294.proofs.Giving.{answered}
use mir.Syntax.{w64}
use mir.ValLaws.{to_z-of_z}
use Rattle.card_put.specs.Putting.{answer_of, left_by, putting_of}
use Rattle.p294.specs.offered.Offers.{offered_of}
use borrow.Author.Rules.{rules}
use Rattle.p294.proofs.p294_put.Goals as goal

pub returns : goal.returns
returns c =
    let said = answered c.args.numbers.now _ c.of_entered-reply.result _ _ (search rules)
    c.give.ensures.said c.give.ensures.numbers (c.of_entered-reply.ensures ∙ ap entered_reply (c.put.ensures.answer ∙ ap (λ v. answer_of (putting_of c.args.card.now c.args.number c.args.form v)) (c.offered-value.ensures ∙ ap (λ z. offered_of c.args.kind z c.args.b c.args.c) (to_z-of_z w64 _ c.ranges.a)))) in
    record {
      said = said.0;
      numbers = said.1;
      card = c.put.ensures.card ∙ ap (λ v. left_by (putting_of c.args.card.now c.args.number c.args.form v) c.args.card.now) (c.offered-value.ensures ∙ ap (λ z. offered_of c.args.kind z c.args.b c.args.c) (to_z-of_z w64 _ c.ranges.a));
    }
