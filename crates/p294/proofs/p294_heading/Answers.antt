-- `p294::p294_heading` meets its contract.
-- the answer, by the steps on the way to it
use Prim.Native.Nat.{ℕ}
use mathlib.Core.List.{List}
use mathlib.Core.Path.{◌≡◌, ap, ap₂, ◌∙◌}
use lib.IntN.{ℤ}
use mir.Syntax.{w64}
use mir.ValLaws.{to_z-of_z}
use Rattle.base_value.specs.declared.Decimal.{Decimal}
use Rattle.base_value.specs.Sums.{decimal}
use Rattle.survey_compass.specs.Headings.{heading_of}
use Rattle.p294.specs.declared.answers.Reply.{Reply}
use Rattle.p294.specs.answers.Replies.{heading_reply}
use Rattle.p294.proofs.Giving.{answered}
use borrow.Author.Rules.{rules}
use Rattle.p294.proofs.p294_heading.Goals as goal
use Rattle.std.specs.Prelude.{Result}
use Rattle.base_refusal.specs.declared.Refusal.{Refusal}

replied : (h t : List ℕ) (raw : ℤ) (places : ℕ) (direction : ℤ) (u v : ℤ) → u ≡ raw → v ≡ direction
    → (x : Decimal) → x ≡ decimal u places → (a : Result Decimal Refusal) → a ≡ heading_of h t x v → (r : Reply) → r ≡ heading_reply a
    → r ≡ heading_reply (heading_of h t (decimal raw places) direction)
replied h t raw places direction u v eu ev x ex a ea r er =
    er ∙ ap heading_reply (ea ∙ ap₂ (heading_of h t) (ex ∙ ap (λ z. decimal z places) eu) ev)

pub returns : goal.returns
returns c =
    record {
      said = (answered c.args.numbers.now _ c.of_heading.result _ _ (search rules) c.give.ensures.said c.give.ensures.numbers
          (replied c.args.header.now c.args.serial.now c.args.raw c.args.places c.args.direction _ _
          (to_z-of_z w64 c.args.raw c.ranges.raw) (to_z-of_z w64 c.args.direction c.ranges.direction)
          c.new.result c.new.ensures c.find_heading-heading.result c.find_heading-heading.ensures c.of_heading.result c.of_heading.ensures)).0;
      numbers = (answered c.args.numbers.now _ c.of_heading.result _ _ (search rules) c.give.ensures.said c.give.ensures.numbers
          (replied c.args.header.now c.args.serial.now c.args.raw c.args.places c.args.direction _ _
          (to_z-of_z w64 c.args.raw c.ranges.raw) (to_z-of_z w64 c.args.direction c.ranges.direction)
          c.new.result c.new.ensures c.find_heading-heading.result c.find_heading-heading.ensures c.of_heading.result c.of_heading.ensures)).1;
    }
