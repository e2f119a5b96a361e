-- `p294::answers::of_columns` meets its contract.
use mathlib.Core.Path.{refl}
use Rattle.p294.proofs.answers.Steps.{back, alike}
use Rattle.p294.specs.answers.Replies.{value_reply}
use borrow.Author.Rules.{rules}
use Rattle.p294.proofs.answers.of_columns.Goals as goal

pub returns : goal.returns
unfolding value_reply
returns c =
    alike refl (back _ _ (search rules) c.plain_of.ensures) (back _ _ (search rules) c.plain_of-2.ensures) refl
