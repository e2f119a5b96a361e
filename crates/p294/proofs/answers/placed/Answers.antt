-- `p294::answers::placed` meets its contract.
use mathlib.Core.Path.{refl}
use Rattle.p294.proofs.answers.Steps.{back, alike}
use Rattle.p294.specs.answers.Replies.{line_reply}
use borrow.Author.Rules.{rules}
use Rattle.p294.proofs.answers.placed.Goals as goal

pub returns : goal.returns
unfolding line_reply
returns c =
    alike (back _ _ (search rules) c.plain_of.ensures) (back _ _ (search rules) c.plain_of-2.ensures) (back _ _ (search rules) c.plain_of-3.ensures) refl
