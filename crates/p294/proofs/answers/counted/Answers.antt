-- `p294::answers::counted` meets its contract.
use mathlib.Core.Path.{refl}
use Rattle.p294.proofs.answers.Steps.{back, alike}
use Rattle.p294.specs.answers.Replies.{count_reply}
use borrow.Author.Rules.{rules}
use Rattle.p294.proofs.answers.counted.Goals as goal

pub returns : goal.returns
unfolding count_reply
returns c = alike (back _ _ (search rules) c.plain_of.ensures) refl refl refl
