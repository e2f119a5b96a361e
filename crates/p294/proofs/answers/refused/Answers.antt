-- `p294::answers::refused` meets its contract.
use Rattle.p294.proofs.answers.Steps.{back, alike}
use Rattle.p294.specs.answers.Replies.{refused_reply}
use borrow.Author.Rules.{rules}
use Rattle.p294.proofs.answers.refused.Goals as goal

pub returns : goal.returns
unfolding refused_reply
returns c =
    alike (back _ _ (search rules) c.signed.ensures) (back _ _ (search rules) c.plain_of.ensures) (back _ _ (search rules) c.plain_of-2.ensures) (back _ _ (search rules) c.plain_of-3.ensures)
