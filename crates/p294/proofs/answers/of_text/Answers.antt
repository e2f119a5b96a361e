-- `p294::answers::of_text` meets its contract.
use mathlib.Core.Path.{sym, ap, ◌∙◌}
use lib.IntN.{pos}
use lib.Signed.{lt_z}
use mir.Syntax.{w64}
use mir.Val.{to_z, of_z}
use mir.ValLaws.{to_z-of_z}
use Rattle.p294.specs.answers.Replies.{text_alone}
use Rattle.p294.proofs.answers.Steps.{says-text, says_value, says_none}
use Rattle.p294.proofs.answers.of_text.Goals as goal

pub returns-then-said-eq-TEXT : goal.returns-then-said-eq-TEXT
unfolding text_alone
returns-then-said-eq-TEXT c =
    let a = c.args in
    let f = to_z-of_z w64 a.reply.said (record { sfits = c.struct_told-1.given.1.0.1 }) in
    rw (says-text a.reply.said (sym f ∙ ap (to_z w64) c.if-said-eq-TEXT.true))

pub returns-then-said-gt0 : goal.returns-then-said-gt0
unfolding text_alone
returns-then-said-gt0 c =
    let a = c.args in
    let f = to_z-of_z w64 a.reply.said (record { sfits = c.struct_told-1.given.1.0.1 }) in
    c.done.ensures
    ∙ rw (says_value a.reply.said (λ q. c.if-said-eq-TEXT.false (ap (of_z w64) q))
    (ap (λ z. lt_z (pos 0) z) (sym f) ∙ c.if-said-gt0.true))

pub returns : goal.returns
unfolding text_alone
returns c =
    let a = c.args in
    let f = to_z-of_z w64 a.reply.said (record { sfits = c.struct_told-1.given.1.0.1 }) in
    rw (says_none a.reply.said (ap (λ z. lt_z (pos 0) z) (sym f) ∙ c.if-said-gt0.false))
