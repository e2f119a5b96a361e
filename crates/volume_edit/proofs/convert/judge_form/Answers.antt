-- `volume_edit::convert::judge_form` meets its contract.
use mathlib.Core.Path.{sym, ap, ◌∙◌}
use Rattle.volume_rules.specs.Judged.{unless}
use Rattle.volume_edit.proofs.convert.judge_form.Goals as goal
use Rattle.std.specs.Prelude.{Err}
use Rattle.base_refusal.specs.Refusals.{no_refusal}

pub returns-then-is_held : goal.returns-then-is_held
returns-then-is_held c = sym (ap (λ t. unless t 21 no_refusal) (sym c.is_held.ensures ∙ c.if-is_held.true))

pub returns : goal.returns
returns c =
    ap Err c.refuse.ensures ∙ sym (ap (λ t. unless t 21 no_refusal) (sym c.is_held.ensures ∙ c.if-is_held.false))
