-- `tie_check::tags::tag_for` meets its contract.
use mathlib.Core.Path.{◌≡◌, ap, ◌∙◌}
use native.Mathlib.Omega.{arith}
use Rattle.tie_rules.specs.Keys.{vessel_of}
use Rattle.tie_rules.specs.packed.Rows.{vessel_by}
use Rattle.tie_rules.proofs.key_laws.Told.{vessel_at}
use Rattle.tie_laws.proofs.Vessels.{vessel_low}
use Rattle.tie_check.specs.packed.Numbers.{tag_for}
use Rattle.tie_check.proofs.tags.tag_for.Goals as goal

pub overflow_add-result : goal.overflow_add-result
overflow_add-result c =
    let own : c.vessel_of.result ≡ vessel_of c.args.card.now = (c.vessel_of.ensures ∙ ap (λ k. vessel_by k c.args.card.now) c.requires.0 ∙ vessel_at c.args.card.now) in
    omega (arith, own, vessel_low c.args.card.now, c.requires.1)

pub returns : goal.returns
unfolding tag_for
returns c =
    let own : c.vessel_of.result ≡ vessel_of c.args.card.now = (c.vessel_of.ensures ∙ ap (λ k. vessel_by k c.args.card.now) c.requires.0 ∙ vessel_at c.args.card.now) in
    rw (own)
