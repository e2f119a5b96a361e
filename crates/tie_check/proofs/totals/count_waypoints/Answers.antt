-- `tie_check::totals::count_waypoints` meets its contract: one number more.
use mathlib.Core.Path.{refl, ap, ◌∙◌}
use native.Mathlib.Omega.{arith}
use lib.Seq.{get_or-take}
use Rattle.tie_rules.specs.packed.Numbers.{vessel_in}
use Rattle.tie_check.specs.packed.Totals.{waypoints_to, counted_up}
use Rattle.tie_check.proofs.gather.Counting.{waypoints_few, one_more}
use Rattle.tie_check.proofs.totals.count_waypoints.Goals as goal

pub loop-number-init : goal.loop-number-init
unfolding waypoints_to
loop-number-init c = refl

pub overflow_add-waypoints : goal.overflow_add-waypoints
overflow_add-waypoints c =
    let few = waypoints_few c.args.numbers.now c.loop-number.number-index c.vessel_in.result c.vessel_in.ensures.1 in
    rw c.loop-number.invariant (record { fits = omega (arith, few, c.loop-number-test.true, c.requires) })

pub loop-number-preserved : goal.loop-number-preserved
unfolding counted_up
loop-number-preserved c =
    let b = c.loop-number in
    let v = c.vessel_in.ensures.0 ∙ ap vessel_in (get_or-take c.args.n c.args.numbers.now b.number-index 0 (omega (arith, c.loop-number-test.true))) in
    one_more c.args.numbers.now b.number-index _ _ _ b.invariant v refl
