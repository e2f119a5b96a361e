-- `tie_check::totals::totals_of` meets its contract.
use mathlib.Core.Path.{ap}
use native.Mathlib.Omega.{arith}
use Rattle.tie_store.specs.Store.{count_in}
use Rattle.tie_check.specs.packed.Totals.{totals_of}
use Rattle.tie_check.proofs.gather.Growing.{all_linked}
use Rattle.tie_check.proofs.totals.totals_of.Goals as goal

pub count_waypoints-waypoints-requires : goal.count_waypoints-waypoints-requires
count_waypoints-waypoints-requires c =
    let l = all_linked c.args.header.now c.requires.header_bound in
    omega (arith, c.entries_in.ensures, ap count_in c.requires.links_value, l.within)

pub returns : goal.returns
unfolding totals_of
returns c =
    rw (c.points_in-points.ensures, c.count_waypoints-waypoints.ensures, c.entries_in.ensures, c.requires.keys_value, c.requires.links_value)
