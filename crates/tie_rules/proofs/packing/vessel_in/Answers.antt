-- `tie_rules::packing::vessel_in` meets its contract.
use native.Mathlib.Omega.{arith}
use Rattle.tie_rules.proofs.packing.Vessels.{below_waypoints, past_waypoints, a_waypoint}
use Rattle.tie_rules.proofs.packing.vessel_in.Goals as goal

pub returns-then-number-lt-FIRST_WAYPOINT : goal.returns-then-number-lt-FIRST_WAYPOINT
returns-then-number-lt-FIRST_WAYPOINT c = (below_waypoints c.args.number (omega arith), omega arith)

pub returns-then-number : goal.returns-then-number
returns-then-number c = (past_waypoints c.args.number (omega arith) (omega arith), omega arith)

pub returns : goal.returns
returns c = (a_waypoint c.args.number (omega arith) (omega arith), omega arith)
