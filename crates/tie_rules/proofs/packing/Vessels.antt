-- The vessel of a number that may be a waypoint's.
use Prim.Native.Nat.{ℕ, ◌+◌, ◌-◌, ◌/◌, ◌≤◌, ◌<◌}
use mathlib.Core.Path.{◌≡◌}
use native.Mathlib.Decide.{dec_lt}
use native.Mathlib.Omega.{arith}
use borrow.Author.Tests.{lt-ltb, le-ltb, le-leb, lt-leb}
use Rattle.tie_rules.specs.packed.Numbers.{waypoints_from, vessel_in}

-- the vessel of a number, by where the number lies
pub below_waypoints : (n : ℕ) → n < waypoints_from → 10 ≡ vessel_in n
unfolding vessel_in
below_waypoints n l = rw (lt-leb waypoints_from n l)

pub past_waypoints : (n : ℕ) → waypoints_from ≤ n → waypoints_from + 10000 ≤ n → 10 ≡ vessel_in n
unfolding vessel_in
past_waypoints n l m = rw (le-leb waypoints_from n l, le-ltb n (waypoints_from + 10000) m)

pub a_waypoint : (n : ℕ) → waypoints_from ≤ n → n < waypoints_from + 10000 → (n - waypoints_from) / 1000 ≡ vessel_in n
unfolding vessel_in
a_waypoint n l m = rw (le-leb waypoints_from n l, lt-ltb n (waypoints_from + 10000) m)

-- there are ten
pub vessel_below : (n : ℕ) → vessel_in n < 11
vessel_below n = elim (dec_lt n waypoints_from) [
  | yes l ↦ omega (arith, below_waypoints n l)
  | no l ↦ elim (dec_lt n (waypoints_from + 10000)) [
    | yes m ↦ omega (arith, a_waypoint n (omega arith) m)
    | no m ↦ omega (arith, past_waypoints n (omega arith) (omega arith))
  ]
]
