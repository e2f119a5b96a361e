-- `volume_form::reading::standing_in` meets its contract.
use Rattle.base_digits.specs.digits.Figures.{value_from}
use lib.ListN.{drop}
use Prim.Native.Nat.{◌≤◌, ◌+◌, ◌*◌, ◌^◌}
use mathlib.Core.Path.{◌≡◌}
use Rattle.volume_form.proofs.reading.standing_in.Given as goal

abbrev pub invariant-loop-b : goal.invariant-loop-b
invariant-loop-b l = (l.n + 23 ≤ 23 * 10 ^ l.b-index) × (value_from 0 l.columns ≡ value_from l.n (drop l.b-index l.columns))
