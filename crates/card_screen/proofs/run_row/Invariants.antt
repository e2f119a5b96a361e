-- `card_screen::run_row` meets its contract.
use Prim.Native.Nat.{◌<◌, ◌/◌, ◌%◌, ◌^◌}
use mathlib.Core.Path.{◌≡◌}
use Rattle.card_screen.specs.Machine.{run_to}
use Rattle.card_screen.proofs.run_row.Given as goal

abbrev pub invariant-loop-b : goal.invariant-loop-b
invariant-loop-b l =
    (l.rest ≡ l.roles / 16 ^ l.b-index) × (l.s ≡ run_to l.columns 0 l.roles l.state l.b-index) × (l.s < 64) × (l.s % 8 ≡ 0)
