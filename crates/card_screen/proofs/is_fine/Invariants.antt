-- `card_screen::is_fine` meets its contract.
use Prim.Native.Nat.{◌<◌, ◌*◌, ◌%◌}
use mathlib.Core.Path.{◌≡◌}
use mathlib.Core.Bool.{true}
use lib.ListN.{length, drop}
use Rattle.card_screen.specs.Machine.{runs}
use Rattle.card_screen.specs.Roles.{plain, roles_of}
use Rattle.card_screen.proofs.is_fine.Given as goal

abbrev pub invariant-loop-row : goal.invariant-loop-row
invariant-loop-row l = (l.layout < 31) × (plain l.layout ≡ true)
    × (runs (roles_of l.layout) l.card 24 ≡ runs (drop (16 * length l.yielded) (roles_of l.layout)) (drop (16 * length l.yielded) l.card) l.state) × (l.state < 64) × (l.state % 8 ≡ 0)
    × (length l.card ≡ 80)
