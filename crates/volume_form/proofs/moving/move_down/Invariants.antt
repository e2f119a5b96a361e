-- `volume_form::moving::move_down` meets its contract.
use Rattle.std.proofs.Common.{◌≡◌, ◌+◌, ◌-◌}
use Rattle.volume_form.specs.Moved.{moved}
use Rattle.volume_form.proofs.moving.move_down.Given as goal

abbrev pub invariant-loop-i : goal.invariant-loop-i
invariant-loop-i l = moved l.initial.s l.from l.to l.k ≡ moved l.s (l.from + l.i) (l.to + l.i) (l.k - l.i)
