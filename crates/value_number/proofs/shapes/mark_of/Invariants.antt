-- `value_number::shapes::mark_of` meets its contract: what stands at the front is what the walk passed and what follows.
use Rattle.std.proofs.Common.{◌≡◌, ◌≤◌, drop}
use Rattle.base_digits.specs.digits.Figures.{limit, run_of}
use Rattle.base_digits.proofs.digits.Walk.{run_from}
use Rattle.value_number.proofs.shapes.mark_of.Given as goal

abbrev pub invariant-loop-b : goal.invariant-loop-b
invariant-loop-b l = (l.n ≤ limit) × (run_of 0 l.t ≡ run_from l.n l.b-index (drop l.b-index l.t))
