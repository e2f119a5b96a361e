-- `base_digits::digits::read_run` meets its contract.
use Rattle.std.proofs.Common.{◌≡◌, ◌≤◌, drop}
use Rattle.base_digits.specs.digits.Figures.{run_of, limit}
use Rattle.base_digits.proofs.digits.Walk.{run_from}
use Rattle.base_digits.proofs.digits.read_run.Given as goal

abbrev pub invariant-loop-count : goal.invariant-loop-count
invariant-loop-count l =
    (l.number ≤ limit) × (run_of l.n l.s ≡ run_from l.number l.count (drop l.count l.s))
