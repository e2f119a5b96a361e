-- `push_serial` is safe and ends: each turn takes seven bits off.
use Rattle.crew_fault.proofs.names.push_serial.Given as goal

abbrev pub decreases-loop-rest : goal.decreases-loop-rest
decreases-loop-rest l = l.rest
