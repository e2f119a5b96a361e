-- `push_all` meets its contract: what is left to put is put behind what stands.
use Prim.Native.Nat.{◌+◌}
use mathlib.Core.Path.{◌≡◌}
use lib.ListN.{length, drop}
use lib.Seq.{sets}
use Rattle.crew_answer.proofs.lines.push_all.Given as goal

abbrev pub invariant-loop-b : goal.invariant-loop-b
invariant-loop-b l = (length l.out ≡ length l.initial.out) × (l.end ≡ l.at + l.b-index) × (sets l.initial.out l.at l.s ≡ sets l.out l.end (drop l.b-index l.s))
