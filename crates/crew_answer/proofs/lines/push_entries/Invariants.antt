-- `push_entries` meets its contract: one entry more behind those that stand.
use Prim.Native.Nat.{◌≤◌, ◌+◌, ◌*◌}
use mathlib.Core.Path.{◌≡◌}
use lib.ListN.{length}
use lib.Seq.{sets}
use Rattle.crew_answer.specs.lines.Text.{entries_text, longest_entry}
use Rattle.crew_answer.proofs.lines.push_entries.Given as goal

abbrev pub invariant-loop-i : goal.invariant-loop-i
invariant-loop-i l = (length l.out ≡ length l.initial.out) × (l.out ≡ sets l.initial.out l.at (entries_text l.list l.i)) × (l.end ≡ l.at + length (entries_text l.list l.i))
    × (l.end ≤ l.at + longest_entry * l.i)
