-- `media_diskette::count_lines` meets its contract: the answer for what is left of the file stays the same.
use Prim.Native.Nat.{◌-◌, ◌≤◌}
use mathlib.Core.Path.{◌≡◌}
use lib.ListN.{length, drop}
use Rattle.media_diskette.specs.Lines.{lines_in}
use Rattle.media_diskette.specs.Answers.{refused_by, offence, sized}
use Rattle.media_diskette.proofs.Judging.{counted}
use Rattle.media_diskette.proofs.count_lines.Given as goal

abbrev pub invariant-loop-i : goal.invariant-loop-i
invariant-loop-i l = (l.i ≤ length l.file) × (l.lines ≤ l.i) × (l.k ≤ l.i)
    × (refused_by (offence 0 0 l.file) (sized (length (lines_in l.file))) ≡ counted l.lines l.k (drop l.i l.file))

abbrev pub decreases-loop-i : goal.decreases-loop-i
decreases-loop-i l = length l.file - l.i
