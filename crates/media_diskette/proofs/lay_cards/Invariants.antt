-- `media_diskette::lay_cards` meets its contract: what was laid, and what is left of the file.
use Prim.Native.Nat.{◌+◌, ◌*◌, ◌-◌, ◌≤◌}
use mathlib.Core.Path.{◌≡◌}
use mathlib.Core.List.{◌++◌}
use lib.ListN.{length, drop}
use Rattle.media_diskette.specs.Lines.{lines_in, cards_from}
use Rattle.media_diskette.proofs.Laying.{laid_at}
use Rattle.media_diskette.proofs.Filing.{Filed}
use Rattle.media_diskette.proofs.lay_cards.Given as goal

abbrev pub invariant-loop-i : goal.invariant-loop-i
invariant-loop-i l = (l.i ≤ length l.file) × (length l.out ≡ length l.initial.out) × Filed (drop l.i l.file) (lines_in (drop l.i l.file))
    × (l.at + length (lines_in (drop l.i l.file)) * 80 ≤ length l.out)
    × (laid_at l.out l.at (cards_from (drop l.i l.file)) ≡ cards_from l.file ++ drop (length (lines_in l.file) * 80) l.initial.out)

abbrev pub decreases-loop-i : goal.decreases-loop-i
decreases-loop-i l = length l.file - l.i
