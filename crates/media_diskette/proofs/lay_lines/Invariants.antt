-- `media_diskette::lay_lines` meets its contract: what was laid, and what is left to lay.
use Rattle.std.proofs.Common.{◌≡◌, ◌+◌, ◌≤◌, ◌++◌, length, drop}
use Rattle.std.specs.Slice.Iter.{chunks_exact_rest, chunks_exact_size}
use Rattle.media_diskette.specs.Lines.{disk_of}
use Rattle.media_diskette.proofs.Laying.{laid_at}
use Rattle.media_diskette.proofs.lay_lines.Given as goal

abbrev pub invariant-loop-card : goal.invariant-loop-card
invariant-loop-card l =
    record {
      size : chunks_exact_size l.card-iterator ≡ 80;
      room : l.at + length (disk_of (chunks_exact_rest l.card-iterator)) ≤ length l.out;
      laid : laid_at l.out l.at (disk_of (chunks_exact_rest l.card-iterator)) ≡ disk_of l.cards ++ drop (length (disk_of l.cards)) l.initial.out;
    }
