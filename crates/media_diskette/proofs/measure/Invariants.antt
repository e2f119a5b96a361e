-- `media_diskette::measure` meets its contract: the answer for the cards that are left stays the same.
use Rattle.std.proofs.Common.{◌≡◌, ◌+◌, ◌*◌, ◌/◌, ◌≤◌, length}
use Rattle.std.specs.Slice.Iter.{chunks_exact_rest, chunks_exact_size}
use Rattle.std.specs.Iterator.Adapters.{enumerate_source, enumerate_count}
use Rattle.media_diskette.specs.Lines.{lines_of}
use Rattle.media_diskette.specs.Answers.{refused_by, bad_byte}
use Rattle.media_diskette.proofs.Judging.{measured}
use Rattle.media_diskette.proofs.measure.Given as goal
use Rattle.std.specs.Prelude.{Ok}

abbrev pub invariant-loop-place : goal.invariant-loop-place
invariant-loop-place l =
    let rest = chunks_exact_rest (enumerate_source l.place-iterator) in
    let count = enumerate_count l.place-iterator in
    record {
      each : chunks_exact_size (enumerate_source l.place-iterator) ≡ 80;
      few : count + length rest / 80 ≡ length l.cards / 80;
      small : l.size ≤ 82 * count;
      same : refused_by (bad_byte 0 (length l.cards / 80) l.cards) (Ok (length (lines_of (length l.cards / 80) l.cards)))
          ≡ measured count (length rest / 80) l.size rest;
    }
