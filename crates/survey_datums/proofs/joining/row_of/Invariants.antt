-- `survey_datums::joining::row_of` meets its contract.
use mathlib.Core.Path.{◌≡◌}
use lib.ListN.{length}
use Rattle.std.specs.Iterator.Adapters.{enumerate_count, enumerate_source}
use Rattle.std.specs.Slice.Iter.{chunks_exact_rest, chunks_exact_size}
use Rattle.survey_datums.proofs.Noting.{Reading, Filled}
use Rattle.survey_datums.proofs.joining.row_of.Given as goal

abbrev pub invariant-loop-place : goal.invariant-loop-place
invariant-loop-place l =
    let cards = enumerate_source l.place-iterator in
    let n = enumerate_count l.place-iterator in
    record {
      reading : Reading l.header (chunks_exact_rest cards) (chunks_exact_size cards) n;
      long : length l.row ≡ 9;
      filled : Filled l.header l.datum l.row n;
    }
