-- `volume_check::judging::check_headers` meets its contract.
use Prim.Native.Nat.{ℕ, ◌/◌, ◌≤◌}
use mathlib.Core.Path.{◌≡◌}
use mathlib.Core.Bool.{true}
use lib.ListN.{length}
use Rattle.std.specs.Slice.Iter.{chunks_exact_rest, chunks_exact_size}
use Rattle.volume_form.specs.Rows.{row_of}
use Rattle.volume_rules.specs.Sound.{covers, headers_in}
use Rattle.volume_rules.specs.Judged.{headers_answer}
use Rattle.volume_check.proofs.judging.check_headers.Given as goal

abbrev pub invariant-loop-card : goal.invariant-loop-card
invariant-loop-card l = record {
  size : chunks_exact_size l.card-iterator ≡ 80;
  near : length l.rest ≤ length l.body;
  covered : (at : ℕ) × (covers (row_of l.form) at l.rest (chunks_exact_rest l.card-iterator) (length (chunks_exact_rest l.card-iterator) / 80) ≡ true);
  same : headers_answer (row_of l.form) (headers_in (row_of l.form) l.body l.directory (length l.directory / 80))
      ≡ headers_answer (row_of l.form) (headers_in (row_of l.form) l.rest (chunks_exact_rest l.card-iterator) (length (chunks_exact_rest l.card-iterator) / 80));
}
