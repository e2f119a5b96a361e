-- `volume_check::covering::covered_by` meets its contract.
use Prim.Native.Nat.{◌+◌, ◌/◌, ◌≤◌}
use mathlib.Core.Path.{◌≡◌}
use lib.ListN.{length}
use Rattle.std.specs.Slice.Iter.{chunks_exact_rest, chunks_exact_size}
use Rattle.volume_form.specs.Rows.{row_of}
use Rattle.volume_rules.specs.Sound.{covers}
use Rattle.volume_check.proofs.covering.covered_by.Given as goal

abbrev pub invariant-loop-card : goal.invariant-loop-card
invariant-loop-card l = record {
  size : chunks_exact_size l.card-iterator ≡ 80;
  near : l.at + length l.rest / 80 ≤ 1 + length l.body / 80;
  same : covers (row_of l.form) 1 l.body l.directory (length l.directory / 80)
      ≡ covers (row_of l.form) l.at l.rest (chunks_exact_rest l.card-iterator) (length (chunks_exact_rest l.card-iterator) / 80);
}
