-- `volume_check::judging::last_card` meets its contract.
use Rattle.volume_check.proofs.judging.Parts.{last_starts, last-part}
use native.Mathlib.Omega.{arith}
use Rattle.volume_check.proofs.judging.last_card.Goals as goal

pub overflow_sub-from : goal.overflow_sub-from
overflow_sub-from c = let p = c.requires.some in omega arith

pub overflow_mul-from : goal.overflow_mul-from
overflow_mul-from c = omega (arith, last_starts _ _ c.requires)

pub slice_bounds-result-count : goal.slice_bounds-result-count
slice_bounds-result-count c = omega (arith, last_starts _ _ c.requires)

pub slice_bounds-result-start : goal.slice_bounds-result-start
slice_bounds-result-start c = omega (arith, last_starts _ _ c.requires)

pub returns : goal.returns
returns c = last-part _ _ c.requires
