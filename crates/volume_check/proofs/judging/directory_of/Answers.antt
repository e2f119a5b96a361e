-- `volume_check::judging::directory_of` meets its contract.
use mathlib.Core.Path.{ap, ◌∙◌}
use Prim.Native.Nat.{◌*◌, ◌-◌}
use lib.ListN.{take, drop}
use Rattle.volume_check.proofs.judging.Parts.{least, before_last, body_ends, directory-part}
use native.Mathlib.Omega.{arith}
use Rattle.volume_check.proofs.judging.directory_of.Goals as goal

pub first_of-first-requires : goal.first_of-first-requires
first_of-first-requires c = c.requires.cards

pub overflow_sub-from : goal.overflow_sub-from
overflow_sub-from c =
    omega (arith, c.first_of-first.ensures, least _ _ _ c.requires, before_last _ _ _ c.requires, body_ends _ _ _ c.requires)

pub overflow_mul-from : goal.overflow_mul-from
overflow_mul-from c =
    omega (arith, c.first_of-first.ensures, least _ _ _ c.requires, before_last _ _ _ c.requires, body_ends _ _ _ c.requires)

pub overflow_sub-end : goal.overflow_sub-end
overflow_sub-end c = let p = c.requires.cards.some in omega arith

pub overflow_mul-end : goal.overflow_mul-end
overflow_mul-end c = let p = c.requires.cards.whole in omega arith

pub slice_bounds-result-count : goal.slice_bounds-result-count
slice_bounds-result-count c =
    omega (arith, c.first_of-first.ensures, least _ _ _ c.requires, before_last _ _ _ c.requires, body_ends _ _ _ c.requires)

pub slice_bounds-result-start : goal.slice_bounds-result-start
slice_bounds-result-start c =
    omega (arith, c.first_of-first.ensures, least _ _ _ c.requires, before_last _ _ _ c.requires, body_ends _ _ _ c.requires)

pub slice_bounds-result-end : goal.slice_bounds-result-end
slice_bounds-result-end c = let p = c.requires.cards.whole in omega arith

pub returns : goal.returns
returns c =
    ap (λ k. take (80 * (c.args.cards - 1) - 80 * (k - 1)) (drop (80 * (k - 1)) c.args.volume.now)) c.first_of-first.ensures ∙ directory-part _ _ _ c.requires
