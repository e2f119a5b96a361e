-- `volume_check::judging::body_of` meets its contract.
use mathlib.Core.Path.{sym, ap}
use Prim.Native.Nat.{◌*◌, ◌-◌}
use lib.ListN.{take}
use lib.Seq.{length-take-le}
use Rattle.volume_check.proofs.judging.Parts.{least, before_last, body_ends}
use Rattle.volume_rules.specs.Sound.{body_of}
use native.Mathlib.Omega.{arith}
use Rattle.volume_check.proofs.judging.body_of.Goals as goal

pub first_of-first-requires : goal.first_of-first-requires
first_of-first-requires c = c.requires.cards

pub overflow_sub-end : goal.overflow_sub-end
overflow_sub-end c =
    omega (arith, c.first_of-first.ensures, least _ _ _ c.requires, before_last _ _ _ c.requires, body_ends _ _ _ c.requires)

pub overflow_mul-end : goal.overflow_mul-end
overflow_mul-end c =
    omega (arith, c.first_of-first.ensures, least _ _ _ c.requires, before_last _ _ _ c.requires, body_ends _ _ _ c.requires)

pub slice_bounds-result-end : goal.slice_bounds-result-end
slice_bounds-result-end c =
    sym (length-take-le _ c.args.volume.now (omega (arith, c.first_of-first.ensures, body_ends _ _ _ c.requires)))

pub returns : goal.returns
unfolding body_of
returns c = ap (λ k. take (80 * (k - 1)) c.args.volume.now) c.first_of-first.ensures
