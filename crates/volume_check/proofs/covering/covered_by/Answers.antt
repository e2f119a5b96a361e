-- `volume_check::covering::covered_by` meets its contract.
use mathlib.Core.Path.{refl, sym, ◌∙◌}
use Rattle.volume_check.proofs.covering.Walks.{covers_stops, covers_goes, covers-ends}
use native.Mathlib.Omega.{arith}
use Rattle.volume_check.proofs.covering.covered_by.Goals as goal

pub returns-in_default : goal.returns-in_default
returns-in_default c =
    let w = c.in-Some.ensures.steps in let v = c.loop-card.invariant in
    sym (v.same ∙ covers_stops _ _ _ _ _ _ _ w.1.0 (w.1.1 ∙ v.size) c.in_default.ensures.told refl)

pub loop-card-preserved : goal.loop-card-preserved
loop-card-preserved c =
    let w = c.in-Some.ensures.steps in let v = c.loop-card.invariant in
    record {
      size = w.0 ∙ v.size;
      near = omega arith;
      same = v.same ∙ covers_goes _ _ _ _ _ _ _ w.1.0 (w.1.1 ∙ v.size) c.in-Some-count_of.ensures.told (λ z. omega (arith, c.in-Some-count_of.ensures.within)) _ refl;
    }

pub returns : goal.returns
returns c =
    let w = c.in-None.ensures.steps in let v = c.loop-card.invariant in
    c.is_empty.ensures ∙ sym (v.same ∙ covers-ends _ _ _ _ (omega (arith, w.1.0, v.size)))
