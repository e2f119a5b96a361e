-- `volume_form::most_of` meets its contract.
use mathlib.Core.Path.{ap, sym}
use native.Mathlib.Omega.{arith}
use Rattle.volume_form.specs.Rows.{row_of}
use Rattle.volume_form.proofs.most_of.Goals as goal

pub returns-in-Old : goal.returns-in-Old
unfolding row_of
returns-in-Old c =
    record {
      most = sym (ap (λ x. (row_of x).most) c.in-Old.is);
      within = omega arith;
    }

pub returns-in-Wide : goal.returns-in-Wide
unfolding row_of
returns-in-Wide c =
    record {
      most = sym (ap (λ x. (row_of x).most) c.in-Wide.is);
      within = omega arith;
    }
