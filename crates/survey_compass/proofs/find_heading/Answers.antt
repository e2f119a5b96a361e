-- `survey_compass::find_heading` meets its contract.
use mathlib.Core.Path.{refl, ap}
use mir.ValLaws.{to_z-of_z}
use mir.Syntax.{w64}
use Rattle.std.specs.Prelude.{Ok}
use Rattle.std.proofs.lemmas.Result.{err_from_is_err_and}
use Rattle.survey_compass.proofs.Told.{key_refused, key_none, key_several, key_once}
use Rattle.survey_compass.proofs.find_heading.Goals as goal

pub returns-in_err-defined : goal.returns-in_err-defined
returns-in_err-defined c =
    let a = c.args in
    let p = err_from_is_err_and c.from_residual.result c.from_residual.ensures.1 in
    rw (p.1, p.2) (key_refused a.header.now a.serial.now a.raw a.direction _ c.in_err-defined.ensures _ refl)

pub returns-in-None : goal.returns-in-None
returns-in-None c =
    let a = c.args in
    key_none a.header.now a.serial.now a.raw a.direction _ c.in_ok-defined.ensures (ap Ok c.in-None.is) _ c.refused.ensures

pub returns-in-Several : goal.returns-in-Several
returns-in-Several c =
    let a = c.args in
    key_several a.header.now a.serial.now a.raw a.direction _ c.in_ok-defined.ensures _ (ap Ok c.in-Several.is) _ c.refused-in-Several.ensures

pub returns-in-Only : goal.returns-in-Only
returns-in-Only c =
    let a = c.args in
    key_once a.header.now a.serial.now a.raw a.direction _ (to_z-of_z w64 a.direction c.ranges.direction)
    _ c.in_ok-defined.ensures _ _ (ap Ok c.in-Only.is) _ c.stretch.ensures _ c.for_serial.ensures
