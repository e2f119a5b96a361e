-- `survey_datums::joining::times_defined` meets its contract.
use Rattle.survey_datums.proofs.Placing.{found_times}
use Rattle.survey_datums.proofs.joining.times_defined.Goals as goal

pub returns : goal.returns
returns c =
    let a = c.args in
    found_times a.header.now c.requires.0 a.datum c.packed_number.result c.packed_number.ensures c.in_header-found.result c.in_header-found.ensures
