-- `value_coordinate::angle::is_spelled` meets its contract.
use Rattle.value_coordinate.specs.angle.Angles.{is_spelled}
use Rattle.value_coordinate.proofs.angle.is_spelled.Goals as goal

pub returns : goal.returns
unfolding is_spelled
returns c =
    rw (c.is_number.ensures, c.is_number-2.ensures, c.is_number-3.ensures, c.is_number-4.ensures, c.letter.ensures, c.letter-2.ensures)
