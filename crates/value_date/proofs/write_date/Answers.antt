-- `value_date::write_date` meets its contract.
use Rattle.base_digits.proofs.digits.Answers.{made, turned_away}
use Rattle.value_date.proofs.Reading.{in_outside, in_short, in_eight}
use Rattle.value_date.proofs.write_date.Goals as goal

pub returns-then-not-is_date : goal.returns-then-not-is_date
returns-then-not-is_date c =
    record { answer = (turned_away c.args.columns.now (in_outside _ _ c.is_date.ensures _ c.if-not-is_date.true)).0; columns = (turned_away c.args.columns.now (in_outside _ _ c.is_date.ensures _ c.if-not-is_date.true)).1 }

pub returns-then-columns-ne-WIDTH : goal.returns-then-columns-ne-WIDTH
returns-then-columns-ne-WIDTH c =
    record { answer = (turned_away c.args.columns.now (in_short _ _ c.is_date.ensures _ c.if-not-is_date.false c.if-columns-ne-WIDTH.true)).0; columns = (turned_away c.args.columns.now (in_short _ _ c.is_date.ensures _ c.if-not-is_date.false c.if-columns-ne-WIDTH.true)).1 }

pub returns : goal.returns
returns c =
    record { answer = (made c.args.columns.now c.fill_digits.new.columns (in_eight _ _ c.is_date.ensures _ c.if-not-is_date.false c.if-columns-ne-WIDTH.false _ c.number_of.ensures) c.fill_digits.ensures.columns).0; columns = (made c.args.columns.now c.fill_digits.new.columns (in_eight _ _ c.is_date.ensures _ c.if-not-is_date.false c.if-columns-ne-WIDTH.false _ c.number_of.ensures) c.fill_digits.ensures.columns).1 }
