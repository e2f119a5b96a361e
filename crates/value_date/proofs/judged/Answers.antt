-- `value_date::judged` meets its contract.
use Rattle.value_date.proofs.Reading.{dated_held, dated_outside}
use Rattle.value_date.proofs.judged.Goals as goal

pub returns-then-is_date : goal.returns-then-is_date
returns-then-is_date c = dated_held _ _ c.is_date.ensures c.if-is_date.true

pub returns : goal.returns
returns c = dated_outside _ _ c.is_date.ensures c.if-is_date.false
