-- `value_number::number_entry::write_plain` meets its contract.
use Rattle.value_number.proofs.number_entry.Writing.{plain-whole, plain_short, plain-pointed}
use Rattle.base_digits.proofs.digits.Answers.{fitted, declined}
use Rattle.value_number.proofs.number_entry.write_plain.Goals as goal

pub returns-then-p-eq0 : goal.returns-then-p-eq0
returns-then-p-eq0 c =
    record { answer = (fitted c.args.columns.now c.fill_digits.new.columns (plain-whole _ _ _ c.if-p-eq0.true) c.fill_digits.ensures.columns).0; columns = (fitted c.args.columns.now c.fill_digits.new.columns (plain-whole _ _ _ c.if-p-eq0.true) c.fill_digits.ensures.columns).1 }

pub returns-then-columns-p : goal.returns-then-columns-p
returns-then-columns-p c =
    record { answer = (declined c.args.columns.now (plain_short _ _ _ c.if-p-eq0.false c.if-columns-p.true)).0; columns = (declined c.args.columns.now (plain_short _ _ _ c.if-p-eq0.false c.if-columns-p.true)).1 }

pub returns : goal.returns
returns c =
    record { answer = (fitted c.args.columns.now c.write_pointed.new.columns (plain-pointed _ _ _ c.if-p-eq0.false c.if-columns-p.false) c.write_pointed.ensures).0; columns = (fitted c.args.columns.now c.write_pointed.new.columns (plain-pointed _ _ _ c.if-p-eq0.false c.if-columns-p.false) c.write_pointed.ensures).1 }
