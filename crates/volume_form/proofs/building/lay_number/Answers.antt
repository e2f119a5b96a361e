-- `volume_form::building::lay_number` meets its contract.
use Rattle.volume_form.proofs.building.Built.{number_laid'}
use native.Mathlib.Omega.{arith}
use Rattle.volume_form.proofs.building.lay_number.Goals as goal

pub returns : goal.returns
returns c =
    number_laid' _ c.blank.new.s _ c.args.at c.args.width c.args.n c.size_of-digits.result (omega arith) (omega arith) c.size_of-digits.ensures.found c.blank.ensures c.fill_digits.ensures.columns
