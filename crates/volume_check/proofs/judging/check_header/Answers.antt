-- `volume_check::judging::check_header` meets its contract.
use Rattle.std.proofs.Common.{arith}
use Rattle.std.proofs.lemmas.Bool.Decides.{nat_tests}
use Rattle.header_check.specs.forms.Cards.{cards_in}
use Rattle.volume_rules.specs.Judged.{header_answer}
use Rattle.volume_check.proofs.judging.check_header.Goals as goal

pub returns-then-largest-header : goal.returns-then-largest-header
unfolding header_answer cards_in
returns-then-largest-header c = grind (arith, nat_tests)

pub returns : goal.returns
unfolding header_answer cards_in
returns c = grind (arith, nat_tests)
