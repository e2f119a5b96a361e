-- `volume_check::judging::is_stated` meets its contract.
use Rattle.std.proofs.Common.{arith}
use Rattle.std.proofs.lemmas.Bool.Decides.{nat_tests}
use Rattle.volume_rules.specs.Judged.{stated}
use Rattle.volume_check.proofs.judging.is_stated.Goals as goal

pub returns-then-cards-most : goal.returns-then-cards-most
unfolding stated
returns-then-cards-most c = grind (arith, nat_tests)

pub returns-else-cards-most : goal.returns-else-cards-most
unfolding stated
returns-else-cards-most c = grind (arith, nat_tests)
