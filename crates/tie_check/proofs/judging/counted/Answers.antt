-- `tie_check::judging::counted` meets its contract.
use Rattle.tie_check.proofs.judging.Stated.{no_vessel_lem, no_bin, a_bin}
use borrow.Author.Rules.{rules}
use Rattle.tie_check.proofs.judging.counted.Goals as goal

pub returns-then-vessel-eq0 : goal.returns-then-vessel-eq0
returns-then-vessel-eq0 c = no_vessel_lem _ (search rules) _ c.if-vessel-eq0.true

pub returns-then-vessel : goal.returns-then-vessel
returns-then-vessel c = no_bin _ (search rules) _ c.if-vessel-eq0.false c.if-vessel.true

pub returns : goal.returns
returns c = a_bin _ (search rules) _ c.if-vessel-eq0.false
