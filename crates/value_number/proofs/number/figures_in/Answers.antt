-- `value_number::number::figures_in` meets its contract.
use Rattle.value_number.proofs.number.Parsing.{figures_whole, figures_no_point_in_whole, figures_other-byte, figures_odd_places, figures_places}
use Rattle.base_digits.proofs.digits.Parts.{rest_part}
use mathlib.Core.Path.{◌∙◌}
use native.Mathlib.Omega.{arith}
use Rattle.value_number.proofs.number.figures_in.Goals as goal

pub returns-then-a-t : goal.returns-then-a-t
returns-then-a-t c =
    c.counted.ensures ∙ figures_whole _ c.read_run-whole.result c.read_run-whole.ensures.found _ c.if-a-t.true

pub returns-then-not-pointed : goal.returns-then-not-pointed
returns-then-not-pointed c =
    figures_no_point_in_whole _ c.read_run-whole.result c.read_run-whole.ensures.found (omega arith) _ c.if-not-pointed.true

pub returns-then-t-a-ne-POINT : goal.returns-then-t-a-ne-POINT
returns-then-t-a-ne-POINT c =
    figures_other-byte _ c.read_run-whole.result c.read_run-whole.ensures.found (omega arith) _ c.if-t-a-ne-POINT.true

pub returns-then-b-rest : goal.returns-then-b-rest
returns-then-b-rest c =
    figures_odd_places _ c.read_run-whole.result c.read_run-whole.ensures.found (omega arith) c.read_run-broken.result (rw rest_part at c.read_run-broken.ensures.found) c.if-t-a-ne-POINT.false _ c.if-not-pointed.false (rw rest_part at c.if-b-rest.true)

pub returns : goal.returns
returns c =
    c.counted-2.ensures ∙ figures_places _ c.read_run-whole.result c.read_run-whole.ensures.found (omega arith) c.read_run-broken.result (rw rest_part at c.read_run-broken.ensures.found) c.if-t-a-ne-POINT.false _ c.if-not-pointed.false (rw rest_part at c.if-b-rest.false)
