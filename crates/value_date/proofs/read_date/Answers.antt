-- `value_date::read_date` meets its contract.
use mathlib.Core.Path.{◌∙◌}
use Rattle.value_date.proofs.Reading.{date_absent, date-width, date-other, date-small, date-digits}
use Rattle.value_date.proofs.read_date.Goals as goal

pub returns-then-padding-s : goal.returns-then-padding-s
returns-then-padding-s c = date_absent _ _ c.padding.ensures.found c.if-padding-s.true

pub returns-then-s-ne-WIDTH : goal.returns-then-s-ne-WIDTH
returns-then-s-ne-WIDTH c = date-width _ _ c.padding.ensures.found c.if-padding-s.false c.if-s-ne-WIDTH.true

pub returns-then-run-ne-WIDTH : goal.returns-then-run-ne-WIDTH
returns-then-run-ne-WIDTH c =
    date-other _ _ c.padding.ensures.found c.if-padding-s.false c.read_run-run.result c.read_run-run.ensures.found c.if-s-ne-WIDTH.false c.if-run-ne-WIDTH.true

pub judged-requires : goal.judged-requires
judged-requires c =
    date-small _ _ c.padding.ensures.found c.if-padding-s.false c.read_run-run.result c.read_run-run.ensures.found c.if-s-ne-WIDTH.false c.if-run-ne-WIDTH.false

pub returns : goal.returns
returns c =
    c.judged.ensures ∙ date-digits _ _ c.padding.ensures.found c.if-padding-s.false c.read_run-run.result c.read_run-run.ensures.found c.if-s-ne-WIDTH.false c.if-run-ne-WIDTH.false
