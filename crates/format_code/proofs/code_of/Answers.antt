-- `format_code::code_of` meets its contract: only five bytes are a code.
use Rattle.format_code.proofs.Walk.{wrong_length}
use Rattle.format_code.proofs.code_of.Goals as goal

pub returns-then-code-ne5 : goal.returns-then-code-ne5
returns-then-code-ne5 c = wrong_length _ c.if-code-ne5.true

pub returns : goal.returns
returns c = c.read_by.ensures
