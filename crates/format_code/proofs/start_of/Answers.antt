-- `format_code::start_of` meets its contract: the patterns before each start take only lower codes, by computed tests.
use native.Mathlib.Omega.{arith}
use Rattle.format_layout.specs.Table.{layouts, passed_codes}
use Rattle.format_code.specs.Codes.{codes}
use Rattle.format_code.proofs.Skip.{from_comments, from_word}
use Rattle.format_code.proofs.start_of.Goals as goal

pub returns-in-310129983488-to-18446744073709551615 : goal.returns-in-310129983488-to-18446744073709551615
unfolding codes layouts passed_codes
returns-in-310129983488-to-18446744073709551615 c = (omega arith, from_word 27 310129983488 (omega arith) tt _ (omega arith))

pub returns-in-310079861040-to-18446744073709551615 : goal.returns-in-310079861040-to-18446744073709551615
unfolding codes layouts passed_codes
returns-in-310079861040-to-18446744073709551615 c = (omega arith, from_word 24 310079861040 (omega arith) tt _ (omega arith))

pub returns-in-310079848448-to-18446744073709551615 : goal.returns-in-310079848448-to-18446744073709551615
unfolding codes layouts passed_codes
returns-in-310079848448-to-18446744073709551615 c = (omega arith, from_word 23 310079848448 (omega arith) tt _ (omega arith))

pub returns-in-310079782912-to-18446744073709551615 : goal.returns-in-310079782912-to-18446744073709551615
unfolding codes layouts passed_codes
returns-in-310079782912-to-18446744073709551615 c = (omega arith, from_word 22 310079782912 (omega arith) tt _ (omega arith))

pub returns-in-310079717376-to-18446744073709551615 : goal.returns-in-310079717376-to-18446744073709551615
unfolding codes layouts passed_codes
returns-in-310079717376-to-18446744073709551615 c = (omega arith, from_word 18 310079717376 (omega arith) tt _ (omega arith))

pub returns-in-310063333376-to-18446744073709551615 : goal.returns-in-310063333376-to-18446744073709551615
unfolding codes layouts passed_codes
returns-in-310063333376-to-18446744073709551615 c = (omega arith, from_word 16 310063333376 (omega arith) tt _ (omega arith))

pub returns-in-310046175281-to-18446744073709551615 : goal.returns-in-310046175281-to-18446744073709551615
unfolding codes layouts passed_codes
returns-in-310046175281-to-18446744073709551615 c = (omega arith, from_word 13 310046175281 (omega arith) tt _ (omega arith))

pub returns-in-310046162944-to-18446744073709551615 : goal.returns-in-310046162944-to-18446744073709551615
unfolding codes layouts passed_codes
returns-in-310046162944-to-18446744073709551615 c = (omega arith, from_word 12 310046162944 (omega arith) tt _ (omega arith))

pub returns-in_default : goal.returns-in_default
unfolding codes layouts passed_codes
returns-in_default c = (omega arith, from_comments _ (omega arith))
