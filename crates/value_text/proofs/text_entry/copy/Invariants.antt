-- `value_text::text_entry::copy` meets its contract.
use Rattle.std.proofs.Common.{◌≡◌, ◌++◌, take, drop}
use Rattle.value_text.proofs.text_entry.copy.Given as goal

abbrev pub invariant-loop-i : goal.invariant-loop-i
invariant-loop-i l = l.columns ≡ take l.i l.text ++ drop l.i l.initial.columns
