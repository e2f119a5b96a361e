-- The answer of the check, and the lent list behind it.
use Rattle.std.specs.Prelude.{ℕ, List, Result, Ok, Err, ⊤}
use Rattle.base_lists.specs.Laid.{laid}
use Rattle.tie_rules.specs.Faults.{entry_size}
use Rattle.base_refusal.specs.declared.Refusal.{Refusal}

-- the header's refusal, or the number of all faults
unfoldable pub answer_for : Result ⊤ Refusal → ℕ → Result ℕ Refusal
answer_for (Ok _) n = Ok n
answer_for (Err r) n = Err r

-- the list as it was, or as many whole entries as fit and the rest as it was
unfoldable pub list_for : Result ⊤ Refusal → List ℕ → List ℕ → List ℕ
list_for (Ok _) l w = laid entry_size l w
list_for (Err r) l w = l
