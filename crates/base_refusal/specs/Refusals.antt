-- Refusals: the paper's number, the card and the column; and the number of what kept something from being written.
use Rattle.std.specs.Prelude.{ℕ, Result, Ok, Err, ⊤}
use Rattle.base_refusal.specs.declared.Refusal.{Refusal}
use Rattle.base_refusal.specs.declared.Unwritten.{Unwritten}
use Rattle.base_refusal.specs.declared.Unwritten.TheVariants.{Unprintable, Malformed, OutOfRange, OtherKind, NoRoom}

abbrev pub refusal : ℕ → ℕ → ℕ → Refusal
refusal n card column = record { number = n; card = card; column = column }

-- what was asked for is done, or what was judged is in order
abbrev pub no_refusal : {E : Type 0} → Result ⊤ E
no_refusal = Ok (record {})

-- the paper's number of what came of writing, 0 where it is done
abbrev pub refusal_of : Result ⊤ Unwritten → ℕ
refusal_of (Ok _) = 0
refusal_of (Err Unprintable) = 4
refusal_of (Err Malformed) = 9
refusal_of (Err OutOfRange) = 10
refusal_of (Err OtherKind) = 12
refusal_of (Err NoRoom) = 14
