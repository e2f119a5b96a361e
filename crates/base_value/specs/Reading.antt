-- What a reading that is no value is called.
use Rattle.std.specs.Prelude.{ℕ, Result, Ok, Err}
use Rattle.base_value.specs.declared.Value.TheVariants.{Absent, Whole, Decimal, Angle, Date, Text}
use Rattle.base_value.specs.declared.Unread.TheVariants.{Malformed, OutOfRange}
use Rattle.base_value.specs.declared.Unread.{Unread}
use Rattle.base_value.specs.declared.Value.{Value}

-- the paper's number of a reading that is none, 0 for one that is
abbrev pub refusal_of : Result Value Unread → ℕ
refusal_of (Ok v) = 0
refusal_of (Err Malformed) = 9
refusal_of (Err OutOfRange) = 10

-- the same of columns that are needed: 11 where they are blank
abbrev pub offence_of : Result Value Unread → ℕ
offence_of (Ok Absent) = 11
offence_of (Ok (Whole z)) = 0
offence_of (Ok (Decimal d)) = 0
offence_of (Ok (Angle z)) = 0
offence_of (Ok (Date d)) = 0
offence_of (Ok (Text c)) = 0
offence_of (Err Malformed) = 9
offence_of (Err OutOfRange) = 10
