-- The values at the edge: what some columns say, and what stands there once that is rewritten.
use Rattle.std.specs.Prelude.{ℕ, Bool, cond, List, [], ◌∷◌, ℤ, pos, negsuc, Result, Ok, Err}
use Prim.Native.Char.{code}
use Prim.Native.String.{String, [] as ε, ◌∷◌ as ◌▸◌}
use Rattle.base_digits.specs.digits.Columns.{entered_in}
use Rattle.base_value.specs.declared.Value.{Value}
use Rattle.base_value.specs.declared.Value.TheVariants as value
use Rattle.base_value.specs.declared.Unread.TheVariants.{Malformed, OutOfRange}
use Rattle.base_value.specs.Reading.{refusal_of}
use Rattle.value_field.specs.declared.spelling.Spelling.{Spelling}
use Rattle.value_field.specs.declared.spelling.Spelling.TheVariants.{Decimal, Date, Latitude, Longitude}
use Rattle.value_field.specs.spelling.Reading.{reading_of, misplaced_in}
use Rattle.value_field.specs.writing.Writing.{rewritten_of}
use Rattle.base_value.specs.declared.Unread.{Unread}

abbrev pub bytes : String → List ℕ
bytes ε = []
bytes (c ▸ s) = code c ∷ bytes s

-- what columns say: a value, one that is misplaced, or the paper's number of a refusal
pub data Said : Type 0 where
  says : Value → Said
  misplaces : Value → Said
  refuses : ℕ → Said

abbrev pub said_by : Bool → Result Value Unread → Said
said_by misplaced (Ok v) = cond misplaced (misplaces v) (says v)
said_by misplaced (Err Malformed) = refuses (refusal_of (Err Malformed))
said_by misplaced (Err OutOfRange) = refuses (refusal_of (Err OutOfRange))

-- a spelling, the columns, what they say, and the columns rewritten: as they were where they say nothing
pub record Case : Type 0 where
  pub spelling : Spelling
  pub columns : List ℕ
  pub said : Said
  pub again : List ℕ

-- columns that are read, and rewritten
abbrev pub reads : Spelling → String → Value → String → Case
reads k s v t = record { spelling = k; columns = bytes s; said = says v; again = bytes t }

-- the same of a number that is misplaced
abbrev pub reads_left : Spelling → String → Value → String → Case
reads_left k s v t = record { spelling = k; columns = bytes s; said = misplaces v; again = bytes t }

-- columns that are refused, with the number
abbrev pub refused : Spelling → String → ℕ → Case
refused k s n = record { spelling = k; columns = bytes s; said = refuses n; again = bytes s }

-- units with places
abbrev pub decimal : ℤ → ℕ → Value
decimal z p = value.Decimal (record { units = z; places = p })

abbrev pub edges : List Case
edges =
    reads Decimal "  -12.50" (decimal (negsuc 1249) 2) "  -12.50"
    ∷ reads Decimal ".5" (decimal (pos 5) 1) ".5"
    ∷ reads Decimal " .5" (decimal (pos 5) 1) "0.5"
    ∷ reads Decimal "+7." (decimal (pos 7) 0) "  7"
    ∷ reads Decimal "-0.0" (decimal (pos 0) 1) " 0.0"
    ∷ refused Decimal "1 2" 9
    ∷ reads_left Decimal "12 " (decimal (pos 12) 0) " 12"
    ∷ refused Decimal "." 9
    ∷ reads Latitude "0900000.000N" (value.Angle (pos 324000000)) "0900000.000N"
    ∷ refused Latitude "0900000.001N" 10
    ∷ reads Latitude "0000000.001S" (value.Angle (negsuc 0)) "0000000.001S"
    ∷ reads Longitude "0013000.500W" (value.Angle (negsuc 5400499)) "0013000.500W"
    ∷ reads Date "20000229" (value.Date (record { year = 2000; month = 2; day = 29 })) "20000229"
    ∷ refused Date "19000229" 10
    ∷ []

-- what the definitions make of a case
abbrev pub found : Case → Case
found c =
    record {
      spelling = c.spelling;
      columns = c.columns;
      said = said_by (misplaced_in c.spelling c.columns) (reading_of c.spelling c.columns);
      again = entered_in (rewritten_of c.spelling c.columns) c.columns;
    }
