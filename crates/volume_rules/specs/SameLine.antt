-- Two headers of the same line: equal names without trailing blanks and equal sequence numbers, as fields 1 and 2 of H0000 are read.
use Rattle.std.specs.Prelude.{ℕ, zero, suc, Bool, false, ◌&&◌, ◌||◌, List, take, drop, eqb, ℤ, pos, negsuc, nat_abs, Result, Ok, Err}
use Rattle.base_lists.specs.Parts.{alike}
use Rattle.base_value.specs.declared.Value.TheVariants.{Absent, Whole, Decimal, Angle, Date, Text}
use Rattle.base_value.specs.declared.Unread.TheVariants.{Malformed, OutOfRange}
use Rattle.value_text.specs.text.Texts.{text_of}
use Rattle.value_field.specs.declared.spelling.Spelling.TheVariants as spelled
use Rattle.value_field.specs.spelling.Reading.{reading_of}
use Rattle.volume_form.specs.Marked.{name_of, sequence_of}
use Rattle.base_value.specs.declared.Unread.{Unread}
use Rattle.base_value.specs.declared.Value.{Value}

-- the sort of a sequence number that was read: 0 for blanks, 1 for one from 0 up, 2 for one below zero, 3 for what is no number
abbrev pub sign_in : ℤ → ℕ
sign_in (pos n) = 1
sign_in (negsuc n) = 2

unfoldable pub sort_of : Result Value Unread → ℕ
sort_of (Ok Absent) = 0
sort_of (Ok (Whole z)) = sign_in z
sort_of (Ok (Decimal d)) = 3
sort_of (Ok (Angle z)) = 3
sort_of (Ok (Date d)) = 3
sort_of (Ok (Text c)) = 3
sort_of (Err Malformed) = 3
sort_of (Err OutOfRange) = 3

-- its size without the sign
unfoldable pub size_of : Result Value Unread → ℕ
size_of (Ok Absent) = 0
size_of (Ok (Whole z)) = nat_abs z
size_of (Ok (Decimal d)) = 0
size_of (Ok (Angle z)) = 0
size_of (Ok (Date d)) = 0
size_of (Ok (Text c)) = 0
size_of (Err Malformed) = 0
size_of (Err OutOfRange) = 0

-- sequence numbers, as they stand in their columns, are equal by value; blank only to blank
unfoldable pub same_number : List ℕ → List ℕ → Bool
same_number s t =
    eqb (sort_of (reading_of spelled.Whole s)) (sort_of (reading_of spelled.Whole t))
    && eqb (size_of (reading_of spelled.Whole s)) (size_of (reading_of spelled.Whole t))

-- the names and the sequence numbers of two lines
unfoldable pub same_in : List ℕ → List ℕ → List ℕ → List ℕ → Bool
same_in name sequence name' sequence' = alike (text_of name) (text_of name') && same_number sequence sequence'

unfoldable pub same_line : List ℕ → List ℕ → Bool
same_line h g = same_in (name_of h) (sequence_of h) (name_of g) (sequence_of g)

-- the same, told from their directory cards: columns 7 to 22 and 24 to 27
unfoldable pub name_on : List ℕ → List ℕ
name_on card = take 16 (drop 6 card)

unfoldable pub sequence_on : List ℕ → List ℕ
sequence_on card = take 4 (drop 23 card)

unfoldable pub same_on : List ℕ → List ℕ → Bool
same_on card other = same_in (name_on card) (sequence_on card) (name_on other) (sequence_on other)

-- one of the k directory cards d is of the same line as a card
unfoldable pub superseded_on : List ℕ → List ℕ → ℕ → Bool
superseded_on card d zero = false
superseded_on card d (suc k) = same_on card (take 80 d) || superseded_on card (drop 80 d) k
