-- The table of ties as the code holds it: a row for each column of a layout that can carry a tie, one number whose hexadecimal
-- digits are its parts. No promise to a caller cites this.
use Rattle.std.specs.Prelude.{ℕ, zero, suc, ◌+◌, ◌*◌, ◌-◌, ◌/◌, ◌%◌, List, [], ◌∷◌, map, Bool, cond, eqb, ltb, length, get_or, Result}
use Rattle.base_lists.specs.Count.{bit, first as place}
use Rattle.value_field.specs.spelling.Reading.{whole_reading}
use Rattle.header_check.specs.forms.Cards.{byte_in}
use Rattle.value_text.specs.text.Texts.{text_of}
use Rattle.tie_rules.specs.Ties.{
  Source,
  digit,
  whole,
  serial,
  waypoint,
  only,
  allotted,
  nothing,
  Role,
  defines,
  refers,
  Tie,
  line_for,
  has_vessel,
  states_own,
  states_count,
  tie_columns,
}
use Rattle.tie_rules.specs.Keys.{between, whole_key, whole_in, paired, in_part, key_in, no_vessel}
use Rattle.tie_rules.specs.Offered.{text_class, pair_class, whole_offered}
use Rattle.tie_rules.specs.packed.Numbers.{packed}
use Rattle.base_value.specs.declared.Unread.{Unread}
use Rattle.base_value.specs.declared.Value.{Value}

-- a part of a number's range as one number: its least and its greatest number, in four digits each
abbrev pub part_of : ℕ → ℕ → ℕ
part_of least most = least * 65536 + most

-- the parts that the table names, numbered from 0
unfoldable pub parts : List ℕ
parts =
    part_of 1 9999 ∷
    part_of 200 299 ∷
    []

unfoldable pub part_at : ℕ → ℕ
part_at n = get_or parts n 0

-- how a key of a part is found: from 6 on, a number each
unfoldable pub how_of : ℕ → ℕ → ℕ
how_of least most = 6 + place (λ n. eqb (part_at n) (part_of least most)) (length parts)

-- a line as one number: its class, how the key is found, the key's first and last column, in one, one, two and two digits
abbrev pub coded : ℕ → ℕ → ℕ → ℕ → ℕ
coded class how first last = class * 1048576 + how * 65536 + first * 256 + last

unfoldable pub code_of : ℕ → Source → ℕ
code_of class digit = coded class 1 0 0
code_of class (whole first last) = coded class 2 first last
code_of class (serial first last) = coded class 3 first last
code_of class (waypoint first last) = coded class 4 first last
code_of class only = coded class 5 0 0
code_of class (allotted first last least most) = coded class (how_of least most) first last
code_of class nothing = coded class 0 0 0

unfoldable pub line_of : Tie → ℕ
line_of t = code_of t.class t.source

-- and back
unfoldable pub class_in : ℕ → ℕ
class_in line = line / 1048576

unfoldable pub source_by : ℕ → ℕ → ℕ → Source
source_by how first last =
    cond (eqb how 1) digit (cond (eqb how 2) (whole first last) (cond (eqb how 3) (serial first last)
    (cond (eqb how 4) (waypoint first last) (cond (eqb how 5) only
    (cond (eqb how 0) nothing (allotted first last (part_at (how - 6) / 65536) (part_at (how - 6) % 65536)))))))

unfoldable pub source_in : ℕ → Source
source_in line = source_by (line / 65536 % 16) (line / 256 % 256) (line % 256)

-- what a column states: 1 the card's own vessel, 2 a count
unfoldable pub stated_by : ℕ → ℕ → ℕ
stated_by k column = bit (states_own k column) + 2 * bit (states_count k column)

-- a row: what its column states, the line of its reference, the line of its definition, the column
unfoldable pub row_at : ℕ → ℕ → ℕ
row_at k column =
    stated_by k column * 72057594037927936 + line_of (line_for refers k column) * 4294967296 +
    line_of (line_for defines k column) * 256 + column

-- the rows of a layout: 1 where its code has a vessel digit, and then its columns counted from 1; 0 where there is none
unfoldable pub tie_row : ℕ → ℕ → ℕ
tie_row k n = get_or (bit (has_vessel k) ∷ map (row_at k) (tie_columns k)) n 0

-- the parts of a row
unfoldable pub column_in : ℕ → ℕ
column_in row = row % 256

unfoldable pub definition_in : ℕ → ℕ
definition_in row = row / 256 % 16777216

unfoldable pub reference_in : ℕ → ℕ
reference_in row = row / 4294967296 % 16777216

unfoldable pub own_in : ℕ → Bool
own_in row = eqb (row / 72057594037927936 % 2) 1

unfoldable pub counted_in : ℕ → Bool
counted_in row = eqb (row / 144115188075855872 % 2) 1

-- its column does no more than define
unfoldable pub only_defines : ℕ → Bool
only_defines row = ltb row 4294967296

-- the key that a source finds on a card for a class, as one number
unfoldable pub found_by : ℕ → Source → List ℕ → ℕ
found_by class digit s = packed class (whole_offered class ((byte_in s 5 - 48) ∷ []))
found_by class (whole first last) s = packed class (whole_offered class (whole_in first last s))
found_by class (serial first last) s = packed text_class (text_of (between first last s))
found_by class (waypoint first last) s = packed pair_class (paired (whole_in 7 7 s) (whole_in first last s))
found_by class only s = packed class (whole_offered class (0 ∷ []))
found_by class (allotted first last least most) s =
    packed class (whole_offered class (in_part least most (whole_in first last s)))
found_by class nothing s = 0

-- the key that a line finds
unfoldable pub found_in : ℕ → List ℕ → ℕ
found_in line s = found_by (class_in line) (source_in line) s

-- what a column does in a role on a card that a layout reads, as one number, 0 where it does nothing
unfoldable pub packed_by : Role → ℕ → List ℕ → ℕ → ℕ
packed_by r k s column = packed (line_for r k column).class (key_in (line_for r k column).source s)

-- the vessel digit on a card that a layout reads
unfoldable pub vessel_by : ℕ → List ℕ → ℕ
vessel_by k s = cond (has_vessel k) (byte_in s 4 - 48) no_vessel

-- a number that may not be there, counted from 1: 0 where it is not
unfoldable pub marked : List ℕ → ℕ
marked [] = 0
marked (n ∷ ns) = suc n

-- the same of a number that was read
unfoldable pub mark_of : Result Value Unread → ℕ
mark_of n = marked (whole_key (whole_reading n))

-- and back
abbrev pub unmarked : ℕ → List ℕ
unmarked zero = []
unmarked (suc n) = n ∷ []
