-- The keys on one card. A key is a list of numbers: a whole number, the two of a pair, or the bytes of a text; no numbers, no
-- key. Keys are equal by value, texts without the blanks behind them.
use Rattle.std.specs.Prelude.{ℕ, ◌-◌, List, [], ◌∷◌, ◌++◌, Bool, true, false, cond, ◌&&◌, not, eqb, leb, ltb, pos, negsuc, take, drop, Result, Ok, Err}
use Rattle.base_lists.specs.Parts.{alike}
use Rattle.value_text.specs.text.Texts.{text_of}
use Rattle.base_value.specs.declared.Value.TheVariants.{Absent, Whole, Decimal, Angle, Date, Text}
use Rattle.base_value.specs.declared.Unread.TheVariants.{Malformed, OutOfRange}
use Rattle.value_field.specs.declared.spelling.Spelling.TheVariants as spelled
use Rattle.value_field.specs.spelling.Reading.{reading_of}
use Rattle.header_check.specs.forms.Cards.{byte_in, layout_of}
use Rattle.tie_rules.specs.Ties.{Source, digit, whole, serial, waypoint, only, allotted, nothing, Role, defines, line_for, has_vessel}
use Rattle.base_value.specs.declared.Unread.{Unread}
use Rattle.base_value.specs.declared.Value.{Value}

-- there is no key
unfoldable pub is_none : List ℕ → Bool
is_none [] = true
is_none (n ∷ ns) = false

-- the columns from one to another
unfoldable pub between : ℕ → ℕ → List ℕ → List ℕ
between first last s = take (last - (first - 1)) (drop (first - 1) s)

-- a whole number that was read, as a key
unfoldable pub whole_key : Result Value Unread → List ℕ
whole_key (Ok (Whole (pos n))) = n ∷ []
whole_key (Ok (Whole (negsuc n))) = []
whole_key (Ok Absent) = []
whole_key (Ok (Decimal d)) = []
whole_key (Ok (Angle z)) = []
whole_key (Ok (Date d)) = []
whole_key (Ok (Text c)) = []
whole_key (Err Malformed) = []
whole_key (Err OutOfRange) = []

-- the whole number in some columns
unfoldable pub whole_in : ℕ → ℕ → List ℕ → List ℕ
whole_in first last s = whole_key (reading_of spelled.Whole (between first last s))

-- two numbers as a pair, where both are there
unfoldable pub paired : List ℕ → List ℕ → List ℕ
paired a b = cond (is_none a) [] (cond (is_none b) [] (a ++ b))

-- a number where it is one from a least to a greatest
unfoldable pub in_part : ℕ → ℕ → List ℕ → List ℕ
in_part least most [] = []
in_part least most (n ∷ ns) = cond (leb least n && leb n most) (n ∷ ns) []

-- the key that stands on a card
unfoldable pub key_in : Source → List ℕ → List ℕ
key_in digit s = (byte_in s 5 - 48) ∷ []
key_in (whole first last) s = whole_in first last s
key_in (serial first last) s = text_of (between first last s)
key_in (waypoint first last) s = paired (whole_in 7 7 s) (whole_in first last s)
key_in only s = 0 ∷ []
key_in (allotted first last least most) s = in_part least most (whole_in first last s)
key_in nothing s = []

-- what a column of a card does in a role: for which class, 0 for none, and with which key
unfoldable pub class_at : Role → List ℕ → ℕ → ℕ
class_at r s column = (line_for r (layout_of s) column).class

unfoldable pub key_at : Role → List ℕ → ℕ → List ℕ
key_at r s column = key_in (line_for r (layout_of s) column).source s

-- a column of a card refers to a key, or defines one
unfoldable pub holds_key : Role → List ℕ → ℕ → Bool
holds_key r s column = not (is_none (key_at r s column))

-- a column of a card defines the key of a class
unfoldable pub defines_key : List ℕ → ℕ → List ℕ → ℕ → Bool
defines_key s class key column =
    holds_key defines s column && (eqb (class_at defines s column) class && alike (key_at defines s column) key)

-- the vessel digit in a card's code, 10 where it has none
abbrev pub no_vessel : ℕ
no_vessel = 10

unfoldable pub vessel_of : List ℕ → ℕ
vessel_of s = cond (has_vessel (layout_of s)) (byte_in s 4 - 48) no_vessel

-- two vessel digits are there and differ
unfoldable pub contradict : ℕ → ℕ → Bool
contradict a b = ltb a no_vessel && (ltb b no_vessel && not (eqb a b))
