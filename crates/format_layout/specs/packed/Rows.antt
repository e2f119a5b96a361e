-- How the code holds the table: a code's bytes as one number, and a field as one whose hexadecimal digits are its parts. No
-- promise to a caller cites this.
use Rattle.std.specs.Prelude.{ℕ, ◌+◌, ◌-◌, ◌*◌, ◌/◌, ◌%◌, Bool, true, false, cond, List, ◌∷◌, ◌++◌, map, eqb, length, get_or, replicate, Option, Some, None}
use Rattle.format_layout.specs.declared.Kind.{Kind}
use Rattle.format_layout.specs.declared.Kind.TheVariants.{Text, Comment, Whole, Decimal, Date, Latitude, Longitude}
use Rattle.format_layout.specs.declared.Range.{Range}
use Rattle.format_layout.specs.declared.Range.TheVariants.{Any, AtLeast, Between, OneOf}
use Rattle.format_layout.specs.declared.Field.{Field}
use Rattle.format_layout.specs.Table.{read_table}
use Rattle.format_layout.specs.Layouts.{layout_at, fields_of, label_of}

-- how many layouts there are
abbrev pub layout_count : ℕ
layout_count = length read_table

-- a kind's digit
abbrev pub kind_number : Kind → ℕ
kind_number Text = 10
kind_number Comment = 12
kind_number Whole = 1
kind_number Decimal = 2
kind_number Date = 13
kind_number Latitude = 14
kind_number Longitude = 15

-- the kind with a digit; any other is a longitude
unfoldable pub kind_of : ℕ → Kind
kind_of n =
    cond (eqb n 10) Text
    (cond (eqb n 12) Comment
    (cond (eqb n 1) Whole (cond (eqb n 2) Decimal (cond (eqb n 13) Date (cond (eqb n 14) Latitude Longitude)))))

-- a range's number: one digit for its form, then three for each number
abbrev pub range_number : Range → ℕ
range_number Any = 0
range_number (AtLeast a) = 68719476736 + 16777216 * a
range_number (Between a b) = 2 * 68719476736 + 16777216 * a + 4096 * b
range_number (OneOf a b c) = 3 * 68719476736 + 16777216 * a + 4096 * b + c

unfoldable pub range_of : ℕ → Range
range_of n =
    cond (eqb (n / 68719476736) 0) Any
    (cond (eqb (n / 68719476736) 1) (AtLeast (n / 16777216 % 4096))
    (cond (eqb (n / 68719476736) 2) (Between (n / 16777216 % 4096) (n / 4096 % 4096))
    (OneOf (n / 16777216 % 4096) (n / 4096 % 4096) (n % 4096))))

abbrev pub bit : Bool → ℕ
bit true = 1
bit false = 0

-- a field as one number: its last and first column, its marks, its kind, its range
abbrev pub pack : Field → ℕ
pack f =
    f.last + 256 * f.first + 65536 * (bit f.needed + 2 * bit f.second) +
    1048576 * kind_number f.kind + 16777216 * range_number f.range

-- the field that a number holds
unfoldable pub unpack : ℕ → Field
unpack n =
    record {
      kind = kind_of (n / 1048576 % 16);
      first = n / 256 % 256;
      last = n % 256;
      needed = eqb (n / 65536 % 2) 1;
      second = eqb (n / 131072 % 2) 1;
      range = range_of (n / 16777216);
    }

-- the first three bytes of a code as one number, and all five
unfoldable pub head_of : List ℕ → ℕ
head_of s = (get_or s 0 0 * 256 + get_or s 1 0) * 256 + get_or s 2 0

unfoldable pub word_of : List ℕ → ℕ
word_of s = (head_of s * 256 + get_or s 3 0) * 256 + get_or s 4 0

-- the rows of a layout: its code, and its fields counted from 1; 0 where there is none with the number
unfoldable pub row_of : ℕ → ℕ → ℕ
row_of k n = get_or (word_of (layout_at k).code ∷ map pack (fields_of k)) n 0

-- the answer that a field's number holds
unfoldable pub found_in : ℕ → Option Field
found_in r = cond (eqb r 0) None (Some (unpack r))

-- a label and the blanks behind it, in as many columns as the longest has
unfoldable pub label_row : ℕ → List ℕ
label_row k = label_of k ++ replicate (23 - length (label_of k)) 32
