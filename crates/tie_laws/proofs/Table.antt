-- The table of ties agrees with the layout table: every line is found, names a field of its layout, and vessel digits stand
-- where a code has one.
use Prim.Native.Nat.{ℕ}
use mathlib.Core.Path.{◌≡◌, refl}
use mathlib.Core.Bool.{Bool, true, false, not, ◌&&◌, ◌||◌}
use mathlib.Core.List.{List, [], ◌∷◌, map}
use lib.Dec.{eqb}
use lib.ListN.{length, get_or}
use Rattle.base_lists.specs.Parts.{up_to}
use Rattle.format_layout.specs.Shape.{bytes, Layout}
use Rattle.format_layout.specs.declared.Kind.{Kind}
use Rattle.format_layout.specs.declared.Kind.TheVariants.{Text, Comment, Whole, Decimal, Date, Latitude, Longitude}
use Rattle.format_layout.specs.Table.{layouts, passed_codes}
use Rattle.format_layout.specs.Layouts.{layout_at, fields_of, field_of}
use Rattle.format_code.specs.Codes.{byte_fits, fits_at, fits, codes, place_in, code_at, code_of}
use Rattle.header_check.specs.forms.Cards.{byte_in, layout_of}
use Rattle.tie_rules.specs.Ties.{Source, digit, whole, serial, waypoint, only, allotted, nothing, Tie, ties, line_in, line_for, has_vessel}
use Rattle.tie_rules.specs.Keys.{vessel_of}
use Rattle.tie_rules.specs.Readings.{number_from, number_at}
use Rattle.format_layout.specs.Names.{H00X8, H00X9, H0100, H0101, H011X, H0120, H17X0, H17X1, H21X0, H21X1, H21X2, H21X3, H22X0, H23X0, H16X1, H5000, H51X0, H52XX, H54XX}
use Rattle.std.specs.Prelude.{Option, Some, None}
use Rattle.format_layout.specs.declared.Field.{Field}

-- the names of the layouts are those of their codes, with X for @ or #
pub names_of : map (λ k. (layout_at k).code) (
    H00X8 ∷ H00X9 ∷ H0100 ∷ H0101 ∷ H011X ∷ H0120 ∷ H17X0 ∷ H17X1 ∷ H21X0 ∷ H21X1 ∷ H21X2 ∷ H21X3 ∷ H22X0 ∷ H23X0 ∷
    H16X1 ∷ H5000 ∷ H51X0 ∷ H52XX ∷ H54XX ∷ []) ≡
    bytes "H00#8" ∷ bytes "H00#9" ∷ bytes "H0100" ∷ bytes "H0101" ∷ bytes "H011@" ∷ bytes "H0120" ∷ bytes "H17@0" ∷
    bytes "H17@1" ∷ bytes "H21@0" ∷ bytes "H21@1" ∷ bytes "H21@2" ∷ bytes "H21@3" ∷ bytes "H22@0" ∷ bytes "H23@0" ∷
    bytes "H16@1" ∷ bytes "H5000" ∷ bytes "H51#0" ∷ bytes "H52##" ∷ bytes "H54##" ∷ []
unfolding layouts layout_at
names_of = refl

-- no line hides another: each is the one for its role, layout and column
pub every_line-found : map (λ (t : Tie). line_for t.role t.layout t.column) ties ≡ ties
unfolding ties line_in line_for
every_line-found = refl

-- a byte of a pattern that stands for several
abbrev is_digit : ℕ → Bool
is_digit b = eqb b 64 || eqb b 35

-- column 4 alone is left open; the two open digits of an observation are its type
abbrev opens_vessel : List ℕ → Bool
opens_vessel code = is_digit (get_or code 3 0) && not (is_digit (get_or code 4 0))

-- the codes with a vessel digit are those with a digit for any vessel in column 4
pub vessels_by_code : map has_vessel (up_to (length layouts)) ≡ map (λ (l : Layout). opens_vessel l.code) layouts
unfolding layouts has_vessel up_to
vessels_by_code = refl

-- the vessel of a card is that digit, whatever its vessel field says; 10 where the code has none
pub vessels_told : map vessel_of (
    bytes "H0008" ∷ bytes "H0018Line Parameters Vessel: 2" ∷ bytes "H0029 3" ∷ bytes "H1731" ∷ bytes "H2190" ∷ bytes "H2350" ∷
    bytes "H0000" ∷ bytes "H0100" ∷ bytes "H0101" ∷ bytes "H0112" ∷ bytes "H0120" ∷ bytes "H2300" ∷ bytes "H2301" ∷ bytes "C0001" ∷
    bytes "H1611" ∷ bytes "H5100" ∷ bytes "H5120" ∷ bytes "H5000" ∷ bytes "H5201" ∷ bytes "H5499" ∷ [])
    ≡ 0 ∷ 1 ∷ 2 ∷ 3 ∷ 9 ∷ 5 ∷ 10 ∷ 10 ∷ 10 ∷ 10 ∷ 10 ∷ 10 ∷ 10 ∷ 10 ∷ 1 ∷ 0 ∷ 2 ∷ 10 ∷ 10 ∷ 10 ∷ []
unfolding layouts passed_codes byte_fits fits_at fits codes place_in code_at code_of byte_in layout_of has_vessel vessel_of
vessels_told = refl

abbrev pub is_whole : Kind → Bool
is_whole Text = false
is_whole Comment = false
is_whole Whole = true
is_whole Decimal = false
is_whole Date = false
is_whole Latitude = false
is_whole Longitude = false

abbrev pub is_text : Kind → Bool
is_text Text = true
is_text Comment = false
is_text Whole = false
is_text Decimal = false
is_text Date = false
is_text Latitude = false
is_text Longitude = false

-- a field was found, of a kind and with these columns
abbrev pub stands : (Kind → Bool) → ℕ → ℕ → Option Field → Bool
stands is first last None = false
stands is first last (Some f) = is f.kind && (eqb f.first first && eqb f.last last)

-- the columns of a key are those of fields of its kind
abbrev pub named : ℕ → Source → Bool
named k digit = true
named k (whole first last) = stands is_whole first last (field_of k (number_at k first))
named k (serial first last) = stands is_text first last (field_of k (number_at k first))
named k (waypoint first last) =
    stands is_whole 7 7 (field_of k (number_at k 7)) && stands is_whole first last (field_of k (number_at k first))
named k only = true
named k (allotted first last least most) = stands is_whole first last (field_of k (number_at k first))
named k nothing = true

-- a key of a layout that is listed at a column begins there; a code's digit is its fifth byte
abbrev pub is_in : ℕ → ℕ → Source → Bool
is_in k column digit = eqb column 5 && is_digit (get_or (layout_at k).code 4 0)
is_in k column (whole first last) = eqb column first && named k (whole first last)
is_in k column (serial first last) = eqb column first && named k (serial first last)
is_in k column (waypoint first last) = eqb column first && named k (waypoint first last)
is_in k column only = true
is_in k column (allotted first last least most) = eqb column first && named k (allotted first last least most)
is_in k column nothing = false

abbrev pub every_line : List Tie → Bool
every_line [] = true
every_line (t ∷ ts) = is_in t.layout t.column t.source && every_line ts

pub lines_name_fields : every_line ties ≡ true
unfolding ties layouts layout_at fields_of field_of number_from number_at
lines_name_fields = refl

-- so do the columns that state a vessel or a count
pub stated_are_fields : (
    stands is_whole 30 30 (field_of H00X8 (number_at H00X8 30)) && (stands is_whole 7 7 (field_of H00X9 (number_at H00X9 7))
    && (stands is_whole 79 80 (field_of H00X8 (number_at H00X8 79)) && stands is_whole 16 19 (field_of H0100 (number_at H0100 16))))) ≡ true
unfolding layouts layout_at fields_of field_of number_from number_at
stated_are_fields = refl
