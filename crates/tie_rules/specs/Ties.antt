-- The table of ties: which columns of which codes define a key or refer to one, class by class; which state the card's own vessel
-- or a count; which codes carry a vessel digit.
use Rattle.std.specs.Prelude.{ℕ, List, [], ◌∷◌, Bool, true, false, cond, ◌&&◌, ◌||◌, eqb}
use Rattle.base_lists.specs.Parts.{kept, up_to}
use Rattle.format_layout.specs.Names.{
  H00X8,
  H00X9,
  H0100,
  H0101,
  H011X,
  H0120,
  H17X0,
  H17X1,
  H21X0,
  H21X1,
  H21X2,
  H21X3,
  H22X0,
  H23X0,
  H16X1,
  H5000,
  H51X0,
  H52XX,
  H54XX,
}

-- where a key stands on a card: the last digit of the code; a whole number or a text in some columns; a whole number behind
-- the vessel in column 7; the one key 0, which stands nowhere; a whole number in some columns, where it is one from a least to
-- a greatest; no key
pub data Source : Type 0 where
  digit : Source
  whole : ℕ → ℕ → Source
  serial : ℕ → ℕ → Source
  waypoint : ℕ → ℕ → Source
  only : Source
  allotted : ℕ → ℕ → ℕ → ℕ → Source
  nothing : Source

pub data Role : Type 0 where
  defines : Role
  refers : Role

abbrev pub same_role : Role → Role → Bool
same_role defines defines = true
same_role defines refers = false
same_role refers defines = false
same_role refers refers = true

-- one line of the table: a column of the layout with a number, and what it does for a class
pub record Tie : Type 0 where
  pub layout : ℕ
  pub column : ℕ
  pub role : Role
  pub class : ℕ
  pub source : Source

abbrev pub define : ℕ → ℕ → ℕ → Source → Tie
define k column class source = record { layout = k; column = column; role = defines; class = class; source = source }

abbrev pub refer : ℕ → ℕ → ℕ → Source → Tie
refer k column class source = record { layout = k; column = column; role = refers; class = class; source = source }

-- how many classes there are
abbrev pub classes : ℕ
classes = 10

-- the table, class by class: what defines a key, and then what refers to it
unfoldable pub ties : List Tie
ties =
    -- datum number
    define H011X 5 1 digit ∷ refer H0120 7 1 (whole 7 7) ∷ refer H0120 9 1 (whole 9 9) ∷
    -- streamer number
    define H21X0 7 2 (whole 7 9) ∷ refer H21X1 7 2 (whole 7 9) ∷ refer H22X0 7 2 (whole 7 9) ∷
    -- a node stands on a streamer where it names a number that is allotted to streamers
    refer H51X0 29 2 (allotted 29 31 200 299) ∷
    -- node
    define H22X0 11 3 (whole 11 14) ∷ define H22X0 36 3 (whole 36 39) ∷ define H5000 7 3 (whole 7 10) ∷
    define H51X0 7 3 (whole 7 10) ∷ define H16X1 9 3 (whole 9 12) ∷
    -- in the second and third place 0 is the ship's head and no node
    refer H52XX 29 3 (whole 29 32) ∷ refer H52XX 34 3 (allotted 34 37 1 9999) ∷ refer H52XX 39 3 (allotted 39 42 1 9999) ∷
    -- compass serial
    define H22X0 16 4 (serial 16 23) ∷ define H22X0 41 4 (serial 41 48) ∷ refer H23X0 7 4 (serial 7 14) ∷
    -- motion sensor
    define H17X0 7 5 (whole 7 7) ∷ refer H17X1 7 5 (whole 7 7) ∷
    -- vessel line
    define H00X8 30 6 (whole 30 30) ∷ refer H00X9 7 6 (whole 7 7) ∷
    -- waypoint
    define H00X9 9 7 (waypoint 9 11) ∷ define H00X9 39 7 (waypoint 39 41) ∷
    -- variation point
    define H0101 7 8 (whole 7 10) ∷
    -- the variation grid
    define H0100 7 9 only ∷ refer H0101 7 9 only ∷
    -- observation
    define H52XX 7 10 (whole 7 10) ∷ refer H54XX 7 10 (whole 7 10) ∷
    []

-- what stands in for a line that is not there; it finds no key
abbrev pub no_tie : Tie
no_tie = define 0 0 0 nothing

-- a line is about a role of a column of a layout
abbrev pub is_for : Role → ℕ → ℕ → Tie → Bool
is_for r k column t = same_role t.role r && (eqb t.layout k && eqb t.column column)

-- the line about a role of a column
unfoldable pub line_in : List Tie → Role → ℕ → ℕ → Tie
line_in [] r k column = no_tie
line_in (t ∷ ts) r k column = cond (is_for r k column t) t (line_in ts r k column)

unfoldable pub line_for : Role → ℕ → ℕ → Tie
line_for r k column = line_in ties r k column

-- the codes that carry a vessel digit, in column 4
unfoldable pub has_vessel : ℕ → Bool
has_vessel k =
    eqb k H00X8 || eqb k H00X9 || eqb k H17X0 || eqb k H17X1 || eqb k H21X0 || eqb k H21X1 || eqb k H21X2 || eqb k H21X3 ||
    eqb k H22X0 || eqb k H23X0 || eqb k H16X1 || eqb k H51X0

-- a line is about a column of a layout, in whichever role
unfoldable pub about : List Tie → ℕ → ℕ → Bool
about [] k column = false
about (t ∷ ts) k column = (eqb t.layout k && eqb t.column column) || about ts k column

-- the columns in which a card states its own vessel
unfoldable pub states_own : ℕ → ℕ → Bool
states_own k column = (eqb k H00X8 && eqb column 30) || (eqb k H00X9 && eqb column 7)

-- the columns with the number of a vessel's waypoints and of the points of the variation grid
unfoldable pub states_count : ℕ → ℕ → Bool
states_count k column = (eqb k H00X8 && eqb column 79) || (eqb k H0100 && eqb column 16)

-- the columns of a layout that can carry a broken tie
unfoldable pub can_tie : ℕ → ℕ → Bool
can_tie k column = about ties k column || (states_count k column || states_own k column)

-- all of them, in rising order
unfoldable pub tie_columns : ℕ → List ℕ
tie_columns k = kept (can_tie k) (up_to 81)
