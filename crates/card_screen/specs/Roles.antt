-- The roles of a card's columns, by the fields of its layout, and of which cards the machine is sure. No promise to a caller cites
-- this.
use Rattle.std.specs.Prelude.{ℕ, ◌+◌, ◌-◌, ◌*◌, ◌/◌, ◌%◌, List, [], ◌∷◌, ◌++◌, Bool, true, false, cond, ◌&&◌, eqb, leb, length, take, drop, replicate}
use Rattle.format_layout.specs.Layouts.{fields_of, label_of}
use Rattle.format_layout.specs.declared.Kind.{Kind}
use Rattle.format_layout.specs.declared.Kind.TheVariants as kind
use Rattle.format_layout.specs.declared.Range.{Range}
use Rattle.format_layout.specs.declared.Range.TheVariants as range
use Rattle.format_layout.specs.declared.Field.{Field}
use Rattle.format_layout.specs.Columns.{width}
use Rattle.card_screen.specs.Machine.{ends, runs}

-- the roles of a whole number of w columns, and none where there are no such roles. Where any number may stand the machine is sure
-- only of those from 0 up.
abbrev pub from_zero : Bool → ℕ → List ℕ
from_zero needed w = cond needed 6 13 ∷ replicate (w - 1) 7

abbrev pub from_one : Bool → ℕ → List ℕ
from_one needed w = cond needed 8 14 ∷ replicate (w - 1) 9

abbrev pub within : Bool → ℕ → ℕ → ℕ → List ℕ
within true a b w = cond (eqb a 1 && (eqb b 9 && eqb w 1)) (from_one true w) []
within false a b w =
    cond (eqb a 0 && (eqb b 1 && eqb w 1)) (10 ∷ [])
    (cond (eqb a 0 && (eqb b 4 && eqb w 1)) (15 ∷ [])
    (cond (eqb a 0 && (eqb b 11 && eqb w 2)) (10 ∷ 12 ∷ [])
    (cond (eqb a 0 && (eqb b 360 && eqb w 3)) (11 ∷ 12 ∷ 12 ∷ []) [])))

abbrev pub whole_roles : Bool → Range → ℕ → List ℕ
whole_roles needed range.Any w = cond (leb w 3) (from_zero needed w) []
whole_roles needed (range.AtLeast a) w = cond (leb w 4 && eqb a 0) (from_zero needed w) (cond (leb w 4 && eqb a 1) (from_one needed w) [])
whole_roles needed (range.Between a b) w = within needed a b w
whole_roles needed (range.OneOf a b c) w = []

-- the roles of a field's columns, and none of one that has none: of comments, dates, coordinates and some whole numbers
unfoldable pub roles_for : Kind → Bool → Range → ℕ → List ℕ
roles_for kind.Text needed r w = cond needed 2 1 ∷ replicate (w - 1) 3
roles_for kind.Comment needed r w = []
roles_for kind.Whole needed r w = whole_roles needed r w
roles_for kind.Decimal needed r w = cond needed [] (4 ∷ replicate (w - 1) 5)
roles_for kind.Date needed r w = []
roles_for kind.Latitude needed r w = []
roles_for kind.Longitude needed r w = []

abbrev pub roles_in : Field → List ℕ
roles_in f = roles_for f.kind f.needed f.range (width f)

-- the columns from c on
unfoldable pub roles_from : ℕ → List Field → List ℕ
roles_from c [] = replicate (81 - c) 0
roles_from c (f ∷ fs) = replicate (f.first - c) 0 ++ (roles_in f ++ roles_from (f.last + 1) fs)

-- all columns: those of the code pass
unfoldable pub roles_of : ℕ → List ℕ
roles_of k = replicate 5 3 ++ roles_from 6 (fields_of k)

-- a layout without a label that has three fields or more, each with roles: one of fewer fields is judged as fast field by field
abbrev pub have_roles : List Field → Bool
have_roles [] = true
have_roles (f ∷ fs) = eqb (length (roles_in f)) (width f) && have_roles fs

unfoldable pub plain : ℕ → Bool
plain k = leb 3 (length (fields_of k)) && (eqb (length (label_of k)) 0 && have_roles (fields_of k))

-- the machine is sure of a card of a layout
unfoldable pub sure : ℕ → List ℕ → Bool
sure k s = plain k && ends (runs (roles_of k) s 24)

-- sixteen roles as one number; 0 for a layout that is not plain
abbrev pub packed : List ℕ → ℕ
packed [] = 0
packed (r ∷ rs) = r + 16 * packed rs

unfoldable pub word_at : ℕ → ℕ
word_at i = cond (plain (i / 5)) (packed (take 16 (drop (16 * (i % 5)) (roles_of (i / 5))))) 0
