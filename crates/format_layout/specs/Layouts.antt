-- What is asked of the layout table: a layout's fields and label.
use Rattle.std.specs.Prelude.{ℕ, ◌-◌, Bool, true, false, cond, ◌&&◌, List, [], leb, length, get_or, Option, Some, None}
use Rattle.format_layout.specs.declared.Kind.TheVariants.{Text}
use Rattle.format_layout.specs.declared.Range.{Range}
use Rattle.format_layout.specs.declared.Range.TheVariants.{Any, AtLeast, Between, OneOf}
use Rattle.format_layout.specs.declared.Field.{Field}
use Rattle.format_layout.specs.Shape.{Layout, field}
use Rattle.format_layout.specs.Table.{layouts}

-- the layout with a number; past the last one a layout with no label and no fields
unfoldable pub layout_at : ℕ → Layout
layout_at k = get_or layouts k (record { code = []; label = []; fields = [] })

unfoldable pub fields_of : ℕ → List Field
fields_of k = (layout_at k).fields

-- a layout's label, from column 6
unfoldable pub label_of : ℕ → List ℕ
label_of k = (layout_at k).label

-- what stands in for a field that is not there; no answer shows it
abbrev pub no_field : Field
no_field = field Text 0 0 false Any

-- the field with a number, counted from 1, of the layout with a number, counted from 0
unfoldable pub field_of : ℕ → ℕ → Option Field
field_of k n =
    cond (leb 1 n && leb n (length (fields_of k))) (Some (get_or (fields_of k) (n - 1) no_field)) None

-- a range that says nothing
abbrev pub is_any : Range → Bool
is_any Any = true
is_any (AtLeast a) = false
is_any (Between a b) = false
is_any (OneOf a b c) = false
