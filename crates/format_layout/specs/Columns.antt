-- How many columns a field has, and what its kind asks of them and of its range.
use Rattle.std.specs.Prelude.{ℕ, ◌-◌, Bool, true, eqb, leb}
use Rattle.format_layout.specs.declared.Kind.{Kind}
use Rattle.format_layout.specs.declared.Kind.TheVariants.{Text, Comment, Whole, Decimal, Date, Latitude, Longitude}
use Rattle.format_layout.specs.declared.Range.{Range}
use Rattle.format_layout.specs.declared.Field.{Field}
use Rattle.format_layout.specs.Layouts.{is_any}

-- how many columns it has
abbrev pub width : Field → ℕ
width f = f.last - (f.first - 1)

-- a width that its kind allows: 8 for a date, 12 for a coordinate, at most 18 for a number
abbrev pub wide_as : Kind → ℕ → Bool
wide_as Text w = true
wide_as Comment w = true
wide_as Whole w = leb w 18
wide_as Decimal w = leb w 18
wide_as Date w = eqb w 8
wide_as Latitude w = eqb w 12
wide_as Longitude w = eqb w 12

-- only a whole number has a range
abbrev pub ranged : Kind → Range → Bool
ranged Text r = is_any r
ranged Comment r = is_any r
ranged Whole r = true
ranged Decimal r = is_any r
ranged Date r = is_any r
ranged Latitude r = is_any r
ranged Longitude r = is_any r
