-- The offence of a field, found without its value.
use Prim.Native.Nat.{ℕ, suc, ◌-◌, ◌≤◌}
use native.Mathlib.Omega.{arith}
use mathlib.Core.Path.{◌≡◌, refl, sym, ap, subst, ◌∙◌}
use mathlib.Core.List.{List, [], ◌∷◌}
use mathlib.Core.Bool.{Bool, true, false, cond, ◌&&◌, ◌||◌, not}
use lib.ListN.{length, get_or, take, drop, length-take, length-drop}
use lib.Dec.{T, eqb}
use borrow.Author.Tests.{eq-eqb, ne_eqb}
use Rattle.value_number.specs.number.Reading.{number_of as strict_of}
use Rattle.value_date.specs.Dates.{date_of}
use Rattle.value_coordinate.specs.declared.axes.Axis.{Axis}
use Rattle.value_coordinate.specs.declared.axes.Axis.TheVariants.{Y, X}
use Rattle.value_coordinate.specs.angle.Angles.{angle_of}
use Rattle.value_coordinate.specs.grid.Grid.{grid_of}
use Rattle.value_text.specs.text.Texts.{text_end, text_of, leading_blank}
use Rattle.base_value.specs.declared.Value.{Value}
use Rattle.base_value.specs.declared.Value.TheVariants as value
use Rattle.base_value.specs.declared.Unread.TheVariants.{Malformed, OutOfRange}
use Rattle.value_field.specs.spelling.Reading.{text_reading, number_in, whole_reading, reading_of}
use Rattle.value_field.proofs.spelling.OneKind.{OfKind, number_kind, date_kind, angle_kind, grid_kind}
use Rattle.format_layout.specs.declared.Kind.{Kind}
use Rattle.format_layout.specs.declared.Kind.TheVariants as kind
use Rattle.format_layout.specs.declared.Field.{Field}
use Rattle.format_layout.specs.declared.Form.{Form}
use Rattle.format_layout.specs.declared.Form.TheVariants.{Angles, Grid, Unknown}
use Rattle.format_layout.specs.Columns.{width, wide_as}
use Rattle.format_layout.specs.ranges.Ranges.{in_range}
use Rattle.card_field.specs.judging.Fields.{value_of, held_of, spelling_of, judged_of, number_of}
use Rattle.card_field.specs.needing.Needs.{columns_of, is_blank, needed_on}
use Rattle.card_check.specs.packed.Offences.{offence_in, coordinate_reading}
use Rattle.base_value.specs.Reading.{offence_of}
use Rattle.std.specs.Prelude.{Result, Ok, Err}
use Rattle.base_value.specs.declared.Unread.{Unread}

-- a text whose first column is filled
filled : (x lead : Bool) (e : ℕ)
    → offence_of (cond (eqb (cond (x && false) 0 (suc e)) 0) (Ok value.Absent) (cond (lead || true) (Ok (value.Text (record { first = 1; last = cond (x && false) 0 (suc e) }))) (Err Malformed))) ≡ 0
filled true true e = rw (ne_eqb (suc e) 0 (λ q. absurd (omega arith)))
filled true false e = rw (ne_eqb (suc e) 0 (λ q. absurd (omega arith)))
filled false true e = rw (ne_eqb (suc e) 0 (λ q. absurd (omega arith)))
filled false false e = rw (ne_eqb (suc e) 0 (λ q. absurd (omega arith)))

pub text_filled : (s : List ℕ) (lead : Bool) → 1 ≤ length s → (get_or s 0 0 ≡ 32 → ⊥) → offence_of (text_reading lead s) ≡ 0
unfolding text_reading text_end leading_blank
text_filled [] lead h g = absurd (omega arith)
text_filled (b ∷ s) lead h g = rw (ne_eqb b 32 g) (filled (eqb (text_end s) 0) lead (text_end s))

begins : (s : List ℕ) → 1 ≤ length s → get_or s 0 0 ≡ 32 → leading_blank s ≡ true
unfolding leading_blank
begins [] h g = absurd (omega arith)
begins (b ∷ s) h g = eq-eqb b 32 g

-- columns that are not blank
pub blank_not : (s : List ℕ) (n : ℕ) → n ≡ text_end s → (n ≡ 0 → ⊥) → is_blank s ≡ false
unfolding is_blank
blank_not s n is h = ne_eqb (text_end s) 0 (λ q. h (is ∙ q))

-- and one that begins with a blank
module _ (s : List ℕ) (lead : Bool) where
  pub text_odd : 1 ≤ length s → get_or s 0 0 ≡ 32 → is_blank s ≡ false → lead ≡ false → offence_of (text_reading lead s) ≡ 9
  unfolding text_reading is_blank
  text_odd l g h q = rw (h, q, begins s l g)

-- each kind by its own reading
module _ (f : Field) where
  plain : {A : Type 0} (kind : A → Value) (r : Result Value Unread) → OfKind kind r
      → ((x : A) → offence_of (Ok (kind x)) ≡ offence_in f (Ok (kind x))) → offence_of r ≡ offence_in f r
  unfolding offence_in held_of value_of
  plain kind r of-kind h = of-kind (λ x. offence_of x ≡ offence_in f x) refl h refl refl

  decimal-plain : (s : List ℕ) → offence_of (strict_of true s) ≡ offence_in f (strict_of true s)
  unfolding offence_in held_of value_of
  decimal-plain s = plain value.Decimal (strict_of true s) (number_kind true s) (λ d. refl)

  date-plain : (s : List ℕ) → offence_of (date_of s) ≡ offence_in f (date_of s)
  unfolding offence_in held_of value_of
  date-plain s = plain value.Date (date_of s) (date_kind s) (λ d. refl)

  angle_plain : (a : Axis) (s : List ℕ) → offence_of (angle_of a s) ≡ offence_in f (angle_of a s)
  unfolding offence_in held_of value_of
  angle_plain a s = plain value.Angle (angle_of a s) (angle_kind a s) (λ z. refl)

  grid_plain : (a : Axis) (s : List ℕ) → offence_of (grid_of a s) ≡ offence_in f (grid_of a s)
  unfolding offence_in held_of value_of
  grid_plain a s = plain value.Decimal (grid_of a s) (grid_kind a s) (λ d. refl)

  text-plain : (lead : Bool) (s : List ℕ) → offence_of (text_reading lead s) ≡ offence_in f (text_reading lead s)
  unfolding offence_in held_of value_of text_reading
  text-plain lead s = go (eqb (text_end s) 0) (lead || not (leading_blank s))
    where
      go : (b c : Bool)
          → offence_of (cond b (Ok value.Absent) (cond c (Ok (value.Text (record { first = 1; last = text_end s }))) (Err Malformed)))
          ≡ number_of (held_of true f (cond b (Ok value.Absent) (cond c (Ok (value.Text (record { first = 1; last = text_end s }))) (Err Malformed))))
      go true c = refl
      go false true = refl
      go false false = refl

  module _ (form : Form) (s : List ℕ) where
    by_kind : (k : Kind) → f.kind ≡ k → offence_in f (reading_of (spelling_of k form) s) ≡ offence_in f (reading_of (spelling_of f.kind form) s)
    by_kind k q = ap (λ x. offence_in f (reading_of (spelling_of x form) s)) (sym q)

    pub as_text : f.kind ≡ kind.Text → offence_of (text_reading false s) ≡ offence_in f (reading_of (spelling_of f.kind form) s)
    unfolding reading_of spelling_of
    as_text q = text-plain false s ∙ by_kind kind.Text q

    pub as_comment : f.kind ≡ kind.Comment → offence_of (text_reading true s) ≡ offence_in f (reading_of (spelling_of f.kind form) s)
    unfolding reading_of spelling_of
    as_comment q = text-plain true s ∙ by_kind kind.Comment q

    pub as_whole : f.kind ≡ kind.Whole → offence_in f (whole_reading (strict_of false (text_of s))) ≡ offence_in f (reading_of (spelling_of f.kind form) s)
    unfolding reading_of number_in spelling_of
    as_whole q = by_kind kind.Whole q

    pub as_decimal : f.kind ≡ kind.Decimal → offence_of (strict_of true (text_of s)) ≡ offence_in f (reading_of (spelling_of f.kind form) s)
    unfolding reading_of number_in spelling_of
    as_decimal q = decimal-plain (text_of s) ∙ by_kind kind.Decimal q

    pub as_date : f.kind ≡ kind.Date → (r : Result Value Unread) → r ≡ date_of s → offence_of r ≡ offence_in f (reading_of (spelling_of f.kind form) s)
    unfolding reading_of spelling_of
    as_date q r e = ap offence_of e ∙ date-plain s ∙ by_kind kind.Date q

    pub as_latitude : f.kind ≡ kind.Latitude → offence_of (coordinate_reading Y form s) ≡ offence_in f (reading_of (spelling_of f.kind form) s)
    unfolding reading_of spelling_of
    as_latitude q = go form ∙ by_kind kind.Latitude q
      where
        go : (form : Form) → offence_of (coordinate_reading Y form s) ≡ offence_in f (reading_of (spelling_of kind.Latitude form) s)
        go Angles = angle_plain Y s
        go Grid = grid_plain Y s
        go Unknown = angle_plain Y s

    pub as_longitude : f.kind ≡ kind.Longitude → offence_of (coordinate_reading X form s) ≡ offence_in f (reading_of (spelling_of f.kind form) s)
    unfolding reading_of spelling_of
    as_longitude q = go form ∙ by_kind kind.Longitude q
      where
        go : (form : Form) → offence_of (coordinate_reading X form s) ≡ offence_in f (reading_of (spelling_of kind.Longitude form) s)
        go Angles = angle_plain X s
        go Grid = grid_plain X s
        go Unknown = angle_plain X s

-- a field that is not needed may be blank, and has no other offence than one that is
by_need : (needed : Bool) (f : Field) (r : Result Value Unread) → number_of (held_of needed f r) ≡ cond (eqb (offence_in f r) 11) (cond needed 11 0) (offence_in f r)
unfolding offence_in held_of value_of
by_need needed f (Err Malformed) = refl
by_need needed f (Err OutOfRange) = refl
by_need true f (Ok value.Absent) = refl
by_need false f (Ok value.Absent) = refl
by_need needed f (Ok (value.Whole z)) = go (in_range f.range z)
  where
    go : (b : Bool)
        → number_of (cond b (Ok (value.Whole z)) (Err 10))
        ≡ cond (eqb (number_of (cond b (Ok (value.Whole z)) (Err 10))) 11) (cond needed 11 0) (number_of (cond b (Ok (value.Whole z)) (Err 10)))
    go true = refl
    go false = refl
by_need needed f (Ok (value.Decimal d)) = refl
by_need needed f (Ok (value.Angle z)) = refl
by_need needed f (Ok (value.Date d)) = refl
by_need needed f (Ok (value.Text c)) = refl

module _ (k : ℕ) (s : List ℕ) (f : Field) (form : Form) (first last n : ℕ) (from : first ≡ f.first) (to : last ≡ f.last)
    (is : n ≡ offence_in f (reading_of (spelling_of f.kind form) (take (last - (first - 1)) (drop (first - 1) s)))) where
  judged : number_of (judged_of k s f form) ≡ cond (eqb n 11) (cond (needed_on k s f) 11 0) n
  unfolding judged_of columns_of
  judged = rw (is, from, to) (by_need (needed_on k s f) f (reading_of (spelling_of f.kind form) (take (f.last - (f.first - 1)) (drop (f.first - 1) s))))

  pub offence-other : (n ≡ 11 → ⊥) → number_of (judged_of k s f form) ≡ n
  offence-other h = judged ∙ rw (ne_eqb n 11 h)

  module _ (missing : n ≡ 11) (needed : Bool) (on : needed ≡ needed_on k s f) where
    pub offence-missing : needed ≡ true → number_of (judged_of k s f form) ≡ 11
    offence-missing h = judged ∙ rw (eq-eqb n 11 missing, ← on, h)

    pub offence-none : needed ≡ false → number_of (judged_of k s f form) ≡ 0
    offence-none h = judged ∙ rw (eq-eqb n 11 missing, ← on, h)

-- a field has a column
pub columns-some : (s : List ℕ) (first last : ℕ) → length s ≡ 80 → 1 ≤ first → first ≤ last → last ≤ 80
    → 1 ≤ length (take (last - (first - 1)) (drop (first - 1) s))
columns-some s first last w a b c = omega (arith, length-take (last - (first - 1)) (drop (first - 1) s), length-drop (first - 1) s)

-- and as many as its width says
pub columns_wide : (s : List ℕ) (f : Field) (first last : ℕ) → first ≡ f.first → last ≡ f.last → length s ≡ 80 → 1 ≤ f.first
    → f.first ≤ f.last → f.last ≤ 80 → T (wide_as f.kind (width f))
    → T (wide_as f.kind (length (take (last - (first - 1)) (drop (first - 1) s))))
columns_wide s f first last d e w a b c t = subst (λ (n : ℕ). T (wide_as f.kind n)) same t
  where
    same : width f ≡ length (take (last - (first - 1)) (drop (first - 1) s))
    same = omega (arith, length-take (last - (first - 1)) (drop (first - 1) s), length-drop (first - 1) s)
