-- In an accepted header every key, and every vessel and count that a card states, is what reading its field answers.
use Prim.Native.Nat.{ℕ, ◌<◌}
use mathlib.Core.Path.{◌≡◌, refl, sym, ap, ap₂, ◌∙◌}
use mathlib.Core.Bool.{Bool, true, false, cond, ◌&&◌, false≢true}
use mathlib.Core.List.{List, [], ◌∷◌}
use lib.Dec.{eqb}
use native.Mathlib.Omega.{arith}
use borrow.Author.Tests.{eqb-true}
use Rattle.value_text.specs.text.Texts.{text_of}
use Rattle.format_layout.specs.declared.Kind.{Kind}
use Rattle.format_layout.specs.declared.Kind.TheVariants.{Text, Comment, Whole, Decimal, Date, Latitude, Longitude}
use Rattle.format_layout.specs.declared.Field.{Field}
use Rattle.format_layout.specs.Table.{layouts}
use Rattle.format_layout.specs.Layouts.{layout_at, fields_of, field_of}
use Rattle.format_layout.specs.Names.{H00X8, H0100}
use Rattle.card_field.specs.Reading.{field_reading, field_text}
use Rattle.card_check.specs.Judging.{is_coordinate}
use Rattle.header_check.specs.forms.Cards.{card_at, cards_in, layout_of, unread}
use Rattle.header_check.specs.Refusing.{refusal_of}
use Rattle.header_laws.proofs.Readings.{field_found, field-read}
use Rattle.tie_rules.specs.Ties.{Source, digit, whole, serial, waypoint, only, allotted, nothing, Role, same_role, Tie, ties, line_in, line_for, is_for}
use Rattle.tie_rules.specs.Keys.{between, whole_in, paired, in_part, key_in, key_at}
use Rattle.tie_rules.specs.Readings.{number_from, number_at, whole_of, whole_read, key_read}
use Rattle.tie_rules.proofs.key_laws.Readings.{whole-read, text-read}
use Rattle.tie_laws.proofs.Tests.{both}
use Rattle.tie_laws.proofs.Table.{is_whole, is_text, stands, named, is_in, every_line, lines_name_fields}
use Rattle.std.specs.Prelude.{Option, Some, None}
use Rattle.base_refusal.specs.Refusals.{no_refusal}

-- fields of whole numbers, and of texts, have no form
whole_so : (k : Kind) → is_whole k ≡ true → (k ≡ Whole) × (is_coordinate k ≡ false)
whole_so Text e = absurd (false≢true e)
whole_so Comment e = absurd (false≢true e)
whole_so Whole e = (refl, refl)
whole_so Decimal e = absurd (false≢true e)
whole_so Date e = absurd (false≢true e)
whole_so Latitude e = absurd (false≢true e)
whole_so Longitude e = absurd (false≢true e)

text_so : (k : Kind) → is_text k ≡ true → (k ≡ Text) × (is_coordinate k ≡ false)
text_so Text e = (refl, refl)
text_so Comment e = absurd (false≢true e)
text_so Whole e = absurd (false≢true e)
text_so Decimal e = absurd (false≢true e)
text_so Date e = absurd (false≢true e)
text_so Latitude e = absurd (false≢true e)
text_so Longitude e = absurd (false≢true e)

-- what a field that stands so is
told : (is : Kind → Bool) (f : Field) (first last : ℕ) → stands is first last (Some f) ≡ true
    → (is f.kind ≡ true) × (f.first ≡ first) × (f.last ≡ last)
told is f first last e =
    let w = (both (is f.kind) (eqb f.first first && eqb f.last last)).0 e in
    let x = (both (eqb f.first first) (eqb f.last last)).0 w.1 in
    (w.0, eqb-true f.first first x.0, eqb-true f.last last x.1)

-- where a key is listed at its column, its columns are those of fields
in_named : (k column : ℕ) (from : Source) → is_in k column from ≡ true → named k from ≡ true
in_named k column digit e = refl
in_named k column (whole first last) e = ((both (eqb column first) (named k (whole first last))).0 e).1
in_named k column (serial first last) e = ((both (eqb column first) (named k (serial first last))).0 e).1
in_named k column (waypoint first last) e = ((both (eqb column first) (named k (waypoint first last))).0 e).1
in_named k column only e = refl
in_named k column (allotted first last least most) e = ((both (eqb column first) (named k (allotted first last least most))).0 e).1
in_named k column nothing e = refl

-- the line for a role of a column of a layout names fields of that layout
line_named : (ts : List Tie) (r : Role) (k column : ℕ) → every_line ts ≡ true → named k (line_in ts r k column).source ≡ true
unfolding line_in
line_named [] r k column a = refl
line_named (t ∷ ts) r k column a =
    let w = (both (is_in t.layout t.column t.source) (every_line ts)).0 a in
    go (is_for r k column t) refl w.0 (line_named ts r k column w.1)
  where
    go : (b : Bool) → is_for r k column t ≡ b → is_in t.layout t.column t.source ≡ true
        → named k (line_in ts r k column).source ≡ true → named k (cond b t (line_in ts r k column)).source ≡ true
    go true e here rest =
        let x = (both (same_role t.role r) (eqb t.layout k && eqb t.column column)).0 e in
        let y = (both (eqb t.layout k) (eqb t.column column)).0 x.1 in
        rw (← eqb-true t.layout k y.0) (in_named t.layout t.column t.source here)
    go false e here rest = rest

module _ (h : List ℕ) (a : refusal_of h ≡ no_refusal) (c : ℕ) (l : c < cards_in h) (k : ℕ) (is : layout_of (card_at h c) ≡ k) (read_by_lem : k < unread) where
  -- the whole number in the field that begins in a column
  pub whole_is : (first last : ℕ) → stands is_whole first last (field_of k (number_at k first)) ≡ true
      → whole_in first last (card_at h c) ≡ whole_read k first (card_at h c)
  unfolding whole_read
  whole_is first last e = go (field_of k (number_at k first)) refl e
    where
      go : (o : Option Field) → field_of k (number_at k first) ≡ o → stands is_whole first last o ≡ true
          → whole_in first last (card_at h c) ≡ whole_of (field_reading (card_at h c) (number_at k first) 0)
      go None q e = absurd (false≢true e)
      go (Some f) q e =
          let w = told is_whole f first last e in
          let n : ℕ = number_at k first in
          let v = field-read h a c l k is read_by_lem n f q (whole_so f.kind w.0).1 in
          let s : List ℕ = card_at h c in
          ap₂ (λ x y. whole_in x y s) (sym w.1) (sym w.2)
          ∙ whole-read s n k f (field_found h a c l k is read_by_lem n f q) v.0 v.1 (whole_so f.kind w.0).0

  -- the text in it
  text-is : (first last : ℕ) → stands is_text first last (field_of k (number_at k first)) ≡ true
      → text_of (between first last (card_at h c)) ≡ field_text (card_at h c) (number_at k first) 0
  text-is first last e = go (field_of k (number_at k first)) refl e
    where
      go : (o : Option Field) → field_of k (number_at k first) ≡ o → stands is_text first last o ≡ true
          → text_of (between first last (card_at h c)) ≡ field_text (card_at h c) (number_at k first) 0
      go None q e = absurd (false≢true e)
      go (Some f) q e =
          let w = told is_text f first last e in
          let n : ℕ = number_at k first in
          let v = field-read h a c l k is read_by_lem n f q (text_so f.kind w.0).1 in
          let s : List ℕ = card_at h c in
          ap₂ (λ x y. text_of (between x y s)) (sym w.1) (sym w.2)
          ∙ text-read s n k f (field_found h a c l k is read_by_lem n f q) v.0 v.1 (text_so f.kind w.0).0

  source_is : (from : Source) → named k from ≡ true → key_in from (card_at h c) ≡ key_read k from (card_at h c)
  unfolding key_in key_read
  source_is digit e = refl
  source_is (whole first last) e = whole_is first last e
  source_is (serial first last) e = text-is first last e
  source_is (waypoint first last) e =
      let w = (both (stands is_whole 7 7 (field_of k (number_at k 7))) (stands is_whole first last (field_of k (number_at k first)))).0 e in
      ap₂ paired (whole_is 7 7 w.0) (whole_is first last w.1)
  source_is only e = refl
  source_is (allotted first last least most) e = ap (in_part least most) (whole_is first last e)
  source_is nothing e = refl

-- a key in whatever role is what reading answers
pub key_is : (h : List ℕ) → refusal_of h ≡ no_refusal → (c : ℕ) → c < cards_in h → layout_of (card_at h c) < unread
    → (r : Role) (column : ℕ)
    → key_at r (card_at h c) column ≡ key_read (layout_of (card_at h c)) (line_for r (layout_of (card_at h c)) column).source (card_at h c)
unfolding key_at line_for
key_is h a c l read_by_lem r column =
    let k : ℕ = layout_of (card_at h c) in
    source_is h a c l k refl read_by_lem (line_in ties r k column).source (line_named ties r k column lines_name_fields)

-- and so is the number of waypoints that H00@8 states for its vessel, and that of points on H0100
module _ (h : List ℕ) (a : refusal_of h ≡ no_refusal) (c : ℕ) (l : c < cards_in h) where
  pub line-is : layout_of (card_at h c) ≡ H00X8
      → (whole_in 30 30 (card_at h c) ≡ whole_read H00X8 30 (card_at h c)) × (whole_in 79 80 (card_at h c) ≡ whole_read H00X8 79 (card_at h c))
  unfolding layouts layout_at fields_of field_of number_from number_at
  line-is is = (whole_is h a c l H00X8 is (omega arith) 30 30 refl, whole_is h a c l H00X8 is (omega arith) 79 80 refl)

  pub grid_is : layout_of (card_at h c) ≡ H0100 → whole_in 16 19 (card_at h c) ≡ whole_read H0100 16 (card_at h c)
  unfolding layouts layout_at fields_of field_of number_from number_at
  grid_is is = whole_is h a c l H0100 is (omega arith) 16 19 refl
