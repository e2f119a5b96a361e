-- What was read can always be rewritten in the same width: the one agreed spelling, and twice is once.
use Prim.Native.Nat.{ℕ}
use mathlib.Core.Path.{◌≡◌, refl, sym, ap, subst, ◌∙◌}
use mathlib.Core.List.{List}
use mathlib.Core.Bool.{Bool, true, false, cond, ◌||◌, not, true≢false, false≢true}
use lib.ListN.{length}
use lib.Dec.{eqb}
use borrow.Author.Tests.{eqb-false}
use Rattle.base_digits.specs.digits.Columns.{Entry, agreed, room_of}
use Rattle.base_value.specs.declared.Decimal.{Decimal as DecimalOf}
use Rattle.value_number.specs.number_entry.Spelling.{decimal_in}
use Rattle.value_number.proofs.number_entry.Agreed.{decimal-agreed, whole-places}
use Rattle.value_date.specs.Dates.{date_of}
use Rattle.value_date.proofs.Agreed.{date-agreed}
use Rattle.value_coordinate.specs.declared.axes.Axis.{Axis}
use Rattle.value_coordinate.specs.declared.axes.Axis.TheVariants.{Y, X}
use Rattle.value_coordinate.specs.angle.Angles.{angle_of}
use Rattle.value_coordinate.specs.grid.Grid.{grid_of}
use Rattle.value_coordinate.proofs.coordinate_entry.ArcAgreed.{angle_agreed}
use Rattle.value_coordinate.proofs.coordinate_entry.GridAgreed.{grid_agreed}
use Rattle.value_text.specs.text.Texts.{text_end, text_of, printable, leading_blank, text_in}
use Rattle.value_text.proofs.text.Agreed.{text-again}
use Rattle.base_value.specs.declared.Columns.{Columns}
use Rattle.base_value.specs.declared.Value.{Value}
use Rattle.base_value.specs.declared.Value.TheVariants.{Absent, Whole, Decimal, Angle, Date, Text}
use Rattle.base_value.specs.declared.Unread.TheVariants.{Malformed}
use Rattle.value_field.specs.declared.spelling.Spelling.{Spelling}
use Rattle.value_field.specs.declared.spelling.Spelling.TheVariants as spelled
use Rattle.value_field.specs.spelling.Reading.{text_reading, number_in, whole_reading, reading_of, misplaced_in, is_text}
use Rattle.value_field.specs.writing.Writing.{no_value_in, whole_in, units_in, day_in, arc_in, grid_entry_in, entry_of, text_entry_of, again_in, rewritten_of}
use Rattle.value_field.proofs.spelling.OneKind.{OfKind, number_in_kind, date_kind, angle_kind, grid_kind}
use Rattle.value_field.proofs.spelling.Absence.{zero_one}
use Rattle.value_field.proofs.spelling.Standing.{stretch_le}
use Rattle.value_field.proofs.writing.Back.{value_back, value_placed}
use Rattle.std.specs.Prelude.{Result, Ok, Err}
use Rattle.base_value.specs.declared.Unread.{Unread}

-- a text that it agrees to
abbrev Agrees : Entry → Type 0
Agrees e = (t : List ℕ) × (e ≡ agreed t)

module _ (s : List ℕ) where
  -- a value that was read: absent, or one of its kind, for which there is room
  kind_agrees : {A : Type 0} (kind : A → Value) (entry : Value → Entry) (r : Result Value Unread) → OfKind kind r
      → Agrees (entry Absent) → ((x : A) → r ≡ Ok (kind x) → Agrees (entry (kind x))) → (v : Value) → r ≡ Ok v → Agrees (entry v)
  kind_agrees kind entry r of-kind blank held v e =
      of-kind (λ n. r ≡ n → Agrees (entry v))
      (λ q. let i : Absent ≡ v = cc in subst (λ x. Agrees (entry x)) i blank)
      (λ x q. let i : kind x ≡ v = cc in subst (λ y. Agrees (entry y)) i (held x q))
      (λ q. absurd (zero_one cc))
      (λ q. absurd (zero_one cc))
      refl

  whole_agrees : (v : Value) → whole_reading (number_in false s) ≡ Ok v → Agrees (whole_in (length s) v)
  unfolding whole_reading whole_in number_in
  whole_agrees v e =
      number_in_kind false s (λ n. number_in false s ≡ n → whole_reading n ≡ Ok v → Agrees (whole_in (length s) v))
      (λ q h. let i : Absent ≡ v = cc in subst (λ x. Agrees (whole_in (length s) x)) i (_, refl))
      (λ d q h. let i : Whole d.units ≡ v = cc in subst (λ x. Agrees (whole_in (length s) x)) i (room d q))
      (λ q h. absurd (zero_one cc))
      (λ q h. absurd (zero_one cc))
      refl
      e
    where
      room : (d : DecimalOf) → number_in false s ≡ Ok (Decimal d) → Agrees (room_of (decimal_in (length s) (record { units = d.units; places = 0 })))
      room d q =
          let u = decimal-agreed false (text_of s) d q (length s) (stretch_le s) in
          (u.0, ap (λ p. room_of (decimal_in (length s) (record { units = d.units; places = p }))) (sym (whole-places (text_of s) d q)) ∙ ap room_of u.1)

  decimal_agrees : (v : Value) → number_in true s ≡ Ok v → Agrees (units_in (length s) v)
  unfolding units_in number_in
  decimal_agrees =
      kind_agrees Decimal (units_in (length s)) (number_in true s) (number_in_kind true s) (_, refl)
      (λ d q. let u = decimal-agreed true (text_of s) d q (length s) (stretch_le s) in (u.0, ap room_of u.1))

  grid_agrees : (a : Axis) (v : Value) → grid_of a s ≡ Ok v → Agrees (grid_entry_in a (length s) v)
  unfolding grid_entry_in
  grid_agrees a = kind_agrees Decimal (grid_entry_in a (length s)) (grid_of a s) (grid_kind a s) (_, refl) (λ d q. grid_agreed a s d q)

  day_agrees : (v : Value) → date_of s ≡ Ok v → Agrees (day_in (length s) v)
  unfolding day_in
  day_agrees = kind_agrees Date (day_in (length s)) (date_of s) (date_kind s) (_, refl) (λ d q. (s, date-agreed s d q))

  arc_agrees : (a : Axis) (v : Value) → angle_of a s ≡ Ok v → Agrees (arc_in a (length s) v)
  unfolding arc_in
  arc_agrees a = kind_agrees Angle (arc_in a (length s)) (angle_of a s) (angle_kind a s) (_, refl) (λ z q. angle_agreed a s z q)

  nothing_agrees : (lead : Bool) (v : Value) → text_reading lead s ≡ Ok v → is_text (Ok v) ≡ false → Agrees (no_value_in (length s) v)
  unfolding text_reading no_value_in is_text
  nothing_agrees lead v e n = go (eqb (text_end s) 0) (lead || not (leading_blank s)) e
    where
      go : (b c : Bool) → cond b (Ok Absent) (cond c (Ok (Text (record { first = 1; last = text_end s }))) (Err Malformed)) ≡ Ok v
          → Agrees (no_value_in (length s) v)
      go true c h = let r : Absent ≡ v = cc in subst (λ x. Agrees (no_value_in (length s) x)) r (_, refl)
      go false true h =
          let r : v ≡ Text (record { first = 1; last = text_end s }) = cc in
          absurd (true≢false (rw r at n))
      go false false h = absurd (zero_one cc)

  -- a value that was read can be written
  value_agrees : (k : Spelling) (v : Value) → reading_of k s ≡ Ok v → is_text (Ok v) ≡ false → Agrees (entry_of k (length s) v)
  unfolding reading_of entry_of
  value_agrees spelled.Text v e n = nothing_agrees false v e n
  value_agrees spelled.Comment v e n = nothing_agrees true v e n
  value_agrees spelled.Whole v e n = whole_agrees v e
  value_agrees spelled.Decimal v e n = decimal_agrees v e
  value_agrees spelled.Date v e n = day_agrees v e
  value_agrees spelled.Latitude v e n = arc_agrees Y v e
  value_agrees spelled.Longitude v e n = arc_agrees X v e
  value_agrees spelled.Northing v e n = grid_agrees Y v e
  value_agrees spelled.Easting v e n = grid_agrees X v e

-- the entry that rewriting makes, where what stands there is no text
again_value : (k : Spelling) (s : List ℕ) (v : Value) → is_text (Ok v) ≡ false → again_in k s (Ok v) ≡ entry_of k (length s) v
unfolding again_in is_text
again_value k s Absent n = refl
again_value k s (Whole z) n = refl
again_value k s (Decimal d) n = refl
again_value k s (Angle z) n = refl
again_value k s (Date d) n = refl
again_value k s (Text c) n = absurd (true≢false n)

rewritten_is : (k : Spelling) (s : List ℕ) (v : Value) → reading_of k s ≡ Ok v → is_text (Ok v) ≡ false → rewritten_of k s ≡ entry_of k (length s) v
unfolding rewritten_of
rewritten_is k s v e n = ap (again_in k s) e ∙ again_value k s v n

-- two spellings of one value become one
pub one_spelling : (k : Spelling) (s t : List ℕ) (v : Value) → reading_of k s ≡ Ok v → reading_of k t ≡ Ok v → is_text (Ok v) ≡ false
    → length s ≡ length t → rewritten_of k s ≡ rewritten_of k t
one_spelling k s t v e f n l = rewritten_is k s v e n ∙ ap (λ w. entry_of k w v) l ∙ sym (rewritten_is k t v f n)

-- what rewriting leaves: columns of the same width that say the same, with no blank behind it, and that rewriting leaves as they are
pub record Rewritten (k : Spelling) (s : List ℕ) (v : Value) : Type 0 where
  pub columns : List ℕ
  pub rewritten : rewritten_of k s ≡ agreed columns
  pub says : reading_of k columns ≡ Ok v
  pub width : length columns ≡ length s
  pub placed : misplaced_in k columns ≡ false
  pub once : rewritten_of k columns ≡ agreed columns

pub value_rewritten : (k : Spelling) (s : List ℕ) (v : Value) → reading_of k s ≡ Ok v → is_text (Ok v) ≡ false → Rewritten k s v
value_rewritten k s v e n =
    let a = value_agrees s k v e n in
    let r : rewritten_of k s ≡ agreed a.0 = rewritten_is k s v e n ∙ a.1 in
    let b = value_back (length s) a.0 k v a.1 in
    record {
      columns = a.0;
      rewritten = r;
      says = b.0;
      width = b.1;
      placed = value_placed (length s) a.0 k v a.1;
      once = one_spelling k a.0 s v b.0 e n b.1 ∙ r;
    }

-- a text leaves the very columns that it was read from
text_agrees : (lead : Bool) (k : Spelling) → ((w : ℕ) (x : List ℕ) → text_entry_of k w x ≡ text_in lead w x) → (s : List ℕ) (v : Value)
    → text_reading lead s ≡ Ok v → is_text (Ok v) ≡ true → printable s ≡ true → text_entry_of k (length s) (text_of s) ≡ agreed s
unfolding text_reading is_text
text_agrees lead k q s v e n p = go (eqb (text_end s) 0) refl (lead || not (leading_blank s)) refl e
  where
    go : (b : Bool) → eqb (text_end s) 0 ≡ b → (c : Bool) → (lead || not (leading_blank s)) ≡ c
        → cond b (Ok Absent) (cond c (Ok (Text (record { first = 1; last = text_end s }))) (Err Malformed)) ≡ Ok v
        → text_entry_of k (length s) (text_of s) ≡ agreed s
    go true x c y h = let r : v ≡ Absent = cc in absurd (false≢true (rw r at n))
    go false x true y h = q (length s) (text_of s) ∙ text-again lead s (eqb-false (text_end s) 0 x) y p
    go false x false y h = absurd (zero_one cc)

-- no other reading is a text
module _ (c : Columns) where
  no_whole : (s : List ℕ) → whole_reading (number_in false s) ≡ Ok (Text c) → ⊥
  unfolding whole_reading
  no_whole s =
      number_in_kind false s (λ n. whole_reading n ≡ Ok (Text c) → ⊥) (λ e. zero_one cc) (λ d e. zero_one cc) (λ e. zero_one cc) (λ e. zero_one cc)

  no_text : {A : Type 0} (kind : A → Value) (r : Result Value Unread) → OfKind kind r
      → ((x : A) → ◌≡◌ {A = Result Value Unread} (Ok (kind x)) (Ok (Text c)) → ⊥) → r ≡ Ok (Text c) → ⊥
  no_text kind r of-kind other = of-kind (λ n. n ≡ Ok (Text c) → ⊥) (λ e. zero_one cc) other (λ e. zero_one cc) (λ e. zero_one cc)

  text-entry : (k : Spelling) (s : List ℕ) → reading_of k s ≡ Ok (Text c) → printable s ≡ true → text_entry_of k (length s) (text_of s) ≡ agreed s
  unfolding reading_of text_entry_of is_text
  text-entry spelled.Text s e p = text_agrees false spelled.Text (λ w x. refl) s (Text c) e refl p
  text-entry spelled.Comment s e p = text_agrees true spelled.Comment (λ w x. refl) s (Text c) e refl p
  text-entry spelled.Whole s e p = absurd (no_whole s e)
  text-entry spelled.Decimal s e p = absurd (no_text Decimal (number_in true s) (number_in_kind true s) (λ d h. zero_one cc) e)
  text-entry spelled.Date s e p = absurd (no_text Date (date_of s) (date_kind s) (λ d h. zero_one cc) e)
  text-entry spelled.Latitude s e p = absurd (no_text Angle (angle_of Y s) (angle_kind Y s) (λ z h. zero_one cc) e)
  text-entry spelled.Longitude s e p = absurd (no_text Angle (angle_of X s) (angle_kind X s) (λ z h. zero_one cc) e)
  text-entry spelled.Northing s e p = absurd (no_text Decimal (grid_of Y s) (grid_kind Y s) (λ d h. zero_one cc) e)
  text-entry spelled.Easting s e p = absurd (no_text Decimal (grid_of X s) (grid_kind X s) (λ d h. zero_one cc) e)

-- rewriting a text that was read leaves the columns as they are
pub text_rewritten : (k : Spelling) (s : List ℕ) (c : Columns) → reading_of k s ≡ Ok (Text c) → printable s ≡ true → rewritten_of k s ≡ agreed s
unfolding rewritten_of again_in
text_rewritten k s c e p = ap (again_in k s) e ∙ text-entry c k s e p
