-- What each way through an entry finds.
use Prim.Native.Nat.{ℕ, ◌-◌, ◌≤◌}
use native.Mathlib.Omega.{arith}
use mathlib.Core.Path.{◌≡◌, refl, sym, ap, ◌∙◌}
use mathlib.Core.List.{List, []}
use mathlib.Core.Bool.{Bool, true, false, ◌&&◌, true≢false, false≢true}
use lib.ListN.{length, take, drop, length-drop}
use lib.Seq.{length-take-le}
use lib.Dec.{T}
use lib.IntN.{ℤ, pos, negsuc}
use borrow.Rule.Slice.PartMut.{put_mid, put_same}
use Rattle.base_refusal.specs.declared.Unwritten.TheVariants as unwritten
use Rattle.base_digits.specs.digits.Columns.{Entry, agreed, refused, entered_in, room_of, answer_of as written_of}
use Rattle.value_number.specs.number_entry.Spelling.{decimal_in}
use Rattle.base_value.specs.declared.Value.{Value}
use Rattle.base_value.specs.declared.Value.TheVariants.{Absent, Whole, Decimal, Angle, Date, Text}
use Rattle.value_field.specs.declared.spelling.Spelling.{Spelling}
use Rattle.value_field.specs.declared.spelling.Spelling.TheVariants as spelled
use Rattle.value_field.specs.writing.Writing.{no_value_in, whole_in, units_in, day_in, arc_in, grid_entry_in, entry_of, text_entry_of}
use Rattle.format_layout.specs.declared.Kind.{Kind}
use Rattle.format_layout.specs.declared.Kind.TheVariants as kind
use Rattle.format_layout.specs.declared.Range.{Range}
use Rattle.format_layout.specs.declared.Range.TheVariants.{Any, AtLeast, Between, OneOf as OneOfThree}
use Rattle.format_layout.specs.Columns.{ranged, width}
use Rattle.format_layout.specs.declared.Field.{Field}
use Rattle.format_layout.specs.declared.Form.{Form}
use Rattle.format_layout.specs.Forms.{form_numbered}
use Rattle.format_layout.specs.ranges.Ranges.{in_range}
use Rattle.format_layout.specs.Layouts.{is_any}
use Rattle.format_layout.proofs.Numbers.{found-ranged}
use Rattle.card_field.proofs.seeking.Steps.{found-there}
use Rattle.card_field.proofs.Steps.{found-fits}
use Rattle.base_refusal.specs.declared.Refusal.{Refusal}
use Rattle.base_refusal.specs.Refusals.{refusal}
use Rattle.card_field.specs.seeking.Card.{sought_of}
use Rattle.card_field.specs.judging.Fields.{spelling_of}
use Rattle.card_put.specs.Putting.{Putting, stays, answer_of, left_by, came_of, placed_in, is_absent, within, is_other, by_entry, value_put, value_at, text_at, putting_of, putting_text_of}
use Rattle.card_field.specs.needing.Needs.{needed_after}
use Rattle.std.specs.Prelude.{Result, Ok, Err, ⊤, Option, None, Some}
use Rattle.base_refusal.specs.declared.Unwritten.{Unwritten}
use Rattle.card_field.specs.seeking.Found.{sought}

-- writing a field's columns puts the entry on the card
came_answer : (s : List ℕ) (why : Result ⊤ Unwritten) → answer_of (came_of [] why) ≡ answer_of (came_of s why)
unfolding came_of
came_answer s (Ok _) = refl
came_answer s (Err unwritten.Unprintable) = refl
came_answer s (Err unwritten.Malformed) = refl
came_answer s (Err unwritten.OutOfRange) = refl
came_answer s (Err unwritten.OtherKind) = refl
came_answer s (Err unwritten.NoRoom) = refl

came_left : (s : List ℕ) (why : Result ⊤ Unwritten) → s ≡ left_by (came_of s why) s
unfolding came_of
came_left s (Ok _) = refl
came_left s (Err unwritten.Unprintable) = refl
came_left s (Err unwritten.Malformed) = refl
came_left s (Err unwritten.OutOfRange) = refl
came_left s (Err unwritten.OtherKind) = refl
came_left s (Err unwritten.NoRoom) = refl

pub columns_wide : (s : List ℕ) (at last : ℕ) → at ≤ last → last ≤ length s → length (take (last - at) (drop at s)) ≡ last - at
columns_wide s at last h g = length-take-le (last - at) (drop at s) (rw (length-drop at s) (omega arith))

put_entry : (f : Field) (s : List ℕ) (e : Entry) (r : Result ⊤ Unwritten) (a : Result ⊤ Refusal) (t : List ℕ) → a ≡ answer_of (came_of [] r) → r ≡ written_of e
    → t ≡ entered_in e (take (width f) (drop (f.first - 1) s))
    → (a ≡ answer_of (by_entry f s e)) × (put_mid (f.first - 1) (width f) s t ≡ left_by (by_entry f s e) s)
unfolding by_entry placed_in came_of
put_entry f s (agreed u) r a t p q h = (p ∙ ap (λ x. answer_of (came_of [] x)) q, ap (put_mid (f.first - 1) (width f) s) h)
put_entry f s (refused why) r a t p q h = (
  p ∙ ap (λ x. answer_of (came_of [] x)) q ∙ came_answer s (Err why),
  ap (put_mid (f.first - 1) (width f) s) h ∙ put_same (f.first - 1) (width f) s ∙ came_left s (Err why),
)

-- the same with the field's parts one by one, of whatever is entered by a spelling and a width
pub put_parts : (e : Spelling → ℕ → Entry) (f : Field) (form : Form) (s : List ℕ) → f.first ≤ f.last → f.last ≤ length s
    → (first last : ℕ) → first ≡ f.first → last ≡ f.last → (d : Kind) → d ≡ f.kind → (x : Spelling) → x ≡ spelling_of d form
    → (r : Result ⊤ Unwritten) (a : Result ⊤ Refusal) (t : List ℕ) → a ≡ answer_of (came_of [] r)
    → r ≡ written_of (e x (length (take (last - (first - 1)) (drop (first - 1) s))))
    → t ≡ entered_in (e x (length (take (last - (first - 1)) (drop (first - 1) s)))) (take (last - (first - 1)) (drop (first - 1) s))
    → (a ≡ answer_of (by_entry f s (e (spelling_of f.kind form) (width f))))
    × (put_mid (first - 1) (last - (first - 1)) s t ≡ left_by (by_entry f s (e (spelling_of f.kind form) (width f))) s)
put_parts e f form s forward on_card_lem first last i j d k x l r a t p q h =
    let y : x ≡ spelling_of f.kind form = l ∙ ap (λ z. spelling_of z form) k in
    let w : length (take (width f) (drop (f.first - 1) s)) ≡ width f = columns_wide s (f.first - 1) f.last (omega arith) on_card_lem in
    rw (i, j) (put_entry f s (e (spelling_of f.kind form) (width f)) r a t p (q ∙ rw (i, j, y, w)) (h ∙ rw (i, j, y, w)))

-- a number outside a range is one that the field takes
any_range : (r : Range) (z : ℤ) → is_any r ≡ true → in_range r z ≡ true
unfolding in_range
any_range Any (pos n) h = refl
any_range Any (negsuc n) h = refl
any_range (AtLeast a) z h = absurd (false≢true h)
any_range (Between a b) z h = absurd (false≢true h)
any_range (OneOfThree a b c) z h = absurd (false≢true h)

room_kind : (o : Option (List ℕ)) → is_other (room_of o) ≡ false
unfolding is_other
room_kind (Some t) = refl
room_kind None = refl

is_true : (b : Bool) → T b → b ≡ true
is_true true t = refl
is_true false t = absurd t

-- a whole number is of the kind of a whole field
whole_taken : (w : ℕ) (form : Form) (z : ℤ) → is_other (entry_of (spelling_of kind.Whole form) w (Whole z)) ≡ false
unfolding spelling_of entry_of whole_in
whole_taken w form z = room_kind (decimal_in w (record { units = z; places = 0 }))

-- absence is of every kind
absent_taken : (k : Spelling) (w : ℕ) → is_other (entry_of k w Absent) ≡ false
unfolding is_other entry_of no_value_in whole_in units_in day_in arc_in grid_entry_in
absent_taken spelled.Text w = refl
absent_taken spelled.Comment w = refl
absent_taken spelled.Whole w = refl
absent_taken spelled.Decimal w = refl
absent_taken spelled.Date w = refl
absent_taken spelled.Latitude w = refl
absent_taken spelled.Longitude w = refl
absent_taken spelled.Northing w = refl
absent_taken spelled.Easting w = refl

other_kind : (f : Field) (s : List ℕ) (e : Entry) → is_other e ≡ true → by_entry f s e ≡ stays (refusal 12 1 0)
unfolding is_other by_entry came_of
other_kind f s (agreed t) h = absurd (false≢true h)
other_kind f s (refused unwritten.Unprintable) h = absurd (false≢true h)
other_kind f s (refused unwritten.Malformed) h = absurd (false≢true h)
other_kind f s (refused unwritten.OutOfRange) h = absurd (false≢true h)
other_kind f s (refused unwritten.OtherKind) h = refl
other_kind f s (refused unwritten.NoRoom) h = absurd (false≢true h)

module _ (k : ℕ) (s : List ℕ) (n : ℕ) (f : Field) (form : Form) where
  outside_number : (z : ℤ) → T (ranged f.kind f.range) → in_range f.range z ≡ false
      → value_put k s n f form (Whole z) ≡ stays (refusal 10 1 0)
  unfolding value_put
  outside_number z t h = go f.kind refl t
    where
      never : is_any f.range ≡ true → ⊥
      never a = true≢false (sym (any_range f.range z a) ∙ h)

      go : (x : Kind) → f.kind ≡ x → T (ranged x f.range) → value_put k s n f form (Whole z) ≡ stays (refusal 10 1 0)
      go kind.Whole q t = rw (q, whole_taken (width f) form z, h)
      go kind.Text q t = absurd (never (is_true _ t))
      go kind.Comment q t = absurd (never (is_true _ t))
      go kind.Decimal q t = absurd (never (is_true _ t))
      go kind.Date q t = absurd (never (is_true _ t))
      go kind.Latitude q t = absurd (never (is_true _ t))
      go kind.Longitude q t = absurd (never (is_true _ t))

  pub put_outside : (v : Value) → T (ranged f.kind f.range) → within f v ≡ false → value_put k s n f form v ≡ stays (refusal 10 1 0)
  put_outside Absent t h = absurd (true≢false h)
  put_outside (Whole z) t h = outside_number z t h
  put_outside (Decimal d) t h = absurd (true≢false h)
  put_outside (Angle z) t h = absurd (true≢false h)
  put_outside (Date d) t h = absurd (true≢false h)
  put_outside (Text c) t h = absurd (true≢false h)

  pub put_missing : (v : Value) → (is_absent v && needed_after k s n f) ≡ true → value_put k s n f form v ≡ stays (refusal 11 1 f.first)
  unfolding value_put
  put_missing Absent h = rw (absent_taken (spelling_of f.kind form) (width f), h)
  put_missing (Whole z) h = absurd (false≢true h)
  put_missing (Decimal d) h = absurd (false≢true h)
  put_missing (Angle z) h = absurd (false≢true h)
  put_missing (Date d) h = absurd (false≢true h)
  put_missing (Text c) h = absurd (false≢true h)

  pub put_entered : (v : Value) → within f v ≡ true → (is_absent v && needed_after k s n f) ≡ false
      → value_put k s n f form v ≡ by_entry f s (entry_of (spelling_of f.kind form) (width f) v)
  unfolding value_put
  put_entered v h g = go (is_other e) refl
    where
      e : Entry
      e = entry_of (spelling_of f.kind form) (width f) v

      go : (b : Bool) → is_other (entry_of (spelling_of f.kind form) (width f) v) ≡ b
          → value_put k s n f form v ≡ by_entry f s (entry_of (spelling_of f.kind form) (width f) v)
      go true q = rw q (sym (other_kind f s (entry_of (spelling_of f.kind form) (width f) v) q))
      go false q = rw (q, g, h)

-- the same putting under another name
pub same_putting : {p q : Putting} (old new : List ℕ) (a : Result ⊤ Refusal) → q ≡ p → a ≡ answer_of p → new ≡ left_by p old
    → (a ≡ answer_of q) × (new ≡ left_by q old)
same_putting old new a e x y = (x ∙ sym (ap answer_of e), y ∙ sym (ap (λ p. left_by p old) e))

pub stayed : {q : Putting} {r : Refusal} (old : List ℕ) (a : Result ⊤ Refusal) → q ≡ stays r → a ≡ Err r → (a ≡ answer_of q) × (old ≡ left_by q old)
stayed old a e x = (x ∙ sym (ap answer_of e), sym (ap (λ p. left_by p old) e))

-- a field that was found is where the functions below ask it to be
module _ (s : List ℕ) (n form k : ℕ) (f : Field) (q : sought_of s n form ≡ Ok (sought k f)) where
  pub value_is : (x : Form) → x ≡ form_numbered form → (v : Value) → putting_of s n form v ≡ value_put k s n f x v
  unfolding putting_of value_at
  value_is x g v = rw (q, g)

  pub text-is : (x : Form) → x ≡ form_numbered form → (t : List ℕ)
      → putting_text_of s n form t ≡ by_entry f s (text_entry_of (spelling_of f.kind x) (width f) t)
  unfolding putting_text_of text_at
  text-is x g t = rw (q, g)

  pub field_fits : (length s ≡ 80) × (1 ≤ f.first) × (f.first ≤ f.last) × (f.last ≤ 80) × T (ranged f.kind f.range)
  field_fits =
      let h = found-fits s n form k f q in
      (h.0, h.1, h.2, h.3, found-ranged k n f (found-there s n form k f q).field)

module _ (s : List ℕ) (n form : ℕ) (r : Refusal) (q : sought_of s n form ≡ Err r) where
  pub value_stays : (v : Value) → putting_of s n form v ≡ stays r
  unfolding putting_of value_at
  value_stays v = rw q

  pub text-stays : (t : List ℕ) → putting_text_of s n form t ≡ stays r
  unfolding putting_text_of text_at
  text-stays t = rw q
