-- A field of which the machine is sure has no offence and no misplaced number.
use Prim.Native.Nat.{ℕ, suc, ◌-◌, ◌≤◌}
use native.Mathlib.Omega.{arith}
use mathlib.Core.Path.{◌≡◌, refl, sym, ap, ◌∙◌, subst}
use mathlib.Core.List.{List, [], ◌∷◌}
use mathlib.Core.Bool.{Bool, true, false, cond, ◌&&◌, ◌||◌, not, true≢false}
use lib.Dec.{T, eqb, leb→le}
use lib.ListN.{length, take, drop, replicate, length-drop}
use lib.Seq.{length-take-le}
use borrow.Author.Tests.{eqb-true, not-true}
use Rattle.base_value.specs.declared.Value.TheVariants.{Absent, Whole, Decimal, Angle, Date, Text}
use Rattle.base_value.specs.declared.Unread.TheVariants.{Malformed, OutOfRange}
use Rattle.value_field.specs.spelling.Reading.{number_in, pushed_left, whole_reading, reading_of, misplaced_in}
use Rattle.format_layout.specs.declared.Kind.{Kind}
use Rattle.format_layout.specs.declared.Kind.TheVariants as kind
use Rattle.format_layout.specs.declared.Range.{Range}
use Rattle.format_layout.specs.declared.Range.TheVariants as range
use Rattle.format_layout.specs.declared.Field.{Field}
use Rattle.format_layout.specs.declared.Form.{Form}
use Rattle.format_layout.specs.Layouts.{fields_of, is_any}
use Rattle.format_layout.specs.Columns.{width, wide_as, ranged}
use Rattle.format_layout.specs.ranges.Ranges.{in_range}
use Rattle.card_field.specs.needing.Needs.{columns_of, any_second, needed_on}
use Rattle.card_field.specs.judging.Fields.{spelling_of, value_of, held_of, number_of, judged_of, misplaced_on}
use Rattle.card_screen.specs.Machine.{ends, runs}
use Rattle.card_screen.specs.Roles.{whole_roles, roles_for, roles_in}
use Rattle.card_screen.proofs.Rows.{both, is_true}
use Rattle.card_screen.proofs.Steps.{runs-take, afresh}
use Rattle.card_screen.proofs.Whole.{fits_good, fault_of, good, whole_tried}
use Rattle.card_screen.proofs.Decimals.{decimal_run, decimal_good}
use Rattle.card_screen.proofs.Texts.{text_good, needed_good}
use Rattle.std.specs.Prelude.{Result, Ok, Err}
use Rattle.base_value.specs.declared.Unread.{Unread}
use Rattle.base_value.specs.declared.Value.{Value}

-- the offence of a field that is needed as its row says, and one that is needed only with its set
fault_is : (needed : Bool) (f : Field) (r : Result Value Unread) → number_of (held_of needed f r) ≡ fault_of needed f.range r
unfolding held_of value_of
fault_is needed f (Err Malformed) = refl
fault_is needed f (Err OutOfRange) = refl
fault_is true f (Ok Absent) = refl
fault_is false f (Ok Absent) = refl
fault_is needed f (Ok (Whole z)) = go (in_range f.range z)
  where
    go : (b : Bool) → number_of (cond b (Ok (Whole z)) (Err 10)) ≡ cond b 0 10
    go true = refl
    go false = refl
fault_is needed f (Ok (Decimal d)) = refl
fault_is needed f (Ok (Angle z)) = refl
fault_is needed f (Ok (Date d)) = refl
fault_is needed f (Ok (Text c)) = refl

milder : (needed x : Bool) (r : Range) (v : Result Value Unread) → fault_of needed r v ≡ 0 → fault_of (needed && x) r v ≡ 0
milder true true r v h = h
milder true false r (Ok Absent) h = refl
milder true false r (Ok (Whole z)) h = h
milder true false r (Ok (Decimal d)) h = refl
milder true false r (Ok (Angle z)) h = refl
milder true false r (Ok (Date d)) h = refl
milder true false r (Ok (Text c)) h = refl
milder true false r (Err Malformed) h = h
milder true false r (Err OutOfRange) h = h
milder false x r v h = h

-- what is known of a field's columns
abbrev Fine : Bool → Range → Kind → Form → List ℕ → ℕ → Type 0
Fine needed r κ form t q =
    T (ends q) × (fault_of needed r (reading_of (spelling_of κ form) t) ≡ 0) × (misplaced_in (spelling_of κ form) t ≡ false)

behind-first : (t : List ℕ) → suc (length t) - 1 ≡ length t
behind-first t = omega arith

text_fine : (needed : Bool) (r : Range) (form : Form) (t : List ℕ) (q : ℕ) → 1 ≤ length t
    → T (ends (runs (roles_for kind.Text needed r (length t)) t q)) → Fine needed r kind.Text form t q
unfolding roles_for spelling_of reading_of misplaced_in
text_fine needed r form [] q l h = absurd (omega arith)
text_fine true r form (b ∷ t) q l h =
    let m = needed_good r b t q (subst (λ (n : ℕ). T (ends (runs (2 ∷ replicate n 3) (b ∷ t) q))) (behind-first t) h) in
    (m.0, m.1, refl)
text_fine false r form (b ∷ t) q l h =
    let m = text_good r b t q (subst (λ (n : ℕ). T (ends (runs (1 ∷ replicate n 3) (b ∷ t) q))) (behind-first t) h) in
    (m.0, m.1, refl)

whole_fine : (needed : Bool) (r : Range) (form : Form) (t : List ℕ) (q : ℕ) → 1 ≤ length t → length (roles_for kind.Whole needed r (length t)) ≡ length t
    → T (ends (runs (roles_for kind.Whole needed r (length t)) t q)) → Fine needed r kind.Whole form t q
unfolding roles_for spelling_of reading_of misplaced_in
whole_fine needed r form t q l e h =
    let m = fits_good (whole_roles needed r (length t)) (good needed r) (whole_tried needed r (length t) l e) t (sym e) q h in
    let p = both (eqb (fault_of needed r (whole_reading (number_in false t))) 0) (not (pushed_left t)) m.1 in
    (m.0, eqb-true _ _ (is_true _ p.0), not-true _ (is_true _ p.1))

decimal-any : (r : Range) (v : Result Value Unread) → is_any r ≡ true → fault_of false range.Any v ≡ 0 → fault_of false r v ≡ 0
decimal-any range.Any v e h = h
decimal-any (range.AtLeast a) v e h = absurd (true≢false (sym e))
decimal-any (range.Between a b) v e h = absurd (true≢false (sym e))
decimal-any (range.OneOf a b c) v e h = absurd (true≢false (sym e))

decimal_fine : (needed : Bool) (r : Range) (form : Form) (t : List ℕ) (q : ℕ) → 1 ≤ length t → length t ≤ 18 → is_any r ≡ true
    → length (roles_for kind.Decimal needed r (length t)) ≡ length t → T (ends (runs (roles_for kind.Decimal needed r (length t)) t q)) → Fine needed r kind.Decimal form t q
unfolding roles_for spelling_of reading_of misplaced_in
decimal_fine true r form t q l few any e h = absurd (omega (arith, e))
decimal_fine false r form [] q l few any e h = absurd (omega arith)
decimal_fine false r form (b ∷ t) q l few any e h =
    let m = afresh 4 (replicate (length t) 5) b t q refl (subst (λ (n : ℕ). T (ends (runs (4 ∷ replicate n 5) (b ∷ t) q))) (behind-first t) h) in
    let p = decimal_good (b ∷ t) few (subst (λ (z : ℕ). T (ends z)) (decimal_run b t) m.1) in
    (m.0, decimal-any r (number_in true (b ∷ t)) any p.0, p.1)

-- a field by its kind
fine : (κ : Kind) (needed : Bool) (r : Range) (form : Form) (t : List ℕ) (q : ℕ) → 1 ≤ length t → T (wide_as κ (length t)) → T (ranged κ r)
    → length (roles_for κ needed r (length t)) ≡ length t → T (ends (runs (roles_for κ needed r (length t)) t q)) → Fine needed r κ form t q
unfolding roles_for
fine kind.Text needed r form t q l w a e h = text_fine needed r form t q l h
fine kind.Comment needed r form t q l w a e h = absurd (omega (arith, e))
fine kind.Whole needed r form t q l w a e h = whole_fine needed r form t q l e h
fine kind.Decimal needed r form t q l w a e h = decimal_fine needed r form t q l (leb→le _ _ w) (is_true _ a) e h
fine kind.Date needed r form t q l w a e h = absurd (omega (arith, e))
fine kind.Latitude needed r form t q l w a e h = absurd (omega (arith, e))
fine kind.Longitude needed r form t q l w a e h = absurd (omega (arith, e))

module _ (k : ℕ) (s : List ℕ) (whole : length s ≡ 80) (f : Field) (on : 1 ≤ f.first) (forward : f.first ≤ f.last) (within : f.last ≤ 80)
    (wide : T (wide_as f.kind (width f))) (any : T (ranged f.kind f.range)) (roles : length (roles_in f) ≡ width f) where
  long : length (columns_of f s) ≡ width f
  unfolding columns_of
  long = length-take-le (width f) (drop (f.first - 1) s) (omega (arith, length-drop (f.first - 1) s))

  taken : (q : ℕ) → runs (roles_in f) (drop (f.first - 1) s) q ≡ runs (roles_in f) (columns_of f s) q
  unfolding columns_of
  taken q = runs-take (roles_in f) (drop (f.first - 1) s) q ∙ ap (λ n. runs (roles_in f) (take n (drop (f.first - 1) s)) q) roles

  pub field_fine : (form : Form) (q : ℕ) → T (ends (runs (roles_in f) (drop (f.first - 1) s) q))
      → T (ends q) × (number_of (judged_of k s f form) ≡ 0) × (misplaced_on s f form ≡ false)
  unfolding judged_of needed_on misplaced_on
  field_fine form q h =
      let t : List ℕ = columns_of f s in
      let reading : Result Value Unread = reading_of (spelling_of f.kind form) t in
      let e : roles_in f ≡ roles_for f.kind f.needed f.range (length t) = ap (roles_for f.kind f.needed f.range) (sym long) in
      let m = fine f.kind f.needed f.range form t q (omega (arith, long)) (subst (λ (n : ℕ). T (wide_as f.kind n)) (sym long) wide) any
      (ap length (sym e) ∙ roles ∙ sym long) (subst (λ (l : List ℕ). T (ends (runs l t q))) e (subst (λ (z : ℕ). T (ends z)) (taken q) h)) in
      (m.0, fault_is (f.needed && (not f.second || any_second s (fields_of k))) f reading ∙ milder f.needed (not f.second || any_second s (fields_of k)) f.range reading m.1, m.2)
