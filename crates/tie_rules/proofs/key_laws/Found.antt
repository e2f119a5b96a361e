-- The keys that stand on a printable card are keys that a card can bear, so their numbers tell them.
use Prim.Native.Nat.{ℕ, zero, suc, ◌+◌, ◌-◌, ◌^◌, ◌≤◌, ◌<◌}
use native.Mathlib.Nat.{pow-le-pow_right, lt_of_lt_of_le}
use native.Mathlib.Decide.{dec_lt}
use native.Mathlib.Omega.{arith}
use mathlib.Core.Path.{◌≡◌, refl, ap, ap₂, subst, ◌∙◌}
use mathlib.Core.List.{List, [], ◌∷◌, ◌++◌, append-nil}
use mathlib.Core.Bool.{Bool, true, false, cond, ◌&&◌, ◌||◌}
use lib.Dec.{eqb, leb, ltb}
use lib.ListN.{length, get_or, drop, length-take, length-drop, get_or-eq_default}
use borrow.Author.Tests.{eq-eqb, ne_eqb, eqb-true, lt-ltb, le-leb, leb-true}
use Rattle.base_digits.specs.digits.Figures.{blanks, unpadded, leading, behind, value_from, limit, capped}
use Rattle.base_digits.proofs.digits.Numbers.{value_below}
use Rattle.base_digits.proofs.digits.Walk.{leading-take}
use Rattle.base_digits.specs.signs.Signs.{signed_of}
use Rattle.value_text.specs.text.Texts.{text_end, text_of, printable}
use Rattle.value_number.specs.number.Reading.{point_of, figures_of, held_of, sign_of, number_of}
use Rattle.base_value.specs.declared.Value.TheVariants.{Whole, Decimal}
use Rattle.base_value.specs.declared.Unread.TheVariants.{OutOfRange}
use Rattle.value_field.specs.declared.spelling.Spelling.TheVariants as spelled
use Rattle.value_field.proofs.spelling.Standing.{stretch_le}
use Rattle.value_field.specs.spelling.Reading.{number_in, whole_reading, reading_of}
use Rattle.header_check.specs.forms.Cards.{byte_in, layout_of}
use Rattle.tie_rules.specs.Offered.{is_whole, whole_fits, pair_fits, text_fits, borne}
use Rattle.tie_rules.proofs.packing.Bits.{byte-printed, printable-take, printable-drop}
use Rattle.tie_rules.proofs.packing.Steps.{whole-class, end_of_text}
use Rattle.tie_rules.specs.Ties.{Source, digit, whole, serial, waypoint, only, allotted, nothing, Role, ties, line_for}
use Rattle.tie_rules.specs.Keys.{is_none, between, whole_key, whole_in, paired, in_part, key_in, class_at, key_at}
use Rattle.tie_rules.proofs.keys.Table.{of_kind, rule, line_of_kind}
use Rattle.tie_rules.specs.packed.Rows.{marked, unmarked}
use Rattle.tie_rules.proofs.keys.Steps.{mark_tells}
use Rattle.std.specs.Prelude.{Ok, Err, Option, Some, None}
use Rattle.value_number.specs.declared.number.Figures.{Figures}
use Rattle.value_number.specs.number.Figures.{figures}

-- a number that is there is below a bound
abbrev pub Small : ℕ → List ℕ → Type 0
Small bound [] = Unit {0}
Small bound (n ∷ ns) = n < bound

abbrev SmallFigures : ℕ → Option Figures → Type 0
SmallFigures bound None = Unit {0}
SmallFigures bound (Some f) = f.units < bound

small_larger : (a b : ℕ) → a ≤ b → (key : List ℕ) → Small a key → Small b key
small_larger a b h [] l = tt
small_larger a b h (n ∷ ns) l = lt_of_lt_of_le l h

leading_short : (t : List ℕ) → length (leading t) ≤ length t
leading_short t = omega (arith, ap length (leading-take t) ∙ length-take (length (leading t)) t)

-- figures without a point are below the power of ten of their columns
small_figures : (t : List ℕ) → SmallFigures (10 ^ length t) (figures_of false t)
unfolding figures_of point_of
small_figures t = go (behind t)
  where
    value : capped (value_from 0 (leading t ++ [])) < 10 ^ length t
    value =
        let e : value_from 0 (leading t ++ []) ≡ value_from 0 (leading t) = ap (value_from 0) (append-nil (leading t)) in
        let p : 10 ^ length (leading t) ≤ 10 ^ length t = pow-le-pow_right (omega arith) (leading_short t) in
        omega (arith, value_below 0 t)

    counted : (b : Bool) → SmallFigures (10 ^ length t) (cond b None (Some (figures (capped (value_from 0 (leading t ++ []))) 0)))
    counted true = tt
    counted false = value

    go : (r : List ℕ) → SmallFigures (10 ^ length t) (point_of false (leading t) r)
    go [] = counted (eqb (length (leading t) + 0) 0)
    go (c ∷ r) = tt

small_signed : (bound : ℕ) (minus : Bool) (n : ℕ) → n < bound → Small bound (whole_key (Ok (Whole (signed_of minus n))))
unfolding whole_key signed_of
small_signed bound true zero h = h
small_signed bound true (suc n) h = tt
small_signed bound false n h = h

small-held : (bound : ℕ) (minus : Bool) (f : Option Figures) → SmallFigures bound f
    → Small bound (whole_key (whole_reading (held_of minus f)))
unfolding whole_key whole_reading held_of
small-held bound minus None h = tt
small-held bound minus (Some f) h = go (ltb f.units limit)
  where
    go : (b : Bool) → Small bound (whole_key (whole_reading
        (cond b (Ok (Decimal (record { units = signed_of minus f.units; places = f.places }))) (Err OutOfRange))))
    go true = small_signed bound minus f.units h
    go false = tt

-- a whole number in some columns is below their power of ten
small-sign : (t : List ℕ) → Small (10 ^ length t) (whole_key (whole_reading (sign_of false t)))
unfolding sign_of whole_key whole_reading
small-sign [] = tt
small-sign (b ∷ t) = go (eqb b 45) (eqb b 43)
  where
    more : 10 ^ length t ≤ 10 ^ suc (length t)
    more = pow-le-pow_right (omega arith) (omega arith)

    rest : (minus : Bool) → Small (10 ^ suc (length t)) (whole_key (whole_reading (held_of minus (figures_of false t))))
    rest minus =
        small_larger (10 ^ length t) (10 ^ suc (length t)) more (whole_key (whole_reading (held_of minus (figures_of false t))))
        (small-held (10 ^ length t) minus (figures_of false t) (small_figures t))

    go : (m p : Bool) → Small (10 ^ suc (length t)) (whole_key (whole_reading (
        cond m (held_of true (figures_of false t)) (cond p (held_of false (figures_of false t))
        (held_of false (figures_of false (b ∷ t)))))))
    go true p = rest true
    go false true = rest false
    go false false = small-held (10 ^ suc (length t)) false (figures_of false (b ∷ t)) (small_figures (b ∷ t))

small-whole : (t : List ℕ) → Small (10 ^ length t) (whole_key (reading_of spelled.Whole t))
unfolding reading_of number_in number_of unpadded
small-whole t =
    let u : List ℕ = text_of t in
    small_larger (10 ^ length (drop (blanks u) u)) (10 ^ length t)
    (pow-le-pow_right (omega arith) (omega (arith, length-drop (blanks u) u, stretch_le t)))
    (whole_key (whole_reading (sign_of false (drop (blanks u) u))))
    (small-sign (drop (blanks u) u))

between_short : (first last : ℕ) (s : List ℕ) → length (between first last s) ≤ last - (first - 1)
unfolding between
between_short first last s = omega (arith, length-take (last - (first - 1)) (drop (first - 1) s))

pub small_in : (first last n : ℕ) (s : List ℕ) → last - (first - 1) ≤ n → Small (10 ^ n) (whole_in first last s)
unfolding whole_in
small_in first last n s h =
    small_larger (10 ^ length (between first last s)) (10 ^ n)
    (pow-le-pow_right (omega arith) (omega (arith, between_short first last s)))
    (whole_key (reading_of spelled.Whole (between first last s)))
    (small-whole (between first last s))

-- there is no key, or one that a card can bear
unfoldable pub stands : ℕ → List ℕ → Bool
stands class key = is_none key || borne class key

none_stands : (class : ℕ) → stands class [] ≡ true
unfolding stands is_none
none_stands class = refl

number_stands : (class : ℕ) → is_whole class ≡ true → (m : ℕ) → Small 10000 (unmarked m) → stands class (unmarked m) ≡ true
unfolding stands is_none borne whole_fits
number_stands class w zero h = refl
number_stands class w (suc n) h =
    let k = whole-class class w in
    rw (ne_eqb class 4 k.no_text, ne_eqb class 7 k.no_pair, w, lt-ltb n 10000 h)

pub shape : (first last : ℕ) (s : List ℕ) → whole_in first last s ≡ unmarked (marked (whole_in first last s))
unfolding whole_in
shape first last s = mark_tells (reading_of spelled.Whole (between first last s))

pub small-mark : (first last n : ℕ) (s : List ℕ) → last - (first - 1) ≤ n → Small (10 ^ n) (unmarked (marked (whole_in first last s)))
small-mark first last n s h = subst (λ (l : List ℕ). Small (10 ^ n) l) (shape first last s) (small_in first last n s h)

whole_stands : (class first last : ℕ) (s : List ℕ) → is_whole class ≡ true → last - (first - 1) ≤ 4
    → stands class (whole_in first last s) ≡ true
whole_stands class first last s w h =
    ap (stands class) (shape first last s) ∙ number_stands class w (marked (whole_in first last s)) (small-mark first last 4 s h)

-- no part of a range has a key that the range has not
part_stands : (class least most : ℕ) (key : List ℕ) → stands class key ≡ true → stands class (in_part least most key) ≡ true
unfolding in_part
part_stands class least most [] h = h
part_stands class least most (n ∷ ns) h = go (leb least n && leb n most)
  where
    go : (b : Bool) → stands class (cond b (n ∷ ns) []) ≡ true
    go true = h
    go false = none_stands class

pair_stands : (m n : ℕ) → Small 10 (unmarked m) → Small 1000 (unmarked n) → stands 7 (paired (unmarked m) (unmarked n)) ≡ true
unfolding stands is_none paired borne pair_fits
pair_stands zero n h l = refl
pair_stands (suc m) zero h l = refl
pair_stands (suc m) (suc n) h l = rw (lt-ltb m 10 h, lt-ltb n 1000 l)

waypoint_stands : (first last : ℕ) (s : List ℕ) → last - (first - 1) ≤ 3
    → stands 7 (paired (whole_in 7 7 s) (whole_in first last s)) ≡ true
waypoint_stands first last s h =
    ap₂ (λ (a b : List ℕ). stands 7 (paired a b)) (shape 7 7 s) (shape first last s)
    ∙ pair_stands (marked (whole_in 7 7 s)) (marked (whole_in first last s)) (small-mark 7 7 1 s (omega arith))
    (small-mark first last 3 s h)

text_stands : (u : List ℕ) → length u ≤ 8 → text_end u ≡ length u → printable u ≡ true → stands 4 u ≡ true
unfolding stands is_none borne text_fits
text_stands [] l e p = refl
text_stands (b ∷ u) l e p =
    rw (le-leb 1 (suc (length u)) (omega arith), le-leb (suc (length u)) 8 l, eq-eqb (text_end (b ∷ u)) (suc (length u)) e, p)

serial_stands : (first last : ℕ) (s : List ℕ) → last - (first - 1) ≤ 8 → printable s ≡ true
    → stands 4 (text_of (between first last s)) ≡ true
unfolding text_of between
serial_stands first last s h p =
    let t = between first last s in
    text_stands (text_of t) (omega (arith, length-take (text_end t) t, between_short first last s)) (end_of_text t)
    (printable-take (text_end t) t (printable-take (last - (first - 1)) (drop (first - 1) s) (printable-drop (first - 1) s p)))

byte_below : (s : List ℕ) (i : ℕ) → printable s ≡ true → get_or s i 0 ≤ 126
byte_below s i p = elim (dec_lt i (length s)) [
  | yes l ↦ (byte-printed i s l p).1
  | no l ↦ omega (arith, get_or-eq_default s 0 {n = i} (omega arith))
]

digit_stands : (class : ℕ) (s : List ℕ) → is_whole class ≡ true → printable s ≡ true → stands class ((byte_in s 5 - 48) ∷ []) ≡ true
unfolding byte_in
digit_stands class s w p = number_stands class w (suc (get_or s 4 0 - 48)) (omega (arith, byte_below s 4 p))

-- the columns of a source are few enough
abbrev narrow : Source → Bool
narrow digit = true
narrow (whole first last) = leb (last - (first - 1)) 4
narrow (serial first last) = leb (last - (first - 1)) 8
narrow (waypoint first last) = leb (last - (first - 1)) 3
narrow only = true
narrow (allotted first last least most) = leb (last - (first - 1)) 4
narrow nothing = true

source_stands : (class : ℕ) (src : Source) (s : List ℕ) → of_kind class src ≡ true → narrow src ≡ true → printable s ≡ true
    → stands class (key_in src s) ≡ true
unfolding of_kind key_in
source_stands class digit s k n p = digit_stands class s k p
source_stands class (whole first last) s k n p = whole_stands class first last s k (leb-true (last - (first - 1)) 4 n)
source_stands class (serial first last) s k n p =
    rw (eqb-true class 4 k) (serial_stands first last s (leb-true (last - (first - 1)) 8 n) p)
source_stands class (waypoint first last) s k n p =
    rw (eqb-true class 7 k) (waypoint_stands first last s (leb-true (last - (first - 1)) 3 n))
source_stands class only s k n p = number_stands class k 1 (omega arith)
source_stands class (allotted first last least most) s k n p =
    part_stands class least most (whole_in first last s) (whole_stands class first last s k (leb-true (last - (first - 1)) 4 n))
source_stands class nothing s k n p = none_stands class

line_narrow : (r : Role) (k column : ℕ) → narrow (line_for r k column).source ≡ true
unfolding ties
line_narrow r k column = rule (λ t. narrow t.source) refl r k column refl

-- on a printable card every column has no key, or one that a card can bear
pub found_stands : (r : Role) (s : List ℕ) (column : ℕ) → printable s ≡ true
    → stands (class_at r s column) (key_at r s column) ≡ true
unfolding class_at key_at
found_stands r s column p =
    source_stands (line_for r (layout_of s) column).class (line_for r (layout_of s) column).source s
    (line_of_kind r (layout_of s) column) (line_narrow r (layout_of s) column) p
