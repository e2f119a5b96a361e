-- How many numbers a key has: a text of class 4 one to eight bytes, one of class 7 two, any other one. A key of another length,
-- and any of a class that there is not, has no definition.
use Prim.Native.Nat.{ℕ, ◌-◌, ◌≤◌}
use native.Mathlib.Omega.{arith}
use mathlib.Core.Path.{◌≡◌, refl, sym, ap, ◌∙◌}
use mathlib.Core.Logic.{⊎_elim}
use mathlib.Core.Bool.{Bool, true, false, cond, ◌&&◌, not, true≢false, false≢true}
use mathlib.Core.List.{List, [], ◌∷◌, ◌++◌}
use lib.Dec.{eqb, leb}
use lib.ListN.{length, take, drop, length-take}
use borrow.Author.Tests.{eqb-true, leb-true, le-leb}
use Rattle.base_lists.specs.Parts.{alike}
use Rattle.base_lists.proofs.Comparing.{alike_equal}
use Rattle.value_text.specs.text.Texts.{text_end, text_of}
use Rattle.value_field.specs.declared.spelling.Spelling.TheVariants as spelled
use Rattle.value_field.specs.spelling.Reading.{reading_of}
use Rattle.header_check.specs.forms.Cards.{card_at, layout_of}
use Rattle.tie_rules.specs.Ties.{Source, digit, whole, serial, waypoint, only, allotted, nothing, Role, defines, Tie, classes, ties, is_for, line_in, line_for}
use Rattle.tie_rules.specs.Keys.{is_none, between, whole_in, paired, in_part, key_in, class_at, key_at, holds_key, defines_key}
use Rattle.tie_rules.specs.Definitions.{definitions_of}
use Rattle.tie_laws.proofs.Tests.{both}
use Rattle.tie_laws.proofs.Sites.{gives}
use Rattle.tie_laws.proofs.Places.{none_exactly}
use Rattle.tie_laws.proofs.Counts.{whole_shape}

-- how many numbers a key of a class has
unfoldable pub length_fits : ℕ → ℕ → Bool
length_fits class n = cond (eqb class 4) (leb 1 n && leb n 8) (cond (eqb class 7) (eqb n 2) (eqb n 1))

-- there is such a class, and a key of that length is one of it
unfoldable pub fits_class : ℕ → ℕ → Bool
fits_class class n = (leb 1 class && leb class classes) && length_fits class n

-- a source gives keys of the class
abbrev suits : ℕ → Source → Bool
suits class digit = not (eqb class 4) && not (eqb class 7)
suits class (whole first last) = not (eqb class 4) && not (eqb class 7)
suits class (serial first last) = eqb class 4 && leb (last - (first - 1)) 8
suits class (waypoint first last) = not (eqb class 4) && eqb class 7
suits class only = not (eqb class 4) && not (eqb class 7)
suits class (allotted first last least most) = not (eqb class 4) && not (eqb class 7)
suits class nothing = true

abbrev suited : Tie → Bool
suited t = (leb 1 t.class && leb t.class classes) && suits t.class t.source

abbrev all_suited : List Tie → Bool
all_suited [] = true
all_suited (t ∷ ts) = suited t && all_suited ts

table_suited : all_suited ties ≡ true
unfolding ties
table_suited = refl

line_suited : (ts : List Tie) → all_suited ts ≡ true → (r : Role) (k column : ℕ)
    → gives (line_in ts r k column).source ≡ true → suited (line_in ts r k column) ≡ true
unfolding line_in
line_suited [] o r k column e = absurd (false≢true e)
line_suited (t ∷ ts) o r k column e = go (is_for r k column t) e (λ f. line_suited ts w.1 r k column f)
  where
    w : (suited t ≡ true) × (all_suited ts ≡ true)
    w = (both (suited t) (all_suited ts)).0 o

    go : (b : Bool) → gives (cond b t (line_in ts r k column)).source ≡ true
        → (gives (line_in ts r k column).source ≡ true → suited (line_in ts r k column) ≡ true)
        → suited (cond b t (line_in ts r k column)) ≡ true
    go true f ih = w.0
    go false f ih = ih f

-- one number, where the class is neither 4 nor 7
one_fits : (class n : ℕ) → (not (eqb class 4) && not (eqb class 7)) ≡ true → n ≡ 1 → length_fits class n ≡ true
unfolding length_fits
one_fits class n e q = rw q (go (eqb class 4) (eqb class 7) e)
  where
    go : (a b : Bool) → (not a && not b) ≡ true → cond a true (cond b false true) ≡ true
    go true b f = refl
    go false true f = f
    go false false f = refl

two_fits : (class n : ℕ) → (not (eqb class 4) && eqb class 7) ≡ true → n ≡ 2 → length_fits class n ≡ true
unfolding length_fits
two_fits class n e q = rw q (go (eqb class 4) (eqb class 7) e)
  where
    go : (a b : Bool) → (not a && b) ≡ true → cond a true (cond b true false) ≡ true
    go true b f = refl
    go false true f = refl
    go false false f = f

text-fits : (class n : ℕ) → eqb class 4 ≡ true → 1 ≤ n → n ≤ 8 → length_fits class n ≡ true
unfolding length_fits
text-fits class n e a b = rw (e, le-leb 1 n a, le-leb n 8 b)

-- a key that is there has a length
some-length : (l : List ℕ) → not (is_none l) ≡ true → 1 ≤ length l
unfolding is_none
some-length [] e = absurd (false≢true e)
some-length (x ∷ l) e = omega arith

module _ (s : List ℕ) where
  whole_length : (first last : ℕ) → not (is_none (whole_in first last s)) ≡ true → length (whole_in first last s) ≡ 1
  unfolding whole_in is_none
  whole_length first last e = ⊎_elim
      (λ x. absurd (false≢true (sym (ap (λ l. not (is_none l)) x) ∙ e)))
      (λ x. ap length x.1)
      (whole_shape (reading_of spelled.Whole (between first last s)))

  -- a key of a part of a range is one of the range
  part_length : (least most : ℕ) (key : List ℕ) → (not (is_none key) ≡ true → length key ≡ 1)
      → not (is_none (in_part least most key)) ≡ true → length (in_part least most key) ≡ 1
  unfolding in_part is_none
  part_length least most [] f e = absurd (false≢true e)
  part_length least most (n ∷ ns) f e = go (leb least n && leb n most) e
    where
      go : (b : Bool) → not (is_none (cond b (n ∷ ns) [])) ≡ true → length (cond b (n ∷ ns) []) ≡ 1
      go true q = f refl
      go false q = absurd (false≢true q)

  text-length : (first last : ℕ) → length (text_of (between first last s)) ≤ last - (first - 1)
  unfolding text_of between
  text-length first last =
      let c : List ℕ = take (last - (first - 1)) (drop (first - 1) s) in
      omega (arith, length-take (text_end c) c, length-take (last - (first - 1)) (drop (first - 1) s))

  paired-length : (a b : List ℕ) → (not (is_none a) ≡ true → length a ≡ 1) → (not (is_none b) ≡ true → length b ≡ 1)
      → not (is_none (paired a b)) ≡ true → length (paired a b) ≡ 2
  unfolding paired is_none
  paired-length [] b f g e = absurd (false≢true e)
  paired-length (x ∷ a) [] f g e = absurd (false≢true e)
  paired-length (x ∷ a) (y ∷ b) f g e = both_one a (f refl) (g refl)
    where
      both_one : (l : List ℕ) → length (x ∷ l) ≡ 1 → length (y ∷ b) ≡ 1 → length ((x ∷ l) ++ (y ∷ b)) ≡ 2
      both_one [] p q = omega arith
      both_one (z ∷ l) p q = absurd (omega arith)

  source_fits : (class : ℕ) (x : Source) → suits class x ≡ true → not (is_none (key_in x s)) ≡ true
      → length_fits class (length (key_in x s)) ≡ true
  unfolding key_in is_none
  source_fits class digit e h = one_fits class 1 e refl
  source_fits class (whole first last) e h = one_fits class (length (whole_in first last s)) e (whole_length first last h)
  source_fits class (serial first last) e h =
      let w = (both (eqb class 4) (leb (last - (first - 1)) 8)).0 e in
      text-fits class (length (text_of (between first last s))) w.0 (some-length (text_of (between first last s)) h)
      (omega (arith, text-length first last, leb-true (last - (first - 1)) 8 w.1))
  source_fits class (waypoint first last) e h = two_fits class (length (paired (whole_in 7 7 s) (whole_in first last s))) e
      (paired-length (whole_in 7 7 s) (whole_in first last s) (whole_length 7 7) (whole_length first last) h)
  source_fits class only e h = one_fits class 1 e refl
  source_fits class (allotted first last least most) e h = one_fits class (length (in_part least most (whole_in first last s))) e
      (part_length least most (whole_in first last s) (whole_length first last) h)
  source_fits class nothing e h = absurd (false≢true h)

  given : (x : Source) → not (is_none (key_in x s)) ≡ true → gives x ≡ true
  unfolding key_in is_none
  given digit e = refl
  given (whole first last) e = refl
  given (serial first last) e = refl
  given (waypoint first last) e = refl
  given only e = refl
  given (allotted first last least most) e = refl
  given nothing e = absurd (false≢true e)

  -- a key that a column defines or refers to is one of its class
  pub key_fits : (r : Role) (column : ℕ) → holds_key r s column ≡ true
      → fits_class (class_at r s column) (length (key_at r s column)) ≡ true
  unfolding holds_key class_at key_at fits_class line_for
  key_fits r column h =
      let t : Tie = line_in ties r (layout_of s) column in
      let o = line_suited ties table_suited r (layout_of s) column (given t.source h) in
      let w = (both (leb 1 t.class && leb t.class 10) (suits t.class t.source)).0 o in
      (both (leb 1 t.class && leb t.class 10) (length_fits t.class (length (key_in t.source s)))
      ).1 (w.0, source_fits t.class t.source w.1 h)

fits_told : (s : List ℕ) (class : ℕ) (key : List ℕ) (column : ℕ) → defines_key s class key column ≡ true
    → fits_class class (length key) ≡ true
unfolding defines_key
fits_told s class key column q =
    let w = (both (holds_key defines s column) _).0 q in
    let v = (both (eqb (class_at defines s column) class) (alike (key_at defines s column) key)).0 w.1 in
    let a : class_at defines s column ≡ class = eqb-true (class_at defines s column) class v.0 in
    let b : key_at defines s column ≡ key = alike_equal (key_at defines s column) key v.1 in
    rw (← a, ← b) (key_fits s defines column w.0)

-- an offered key that is none of its class has no definition
pub no_such_key : (h : List ℕ) (class : ℕ) (key : List ℕ) → fits_class class (length key) ≡ false → definitions_of h class key ≡ 0
no_such_key h class key e = (none_exactly h class key).1 (λ card column d. apart (card_at h (card - 1)) column d.defines_it)
  where
    apart : (s : List ℕ) (column : ℕ) → defines_key s class key column ≡ true → ⊥
    apart s column q = true≢false (sym (fits_told s class key column q) ∙ e)
