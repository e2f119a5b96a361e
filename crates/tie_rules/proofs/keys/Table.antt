-- The rows of the table of ties tell what stands in it.
use Prim.Native.Nat.{ℕ, ◌+◌, ◌-◌, ◌/◌, ◌%◌, ◌≤◌, ◌<◌}
use native.Mathlib.Omega.{arith}
use native.Mathlib.Numerals.{add-one}
use mathlib.Core.Path.{◌≡◌, refl, sym, ap, ap₂, ◌∙◌}
use mathlib.Core.List.{List, [], ◌∷◌, map}
use mathlib.Core.Bool.{Bool, true, false, cond, ◌&&◌}
use lib.Dec.{eqb, ltb}
use lib.ListN.{get_or, get_or-map}
use borrow.Author.Tests.{eqb-true, ltb-true}
use Rattle.base_digits.proofs.digits.Bools.{and_left, and_right}
use Rattle.base_lists.specs.Count.{bit, first_from, first as place}
use Rattle.header_check.specs.forms.Cards.{layout_of}
use Rattle.tie_rules.specs.Ties.{
  Source,
  digit,
  whole,
  serial,
  waypoint,
  only,
  allotted,
  nothing,
  Role,
  defines,
  refers,
  Tie,
  no_tie,
  ties,
  line_in,
  line_for,
  same_role,
  states_own,
  states_count,
  has_vessel,
  about,
  can_tie,
  tie_columns,
}
use Rattle.tie_rules.specs.Keys.{key_in, key_at}
use Rattle.tie_rules.specs.Offered.{text_class, pair_class, is_whole}
use Rattle.tie_rules.specs.packed.Numbers.{packed}
use Rattle.tie_rules.specs.packed.Rows.{
  parts,
  part_at,
  how_of,
  coded,
  code_of,
  line_of,
  class_in,
  source_by,
  source_in,
  stated_by,
  row_at,
  tie_row,
  column_in,
  definition_in,
  reference_in,
  own_in,
  counted_in,
  only_defines,
  found_by,
  found_in,
  packed_by,
}
use Rattle.tie_rules.proofs.packing.Steps.{none-packed, offered_whole}
use Rattle.tie_rules.proofs.columns.Tied.{every, none_at_zero, no_line_in, or_left, or_right}
use Rattle.tie_rules.proofs.columns.Slots.{slot_on_card}
use Rattle.tie_rules.proofs.columns.Picked.{by_part}
use Rattle.tie_rules.proofs.columns.Defining.{Defining}

-- a rule of every line of the table, and of none, is one of the line that is found
module _ (f : Tie → Bool) (none : f no_tie ≡ true) (r : Role) (k column : ℕ) where
  rule_in : (ts : List Tie) → every f ts ≡ true → f (line_in ts r k column) ≡ true
  unfolding line_in
  rule_in [] h = none
  rule_in (t ∷ ts) h =
      go (same_role t.role r && (eqb t.layout k && eqb t.column column)) (rule_in ts (and_right (f t) _ h))
    where
      go : (b : Bool) → f (line_in ts r k column) ≡ true → f (cond b t (line_in ts r k column)) ≡ true
      go true q = and_left (f t) _ h
      go false q = q

  pub rule : every f ties ≡ true → f (line_for r k column) ≡ true
  unfolding line_for
  rule h = rule_in ties h

-- a source fits a class: texts and pairs have one each
unfoldable pub of_kind : ℕ → Source → Bool
of_kind class digit = is_whole class
of_kind class (whole first last) = is_whole class
of_kind class (serial first last) = eqb class text_class
of_kind class (waypoint first last) = eqb class pair_class
of_kind class only = is_whole class
of_kind class (allotted first last least most) = is_whole class
of_kind class nothing = true

-- each line's source fits its class
pub line_of_kind : (r : Role) (k column : ℕ) → of_kind (line_for r k column).class (line_for r k column).source ≡ true
unfolding ties of_kind is_whole
line_of_kind r k column = rule (λ t. of_kind t.class t.source) refl r k column refl

-- then the source finds the key of the class
pub found_by_lem : (class : ℕ) (src : Source) (s : List ℕ) → of_kind class src ≡ true → found_by class src s ≡ packed class (key_in src s)
unfolding of_kind found_by key_in
found_by_lem class digit s w = ap (packed class) (offered_whole class w _)
found_by_lem class (whole first last) s w = ap (packed class) (offered_whole class w _)
found_by_lem class (serial first last) s w = rw (eqb-true class text_class w)
found_by_lem class (waypoint first last) s w = rw (eqb-true class pair_class w)
found_by_lem class only s w = ap (packed class) (offered_whole class w _)
found_by_lem class (allotted first last least most) s w = ap (packed class) (offered_whole class w _)
found_by_lem class nothing s w = sym (none-packed class)

-- the columns of a key that a line's number has room for, and the part of a range that it tells
abbrev small : Source → Bool
small digit = true
small (whole first last) = ltb first 256 && ltb last 256
small (serial first last) = ltb first 256 && ltb last 256
small (waypoint first last) = ltb first 256 && ltb last 256
small only = true
small (allotted first last least most) =
    ltb first 256 && ltb last 256 &&
    (ltb (how_of least most) 16 &&
    (eqb (part_at (how_of least most - 6) / 65536) least && eqb (part_at (how_of least most - 6) % 65536) most))
small nothing = true

-- a line's number tells its class and its source
module _ (class : ℕ) where
  class-told : (s : Source) → small s ≡ true → class_in (code_of class s) ≡ class
  unfolding class_in code_of
  class-told digit h = omega arith
  class-told (whole first last) h =
      omega (arith, ltb-true first 256 (and_left _ _ h), ltb-true last 256 (and_right (ltb first 256) _ h))
  class-told (serial first last) h =
      omega (arith, ltb-true first 256 (and_left _ _ h), ltb-true last 256 (and_right (ltb first 256) _ h))
  class-told (waypoint first last) h =
      omega (arith, ltb-true first 256 (and_left _ _ h), ltb-true last 256 (and_right (ltb first 256) _ h))
  class-told only h = omega arith
  class-told (allotted first last least most) h =
      let k = and_left (ltb first 256 && ltb last 256) _ h in
      let j = and_right (ltb first 256 && ltb last 256) _ h in
      omega (
        arith,
        ltb-true first 256 (and_left _ _ k),
        ltb-true last 256 (and_right (ltb first 256) _ k),
        ltb-true (how_of least most) 16 (and_left _ _ j),
      )
  class-told nothing h = omega arith

  by_parts : (how first last : ℕ) → how < 16 → (ltb first 256 && ltb last 256) ≡ true
      → source_in (coded class how first last) ≡ source_by how first last
  unfolding source_in
  by_parts how first last h k =
      let u = ltb-true first 256 (and_left _ _ k) in
      let v = ltb-true last 256 (and_right (ltb first 256) _ k) in
      let n = coded class how first last in
      let a : n / 65536 % 16 ≡ how = omega arith in
      let b : n / 256 % 256 ≡ first = omega arith in
      let d : n % 256 ≡ last = omega arith in
      rw (a, b, d)

  from_six : (least most : ℕ) → 6 ≤ how_of least most
  unfolding how_of
  from_six least most = omega arith

  source_told : (s : Source) → small s ≡ true → source_in (code_of class s) ≡ s
  unfolding code_of source_by
  source_told digit h = by_parts 1 0 0 (omega arith) refl
  source_told (whole first last) h = by_parts 2 first last (omega arith) h
  source_told (serial first last) h = by_parts 3 first last (omega arith) h
  source_told (waypoint first last) h = by_parts 4 first last (omega arith) h
  source_told only h = by_parts 5 0 0 (omega arith) refl
  source_told (allotted first last least most) h =
      let how = how_of least most in
      let k = and_left (ltb first 256 && ltb last 256) _ h in
      let j = and_right (ltb first 256 && ltb last 256) _ h in
      let b = and_right (ltb how 16) _ j in
      by_parts how first last (ltb-true how 16 (and_left _ _ j)) k
      ∙ by_part how first last (from_six least most)
      ∙ ap₂ (allotted first last) (eqb-true _ least (and_left _ _ b)) (eqb-true _ most (and_right (eqb (part_at (how - 6) / 65536) least) _ b))
  source_told nothing h = by_parts 0 0 0 (omega arith) refl

-- a line that is all zeros finds nothing
no_source : (class : ℕ) (s : Source) → code_of class s ≡ 0 → s ≡ nothing
unfolding code_of how_of
no_source class digit e = absurd (omega arith)
no_source class (whole first last) e = absurd (omega arith)
no_source class (serial first last) e = absurd (omega arith)
no_source class (waypoint first last) e = absurd (omega arith)
no_source class only e = absurd (omega arith)
no_source class (allotted first last least most) e = absurd (omega arith)
no_source class nothing e = refl

module _ (r : Role) (k column : ℕ) where
  abbrev line : Tie
  line = line_for r k column

  line_small : (ltb (line_of line) 16777216 && small line.source) ≡ true
  unfolding ties line_of code_of parts part_at how_of place first_from
  line_small = rule (λ t. ltb (line_of t) 16777216 && small t.source) refl r k column refl

  pub line_below : line_of line < 16777216
  line_below = ltb-true (line_of line) 16777216 (and_left _ _ line_small)

  -- the line finds the key
  pub line_finds : (s : List ℕ) → found_in (line_of line) s ≡ packed_by r k s column
  unfolding found_in line_of packed_by
  line_finds s =
      let w = and_right (ltb (line_of line) 16777216) _ line_small in
      rw (class-told line.class line.source w, source_told line.class line.source w)
      (found_by_lem line.class line.source s (line_of_kind r k column))

bit_one : (b : Bool) → eqb (bit b) 1 ≡ b
bit_one true = refl
bit_one false = refl

bit-small : (b : Bool) → bit b < 2
bit-small true = omega arith
bit-small false = omega arith

-- the parts of a row
module _ (k column : ℕ) (low : column < 256) where
  abbrev d : ℕ
  d = line_of (line_for defines k column)

  abbrev r : ℕ
  r = line_of (line_for refers k column)

  pub column-told : column_in (row_at k column) ≡ column
  unfolding column_in row_at
  column-told = omega arith

  definition_told : definition_in (row_at k column) ≡ d
  unfolding definition_in row_at
  definition_told = omega (arith, line_below defines k column)

  reference_told : reference_in (row_at k column) ≡ r
  unfolding reference_in row_at
  reference_told = omega (arith, line_below defines k column, line_below refers k column)

  pub own_told : own_in (row_at k column) ≡ states_own k column
  unfolding own_in row_at stated_by
  own_told =
      let a : row_at k column / 72057594037927936 % 2 ≡ bit (states_own k column) =
      omega (
        arith,
        line_below defines k column,
        line_below refers k column,
        bit-small (states_own k column),
        bit-small (states_count k column),
      ) in
      ap (λ n. eqb n 1) a ∙ bit_one (states_own k column)

  pub count-told : counted_in (row_at k column) ≡ states_count k column
  unfolding counted_in row_at stated_by
  count-told =
      let a : row_at k column / 144115188075855872 % 2 ≡ bit (states_count k column) =
      omega (
        arith,
        line_below defines k column,
        line_below refers k column,
        bit-small (states_own k column),
        bit-small (states_count k column),
      ) in
      ap (λ n. eqb n 1) a ∙ bit_one (states_count k column)

  pub definition_found : (s : List ℕ) → found_in (definition_in (row_at k column)) s ≡ packed_by defines k s column
  definition_found s = ap (λ l. found_in l s) definition_told ∙ line_finds defines k column s

  pub reference_found : (s : List ℕ) → found_in (reference_in (row_at k column)) s ≡ packed_by refers k s column
  reference_found s = ap (λ l. found_in l s) reference_told ∙ line_finds refers k column s

  -- a row without a reference, and without anything stated
  pub only_defining : (s : List ℕ) → k ≡ layout_of s → only_defines (row_at k column) ≡ true → Defining s column
  unfolding only_defines row_at stated_by key_at key_in line_of
  only_defining s is h =
      let small = ltb-true (row_at k column) 4294967296 h in
      let none : code_of (line_for refers k column).class (line_for refers k column).source ≡ 0 = omega (arith, small) in
      let own : bit (states_own k column) ≡ 0 = omega (arith, small) in
      let count : bit (states_count k column) ≡ 0 = omega (arith, small) in
      record {
        key = rw (← is, no_source (line_for refers k column).class (line_for refers k column).source none);
        count = ap (λ j. states_count j column) (sym is) ∙ nought (states_count k column) count;
        own = ap (λ j. states_own j column) (sym is) ∙ nought (states_own k column) own;
      }
    where
      nought : (b : Bool) → bit b ≡ 0 → b ≡ false
      nought true e = absurd (omega arith)
      nought false e = refl

-- there is no row of a column 0
row_of_none : (k : ℕ) → row_at k 0 ≡ 0
unfolding row_at stated_by line_for line_of code_of can_tie
row_of_none k =
    let none = none_at_zero k in
    let stated = or_right (about ties k 0) _ none in
    rw (
      no_line_in ties refers k 0 (or_left _ _ none),
      no_line_in ties defines k 0 (or_left _ _ none),
      or_left (states_count k 0) _ stated,
      or_right (states_count k 0) _ stated,
    )

-- the rows of a layout, slot by slot
module _ (k slot row : ℕ) (is : row ≡ tie_row k (slot + 1)) where
  abbrev at : ℕ
  at = get_or (tie_columns k) slot 0

  pub row_is : row ≡ row_at k at
  unfolding tie_row
  row_is =
      is
      ∙ ap (λ n. get_or (bit (has_vessel k) ∷ map (row_at k) (tie_columns k)) n 0) (add-one slot)
      ∙ ap (get_or (map (row_at k) (tie_columns k)) slot) (sym (row_of_none k))
      ∙ get_or-map (row_at k) (tie_columns k) slot 0

  pub column_low : at < 256
  column_low = omega (arith, slot_on_card k slot)

  pub column-is : column_in row ≡ at
  column-is = ap column_in row_is ∙ column-told k at column_low

  pub no_row : row ≡ 0 → at ≡ 0
  unfolding column_in
  no_row z = sym column-is ∙ ap column_in z

  pub some-row : (row ≡ 0 → ⊥) → at ≡ 0 → ⊥
  some-row z e = z (row_is ∙ ap (row_at k) e ∙ row_of_none k)

-- the row that tells whether a code has a vessel digit
pub vessel_told_lem : (k row : ℕ) → row ≡ tie_row k 0 → eqb row 1 ≡ has_vessel k
unfolding tie_row
vessel_told_lem k row is = ap (λ n. eqb n 1) is ∙ bit_one (has_vessel k)
