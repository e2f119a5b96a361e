-- Where a fault can stand: in columns that have a line in the table, that state a vessel or a count, or where a number begins.
use Prim.Native.Nat.{ℕ, suc, ◌+◌, ◌≤◌}
use native.Mathlib.Omega.{arith}
use mathlib.Core.Path.{◌≡◌, refl}
use mathlib.Core.Logic.{◌⊎◌, inl, inr, ⊎_elim}
use mathlib.Core.Bool.{Bool, true, false, cond, ◌&&◌, ◌||◌, not, false≢true}
use mathlib.Core.List.{List, [], ◌∷◌}
use lib.Dec.{T, eqb, leb}
use lib.ListN.{length}
use borrow.Author.Tests.{eqb-true, leb-true}
use Rattle.value_field.specs.spelling.Reading.{pushed_left, is_number, misplaced_in}
use Rattle.format_layout.specs.declared.Field.{Field}
use Rattle.format_layout.specs.declared.Form.TheVariants.{Angles}
use Rattle.format_layout.specs.Layouts.{fields_of, label_of}
use Rattle.format_layout.proofs.Columns.{is_in_order, front, rest}
use Rattle.card_field.specs.needing.Needs.{columns_of}
use Rattle.card_field.specs.judging.Fields.{spelling_of, misplaced_on}
use Rattle.card_check.proofs.Walked.{in_order}
use Rattle.header_check.specs.forms.Cards.{card_at, layout_of}
use Rattle.tie_rules.specs.Ties.{Source, digit, whole, serial, waypoint, only, allotted, nothing, Role, defines, refers, same_role, Tie, ties, is_for, line_in, line_for, states_own, states_count}
use Rattle.format_layout.specs.Names.{H00X8, H0100}
use Rattle.tie_rules.specs.Keys.{is_none, key_in, key_at, holds_key}
use Rattle.tie_rules.specs.Faults.{undefined, redefined, ambiguous, contradicted, miscounted, misplaced_among, misplaced, kinds, broken_on, broken}
use Rattle.tie_laws.proofs.Tests.{both, either}

-- a source that gives a key at all
abbrev pub gives : Source → Bool
gives digit = true
gives (whole first last) = true
gives (serial first last) = true
gives (waypoint first last) = true
gives only = true
gives (allotted first last least most) = true
gives nothing = false

-- the table has a line for a role of a column of a layout
unfoldable pub has_line : Role → ℕ → ℕ → Bool
has_line r k column = gives (line_for r k column).source

-- a field that begins in a column holds a whole number or a decimal
unfoldable pub number_among : List Field → ℕ → Bool
number_among [] column = false
number_among (f ∷ fs) column = (eqb f.first column && is_number (spelling_of f.kind Angles)) || number_among fs column

-- where a fault of a kind can stand on a card with a layout
unfoldable pub is_site : ℕ → ℕ → ℕ → Bool
is_site k column kind =
    cond (eqb kind 1) (has_line refers k column)
    (cond (eqb kind 2) (has_line defines k column)
    (cond (eqb kind 3) (has_line refers k column)
    (cond (eqb kind 4) (states_own k column || has_line refers k column)
    (cond (eqb kind 5) (states_count k column) (eqb kind 6 && number_among (fields_of k) column)))))

-- one test passes only where another does
abbrev pub Within : Bool → Bool → Type 0
Within a b = a ≡ true → b ≡ true

within-cond : (t : Bool) {a b x y : Bool} → Within a x → Within b y → Within (cond t a b) (cond t x y)
within-cond true f g = f
within-cond false f g = g

within-and : (a b : Bool) → Within (a && b) a
within-and true b e = refl
within-and false b e = absurd (false≢true e)

within_right : (t : Bool) {a b : Bool} → Within a b → Within (t && a) (t && b)
within_right true f = f
within_right false f = λ e. e

needs_line : (r : Role) (s : List ℕ) (column : ℕ) → Within (holds_key r s column) (has_line r (layout_of s) column)
unfolding holds_key key_at has_line key_in is_none
needs_line r s column e = go (line_for r (layout_of s) column).source e
  where
    go : (x : Source) → not (is_none (key_in x s)) ≡ true → gives x ≡ true
    go digit e = refl
    go (whole first last) e = refl
    go (serial first last) e = refl
    go (waypoint first last) e = refl
    go only e = refl
    go (allotted first last least most) e = refl
    go nothing e = absurd (false≢true e)

module _ (h s : List ℕ) (column : ℕ) where
  at_reference : (b : Bool) → Within (holds_key refers s column && b) (has_line refers (layout_of s) column)
  at_reference b e = needs_line refers s column (within-and (holds_key refers s column) b e)

  at_definition : (b : Bool) → Within (holds_key defines s column && b) (has_line defines (layout_of s) column)
  at_definition b e = needs_line defines s column (within-and (holds_key defines s column) b e)

  at_vessel : Within (contradicted h s column) (states_own (layout_of s) column || has_line refers (layout_of s) column)
  unfolding contradicted
  at_vessel = go (states_own (layout_of s) column) _ _ _ (at_reference _)
    where
      go : (t a b x : Bool) → Within b x → Within (cond t a b) (t || x)
      go true a b x f = λ e. refl
      go false a b x f = f

  at_count : Within (miscounted h s column) (states_count (layout_of s) column)
  unfolding miscounted states_count
  at_count = go (eqb (layout_of s) H00X8 && eqb column 79) (eqb (layout_of s) H0100) (eqb column 16) _ _
    where
      go : (t u v a b : Bool) → Within (cond t a (u && v && b)) (t || (u && v))
      go true u v a b = λ e. refl
      go false true true a b = λ e. refl
      go false true false a b = λ e. e
      go false false true a b = λ e. e
      go false false false a b = λ e. e

  at_number : Within (misplaced s column) (number_among (fields_of (layout_of s)) column)
  unfolding misplaced misplaced_among number_among misplaced_on misplaced_in
  at_number = go (fields_of (layout_of s))
    where
      step : (a x p b c : Bool) → Within b c → Within ((a && (x && p)) || b) ((a && x) || c)
      step true true p b c f = λ e. refl
      step true false p b c f = f
      step false x p b c f = f

      go : (fs : List Field) → Within (misplaced_among fs s column) (number_among fs column)
      go [] = λ e. e
      go (f ∷ fs) =
          step (eqb f.first column) (is_number (spelling_of f.kind Angles)) (pushed_left (columns_of f s))
          (misplaced_among fs s column) (number_among fs column) (go fs)

  -- a fault stands only at a site
  pub at_site : (kind : ℕ) → broken_on h s column kind ≡ true → is_site (layout_of s) column kind ≡ true
  unfolding broken_on is_site undefined redefined ambiguous
  at_site kind = within-cond (eqb kind 1) (at_reference _)
      (within-cond (eqb kind 2) (at_definition _)
      (within-cond (eqb kind 3) (at_reference _)
      (within-cond (eqb kind 4) at_vessel (within-cond (eqb kind 5) at_count (within_right (eqb kind 6) at_number)))))

-- every line of the table is about a column of a card
abbrev in_columns : List Tie → Bool
in_columns [] = true
in_columns (t ∷ ts) = (leb 1 t.column && leb t.column 80) && in_columns ts

table_in_columns : in_columns ties ≡ true
unfolding ties
table_in_columns = refl

-- a column of a card
abbrev pub IsColumn : ℕ → Type 0
IsColumn column = (1 ≤ column) × (column ≤ 80)

-- one of the kinds
abbrev pub IsKind : ℕ → Type 0
IsKind kind = (1 ≤ kind) × (kind ≤ kinds)

line-column : (ts : List Tie) → in_columns ts ≡ true → (r : Role) (k column : ℕ)
    → gives (line_in ts r k column).source ≡ true → IsColumn column
unfolding line_in
line-column [] o r k column e = absurd (false≢true e)
line-column (t ∷ ts) o r k column e = go (is_for r k column t) refl e (λ f. line-column ts w.1 r k column f)
  where
    w : ((leb 1 t.column && leb t.column 80) ≡ true) × (in_columns ts ≡ true)
    w = (both (leb 1 t.column && leb t.column 80) (in_columns ts)).0 o

    go : (b : Bool) → is_for r k column t ≡ b → gives (cond b t (line_in ts r k column)).source ≡ true
        → (gives (line_in ts r k column).source ≡ true → IsColumn column) → IsColumn column
    go true q f ih =
        let x = (both (eqb t.layout k) (eqb t.column column)).0 ((both (same_role t.role r) _).0 q).1 in
        let c : t.column ≡ column = eqb-true t.column column x.1 in
        let y = (both (leb 1 t.column) (leb t.column 80)).0 w.0 in
        (omega (arith, leb-true 1 t.column y.0), omega (arith, leb-true t.column 80 y.1))
    go false q f ih = ih f

has_line-column : (r : Role) (k column : ℕ) → has_line r k column ≡ true → IsColumn column
unfolding has_line line_for
has_line-column r k column e = line-column ties table_in_columns r k column e

states_column : (a b k column i j : ℕ) → ((eqb k a && eqb column i) || (eqb k b && eqb column j)) ≡ true
    → (column ≡ i) ⊎ (column ≡ j)
states_column a b k column i j e = ⊎_elim
    (λ x. inl (eqb-true column i ((both (eqb k a) (eqb column i)).0 x).1))
    (λ x. inr (eqb-true column j ((both (eqb k b) (eqb column j)).0 x).1))
    (either (eqb k a && eqb column i) (eqb k b && eqb column j) e)

own_column : (k column : ℕ) → states_own k column ≡ true → IsColumn column
unfolding states_own
own_column k column e = ⊎_elim (λ x. omega arith) (λ x. omega arith) (states_column 8 9 k column 30 7 e)

count-column : (k column : ℕ) → states_count k column ≡ true → IsColumn column
unfolding states_count
count-column k column e = ⊎_elim (λ x. omega arith) (λ x. omega arith) (states_column 8 12 k column 79 16 e)

number-column : (b : ℕ) (fs : List Field) → T (is_in_order b fs) → 1 ≤ b → (column : ℕ) → number_among fs column ≡ true → IsColumn column
unfolding number_among
number-column b [] t l column e = absurd (false≢true e)
number-column b (f ∷ fs) t l column e =
    let p = front b f fs t in
    ⊎_elim
    (λ x.
    let c : f.first ≡ column = eqb-true f.first column ((both (eqb f.first column) _).0 x).0 in
    (omega (arith, p.after), omega (arith, p.forward, p.on_card)))
    (λ x. number-column (suc f.last) fs (rest b f fs t) (omega arith) column x)
    (either (eqb f.first column && is_number (spelling_of f.kind Angles)) (number_among fs column) e)

chosen : (kind n : ℕ) (a b : Bool) → cond (eqb kind n) a b ≡ true → ((kind ≡ n) × (a ≡ true)) ⊎ (b ≡ true)
chosen kind n a b = go (eqb kind n) refl
  where
    go : (t : Bool) → eqb kind n ≡ t → cond t a b ≡ true → ((kind ≡ n) × (a ≡ true)) ⊎ (b ≡ true)
    go true q e = inl (eqb-true kind n q, e)
    go false q e = inr e

-- a site is in a column of a card, and of one of the kinds
pub site_bounds : (k column kind : ℕ) → is_site k column kind ≡ true → IsColumn column × IsKind kind
unfolding is_site
site_bounds k column kind e = ⊎_elim (λ x. (has_line-column refers k column x.1, (omega arith, omega arith)))
    (λ f. ⊎_elim (λ x. (has_line-column defines k column x.1, (omega arith, omega arith)))
    (λ g. ⊎_elim (λ x. (has_line-column refers k column x.1, (omega arith, omega arith)))
    (λ i. ⊎_elim (λ x. (at_four x.1, (omega arith, omega arith)))
    (λ j. ⊎_elim (λ x. (count-column k column x.1, (omega arith, omega arith))) at_six (chosen kind 5 _ _ j))
    (chosen kind 4 _ _ i)) (chosen kind 3 _ _ g))
    (chosen kind 2 _ _ f))
    (chosen kind 1 _ _ e)
  where
    at_four : (states_own k column || has_line refers k column) ≡ true → IsColumn column
    at_four x =
        ⊎_elim (own_column k column) (has_line-column refers k column) (either (states_own k column) (has_line refers k column) x)

    at_six : (eqb kind 6 && number_among (fields_of k) column) ≡ true → IsColumn column × IsKind kind
    at_six x =
        let w = (both (eqb kind 6) (number_among (fields_of k) column)).0 x in
        let q : kind ≡ 6 = eqb-true kind 6 w.0 in
        (number-column (6 + length (label_of k)) (fields_of k) (in_order k) (omega arith) column w.1, (omega arith, omega arith))

-- so is a fault
pub broken_bounds : (h : List ℕ) (c column kind : ℕ) → broken h c column kind ≡ true → IsColumn column × IsKind kind
unfolding broken
broken_bounds h c column kind e = site_bounds (layout_of (card_at h c)) column kind (at_site h (card_at h c) column kind e)
