-- Layouts that no tie looks at: their cards define nothing, refer to nothing and have no fault.
use Prim.Native.Nat.{ℕ, ◌<◌}
use native.Mathlib.Omega.{arith}
use mathlib.Core.Path.{◌≡◌, refl, sym, ap, ◌∙◌}
use mathlib.Core.Bool.{Bool, true, false, cond, ◌&&◌, ◌||◌}
use mathlib.Core.List.Memᴰ
use mathlib.Core.List.{List, []}
use lib.Dec.{eqb}
use lib.ListN.{length}
use Rattle.base_lists.specs.Parts.{kept, up_to}
use Rattle.format_layout.specs.Table.{layouts}
use Rattle.format_layout.specs.Layouts.{layout_at, fields_of}
use Rattle.format_layout.specs.Names.{H0101}
use Rattle.card_field.specs.judging.Fields.{spelling_of}
use Rattle.header_check.specs.forms.Cards.{layout_of, unread}
use Rattle.tie_rules.specs.Ties.{Role, Tie, defines, refers, ties, line_for, about, states_count, states_own, can_tie, tie_columns}
use Rattle.tie_rules.specs.Keys.{is_none, holds_key}
use Rattle.tie_rules.specs.Faults.{broken_on}
use Rattle.tie_rules.proofs.columns.Tied.{idle, not_among, no_line_in, or_left, or_right}
use Rattle.tie_laws.proofs.Sites.{gives, has_line, number_among, is_site, at_site, site_bounds}

-- no column of a layout can carry a tie, and no field of it holds a number
pub record Untied (k : ℕ) : Type 0 where
  pub no_columns : tie_columns k ≡ []
  pub no_numbers : (column : ℕ) → number_among (fields_of k) column ≡ false

module _ (k : ℕ) (u : Untied k) where
  no_tie_lem : (column : ℕ) → column < 81 → can_tie k column ≡ false
  no_tie_lem column l = not_among k column l (λ x. Memᴰ.not-nil (rw u.no_columns at x))

  -- it is not that of the points of the variation grid
  pub no_point : k ≡ H0101 → ⊥
  unfolding tie_columns kept up_to can_tie about ties states_count states_own
  no_point e =
      let some : length (tie_columns H0101) ≡ 1 = refl in
      let none : length (tie_columns H0101) ≡ 0 = ap (λ j. length (tie_columns j)) (sym e) ∙ ap length u.no_columns in
      omega arith

  no_line : (r : Role) (column : ℕ) → column < 81 → has_line r k column ≡ false
  unfolding has_line line_for can_tie
  no_line r column l = ap (λ (t : Tie). gives t.source) (no_line_in ties r k column (or_left _ _ (no_tie_lem column l)))

  no_site : (column kind : ℕ) → column < 81 → is_site k column kind ≡ false
  unfolding is_site can_tie
  no_site column kind l =
      let rest = or_right (about ties k column) _ (no_tie_lem column l) in
      let counts : states_count k column ≡ false = or_left _ _ rest in
      let own : states_own k column ≡ false = or_right (states_count k column) _ rest in
      rw (no_line refers column l, no_line defines column l, counts, own, u.no_numbers column)
      (none (eqb kind 1) (none (eqb kind 2) (none (eqb kind 3) (none (eqb kind 4) (none (eqb kind 5) (and_false (eqb kind 6)))))))
    where
      none : (t : Bool) {b : Bool} → b ≡ false → cond t false b ≡ false
      none true e = refl
      none false e = e

      and_false : (t : Bool) → (t && false) ≡ false
      and_false true = refl
      and_false false = refl

module _ (s : List ℕ) (u : Untied (layout_of s)) where
  -- a card of such a layout has no key in any column
  pub no_key : (r : Role) (column : ℕ) → column < 81 → holds_key r s column ≡ false
  unfolding holds_key is_none
  no_key r column l = rw ((idle s column (no_tie_lem (layout_of s) u column l)).key r)

  -- and no fault, whatever the header
  pub never_broken : (h : List ℕ) (column kind : ℕ) → broken_on h s column kind ≡ false
  never_broken h column kind = go (broken_on h s column kind) refl
    where
      go : (b : Bool) → broken_on h s column kind ≡ b → b ≡ false
      go true e =
          let site : is_site (layout_of s) column kind ≡ true = at_site h s column kind e in
          sym site ∙ no_site (layout_of s) u column kind (omega (arith, (site_bounds (layout_of s) column kind site).0.1))
      go false e = refl

-- the layouts of the two comment cards, by their numbers in the table
abbrev pub C0001 : ℕ
C0001 = 10

abbrev pub C0002 : ℕ
C0002 = 11

no_number : (b : Bool) → ((b && false) || false) ≡ false
no_number true = refl
no_number false = refl

-- such are these two and what no layout reads
pub first_comments : Untied C0001
unfolding tie_columns kept up_to can_tie about ties states_count states_own layouts layout_at fields_of number_among spelling_of
first_comments = record { no_columns = refl; no_numbers = λ column. no_number (eqb 6 column) }

pub second_comments : Untied C0002
unfolding tie_columns kept up_to can_tie about ties states_count states_own layouts layout_at fields_of number_among spelling_of
second_comments = record { no_columns = refl; no_numbers = λ column. no_number (eqb 6 column) }

pub passed_over : Untied unread
unfolding tie_columns kept up_to can_tie about ties states_count states_own layouts layout_at fields_of number_among
passed_over = record { no_columns = refl; no_numbers = λ column. refl }
