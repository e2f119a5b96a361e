-- The walk over the columns of a card that can carry a tie finds what all columns have.
use Prim.Native.Nat.{ℕ, ◌+◌, ◌-◌, ◌≤◌}
use native.Mathlib.Decide.{ℕ_discrete}
use native.Mathlib.Omega.{arith}
use mathlib.Core.Path.{◌≡◌, refl, sym, ap, ap₂, ◌∙◌}
use mathlib.Core.Bool.{Bool, true, false, true≢false, ◌&&◌}
use mathlib.Core.List.{List}
use lib.Dec.{eqb, ltb}
use lib.ListN.{get_or}
use Rattle.base_lists.specs.Count.{bit, count}
use Rattle.base_lists.proofs.Counting.{count_more}
use Rattle.header_check.specs.forms.Cards.{layout_of}
use Rattle.tie_rules.specs.packed.Numbers.{packed}
use Rattle.tie_rules.proofs.packing.Steps.{none-packed}
use Rattle.tie_rules.specs.Ties.{defines}
use Rattle.tie_rules.specs.packed.Rows.{tie_row, column_in, definition_in, found_in, packed_by}
use Rattle.tie_rules.proofs.keys.Table.{definition_found, row_is, column_low, column-is}
use Rattle.tie_rules.specs.Ties.{can_tie, tie_columns}
use Rattle.tie_rules.proofs.columns.Tied.{idle}
use Rattle.tie_rules.proofs.columns.Slots.{slot_on_card}
use Rattle.tie_rules.proofs.key_laws.Told.{packed_at}
use Rattle.tie_rules.proofs.columns.Tied.{none_at_zero}
use Rattle.tie_check.proofs.gather.Slots.{by_slots}
use Rattle.tie_lookup.specs.packed.Borne.{bears, bears_by, only_of, found_of, only_with, found_on}
use Rattle.tie_lookup.proofs.search.OnlyOne.{with_none, with_one, with_several, only-is, only-not}

module _ (s : List ℕ) (number : ℕ) where
  -- a column that cannot carry a tie defines nothing
  idle_bears : (column : ℕ) → can_tie (layout_of s) column ≡ false → bears s number column ≡ false
  unfolding bears
  idle_bears column e =
      let i = idle s column e in
      let z : packed_by defines (layout_of s) s column ≡ 0 =
      packed_at defines s column ∙ ap₂ packed (i.class defines) (i.key defines) ∙ none-packed 0 in
      rw z

  -- the column of a slot
  abbrev column_at : ℕ → ℕ
  column_at slot = get_or (tie_columns (layout_of s)) slot 0

  -- by its row
  pub bears-row : (slot layout row : ℕ) (t : Bool) → layout ≡ layout_of s → row ≡ tie_row layout (slot + 1) → t ≡ bears_by s number row
      → t ≡ bears s number (column_at slot)
  unfolding bears bears_by
  bears-row slot layout row t is found e =
      let there = found ∙ ap (λ k. tie_row k (slot + 1)) is in
      let low = column_low (layout_of s) slot row there in
      let same = ap (λ r. found_in (definition_in r) s) (row_is (layout_of s) slot row there)
      ∙ definition_found (layout_of s) (column_at slot) low s in
      e ∙ ap (λ n. ltb 0 n && eqb n number) same

  pub column_at_lem : (slot layout row column : ℕ) → layout ≡ layout_of s → row ≡ tie_row layout (slot + 1) → column ≡ column_in row
      → column ≡ column_at slot
  column_at_lem slot layout row column is found e = e ∙ column-is (layout_of s) slot row (found ∙ ap (λ k. tie_row k (slot + 1)) is)

  -- how many of the first slots define the key
  unfoldable pub times_to : ℕ → ℕ
  times_to slot = count (λ i. bears s number (column_at i)) slot

  pub no_times : 0 ≡ times_to 0
  unfolding times_to count
  no_times = refl

  pub times_more : (slot found more : ℕ) (t : Bool) → found ≡ times_to slot → t ≡ bears s number (column_at slot) → more ≡ bit t
      → found + more ≡ times_to (slot + 1)
  unfolding times_to
  times_more slot found more t f b q =
      let m = count_more (λ i. bears s number (column_at i)) slot in
      omega (arith, m, f, q, ap bit b)

  all_times : (slot found : ℕ) → slot ≡ 5 → found ≡ times_to slot → found ≡ count (λ i. bears s number (i + 1)) 80
  unfolding times_to
  all_times slot found e f =
      f ∙ ap (count (λ i. bears s number (column_at i))) e ∙ sym (by_slots (layout_of s) (bears s number) idle_bears)

  -- what is known of the only column when so many are found
  pub record Held (found only : ℕ) : Type 0 where
    pub low : only ≤ 80
    pub one : found ≡ 1 → bears s number only ≡ true
    pub other : (found ≡ 1 → ⊥) → only ≡ 0

  pub held_first : Held 0 0
  held_first = record { low = omega arith; one = λ e. absurd (omega arith); other = λ e. refl }

  -- one slot more
  pub held_more : (slot column found only more r : ℕ) (t : Bool) → column ≡ column_at slot → t ≡ bears s number (column_at slot)
      → more ≡ bit t → r ≡ only_with found only more column → Held found only → Held (found + more) r
  held_more slot column found only more r true is bore m e held = elim (ℕ_discrete found 0) [
    | yes z ↦
        let q : r ≡ column = e ∙ with_one found only more column z m in
        record {
          low = omega (arith, is, slot_on_card (layout_of s) slot);
          one = λ o. ap (bears s number) (q ∙ is) ∙ sym bore;
          other = λ o. absurd (o (omega arith));
        }
    | no z ↦
        let q : r ≡ 0 = e ∙ with_several found only more column (λ n. omega arith) (λ n. z (omega arith)) in
        record { low = omega arith; one = λ o. absurd (z (omega arith)); other = λ o. q }
  ]
  held_more slot column found only more r false is bore m e held =
      let q : r ≡ only = e ∙ with_none found only more column m in
      record {
        low = omega (arith, held.low);
        one = λ o. ap (bears s number) q ∙ held.one (omega arith);
        other = λ o. q ∙ held.other (λ n. o (omega arith));
      }

  -- all slots
  pub all_found : (slot found only : ℕ) → slot ≡ 5 → found ≡ times_to slot → Held found only
      → (record { number = found; only = only } ≡ found_on s number)
  unfolding found_on found_of
  all_found slot found only e f held =
      rw (sym n, sym o)
    where
      p : ℕ → Bool
      p i = bears s number (i + 1)

      n : found ≡ count p 80
      n = all_times slot found e f

      some : bears s number only ≡ true → only ≡ 0 → ⊥
      some b z = true≢false (sym b ∙ ap (bears s number) z ∙ idle_bears 0 (none_at_zero (layout_of s)))

      o : only ≡ only_of p 80
      o = elim (ℕ_discrete found 1) [
        | yes q ↦
            let b = held.one q in
            let c : 1 ≤ only = elim (ℕ_discrete only 0) [ yes z ↦ absurd (some b z) | no z ↦ omega arith ] in
            let back : only - 1 + 1 ≡ only = omega arith in
            sym (only-is p 80 (only - 1) (sym n ∙ q) (omega (arith, held.low)) (ap (bears s number) back ∙ b) ∙ back)
        | no q ↦ held.other q ∙ sym (only-not p 80 (λ z. q (n ∙ z)))
      ]
