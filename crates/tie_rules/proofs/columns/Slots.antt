-- A walk over the columns of a layout by their slots: it goes up, it ends, and it leaves out nothing.
use Prim.Native.Nat.{ℕ, zero, suc, ◌≤◌, ◌<◌}
use native.Mathlib.Nat.{le_of_suc-le-suc}
use native.Mathlib.Decide.{dec_lt}
use native.Mathlib.Omega.{arith}
use mathlib.Core.Path.{◌≡◌, refl}
use mathlib.Core.Bool.{Bool, true, false, ◌&&◌}
use mathlib.Core.List.{List, [], ◌∷◌}
use lib.Dec.{leb}
use lib.ListN.{length, get_or, get_or-eq_default}
use borrow.Author.Tests.{leb-true}
use Rattle.base_digits.proofs.digits.Bools.{and_left, and_right}
use Rattle.base_lists.specs.Parts.{kept, up_to}
use Rattle.base_lists.proofs.Rising.{rising_order}
use Rattle.tie_rules.specs.Ties.{ties}
use Rattle.tie_rules.specs.Ties.{about, states_count, states_own, can_tie, tie_columns}
use Rattle.tie_rules.proofs.columns.Tied.{of_columns, at_most_five, columns_rise, passed, between_slots}

-- every column is on the card
abbrev on_card : List ℕ → Bool
on_card [] = true
on_card (c ∷ l) = leb 1 c && leb c 80 && on_card l

columns_on_card : (k : ℕ) → on_card (tie_columns k) ≡ true
unfolding tie_columns kept up_to can_tie about ties states_count states_own
columns_on_card k = of_columns on_card refl refl k

on_card_at : (l : List ℕ) → on_card l ≡ true → (i : ℕ) → i < length l → (1 ≤ get_or l i 0) × (get_or l i 0 ≤ 80)
on_card_at [] h i m = absurd (omega arith)
on_card_at (c ∷ l) h zero m =
    let both = and_left (leb 1 c && leb c 80) (on_card l) h in
    (leb-true 1 c (and_left (leb 1 c) (leb c 80) both), leb-true c 80 (and_right (leb 1 c) (leb c 80) both))
on_card_at (c ∷ l) h (suc i) m = on_card_at l (and_right (leb 1 c && leb c 80) (on_card l) h) i (le_of_suc-le-suc m)

same_inside : (l : List ℕ) (i : ℕ) → i < length l → get_or l i 81 ≡ get_or l i 0
same_inside [] i m = absurd (omega arith)
same_inside (c ∷ l) zero m = refl
same_inside (c ∷ l) (suc i) m = same_inside l i (le_of_suc-le-suc m)

module _ (k slot : ℕ) where
  -- the column of a slot, 0 behind the last
  abbrev column : ℕ
  column = get_or (tie_columns k) slot 0

  there : (column ≡ 0 → ⊥) → slot < length (tie_columns k)
  there some = elim (dec_lt slot (length (tie_columns k))) [
    | yes l ↦ l
    | no l ↦ absurd (some (get_or-eq_default (tie_columns k) 0 {n = slot} (omega arith)))
  ]

  -- it is on the card
  pub slot_on_card : column ≤ 80
  slot_on_card = elim (dec_lt slot (length (tie_columns k))) [
    | yes l ↦ (on_card_at (tie_columns k) (columns_on_card k) slot l).1
    | no l ↦ omega (arith, get_or-eq_default (tie_columns k) 0 {n = slot} (omega arith))
  ]

  -- behind five slots there is none
  pub slot_fifth : 5 ≤ slot → column ≡ 0
  slot_fifth l = get_or-eq_default (tie_columns k) 0 {n = slot} (omega (arith, at_most_five k))

  -- a slot that is there is behind the one before, and nothing stands between them
  module _ (some : column ≡ 0 → ⊥) where
    pub slot_rises : passed k slot < column
    slot_rises = go slot some (there some)
      where
        go : (i : ℕ) → (get_or (tie_columns k) i 0 ≡ 0 → ⊥) → i < length (tie_columns k) → passed k i < get_or (tie_columns k) i 0
        go zero n l = omega arith
        go (suc i) n l =
            omega (
              arith,
              rising_order (λ (c : ℕ). c) 81 (tie_columns k) 0 (columns_rise k) i (suc i) (omega arith) l,
              same_inside (tie_columns k) (suc i) l,
            )

    pub slot_next : passed k (suc slot) ≡ column
    slot_next = same_inside (tie_columns k) slot (there some)

    pub slot_skips : (x : ℕ) → passed k slot < x → x < column → can_tie k x ≡ false
    slot_skips x l m =
        between_slots k slot x l (omega (arith, same_inside (tie_columns k) slot (there some))) (omega (arith, slot_on_card))

  -- where there is none, nothing stands behind the last
  pub slot_ends : column ≡ 0 → (x : ℕ) → passed k slot < x → x ≤ 80 → can_tie k x ≡ false
  slot_ends e x l m = between_slots k slot x l (omega (arith, past)) (omega arith)
    where
      past : get_or (tie_columns k) slot 81 ≡ 81
      past = elim (dec_lt slot (length (tie_columns k))) [
        | yes i ↦ absurd (omega (arith, (on_card_at (tie_columns k) (columns_on_card k) slot i).0))
        | no i ↦ get_or-eq_default (tie_columns k) 81 {n = slot} (omega arith)
      ]
