-- Kind 5 by the counts that were gathered.
use Prim.Native.Nat.{ℕ, zero, suc, ◌-◌, ◌≤◌, ◌<◌}
use native.Mathlib.Omega.{arith}
use mathlib.Core.Path.{◌≡◌, refl, sym, ap, subst, ◌∙◌}
use mathlib.Core.Bool.{Bool, true, false, cond, ◌&&◌, ◌||◌, not}
use mathlib.Core.List.{List, [], ◌∷◌}
use lib.Dec.{eqb}
use lib.ListN.{length, get_or, take, get_or-eq_default}
use borrow.Author.Tests.{ne_eqb, eqb-true}
use Rattle.base_lists.specs.Parts.{alike}
use Rattle.base_lists.proofs.Counting.{count_none}
use Rattle.value_text.specs.text.Texts.{printable}
use Rattle.header_check.specs.forms.Cards.{card_at, cards_in, layout_of}
use Rattle.header_check.specs.Refusing.{largest}
use Rattle.tie_rules.specs.Ties.{defines}
use Rattle.tie_rules.specs.Keys.{is_none, whole_in, class_at, key_at, holds_key}
use Rattle.tie_rules.specs.Ties.{states_count}
use Rattle.tie_rules.specs.packed.Rows.{column_in, counted_in, marked, unmarked}
use Rattle.tie_rules.proofs.keys.Steps.{mark_tells}
use Rattle.tie_rules.proofs.key_laws.Found.{Small, small_in}
use Rattle.tie_rules.specs.packed.Numbers.{vessel_in}
use Rattle.tie_store.specs.Store.{count_in}
use Rattle.tie_check.specs.declared.totals.Totals.{Totals}
use Rattle.tie_check.specs.packed.Totals.{points_to}
use Rattle.tie_check.specs.packed.Gathered.{gathered, entries_passing}
use Rattle.tie_check.specs.packed.Totals.{totals_of}
use Rattle.tie_check.proofs.gather.Growing.{all_pass}
use Rattle.tie_check.proofs.gather.Counting.{waypoints_are}
use Rattle.tie_rules.proofs.packing.Vessels.{below_waypoints}
use Rattle.tie_rules.specs.Definitions.{places, card_of, column_of, waypoint_at, waypoints_of, points_of}
use Rattle.tie_rules.specs.Faults.{differs, miscounted}
use Rattle.tie_check.specs.packed.Asked.{is_waypoint, vessel_count, miscounted_by}
use Rattle.tie_check.proofs.judging.Asked.{waypoints_asked}

-- the number in some columns, by its mark
pub shape : (first last : ℕ) (s : List ℕ) (m : ℕ) → m ≡ marked (whole_in first last s) → whole_in first last s ≡ unmarked m
unfolding whole_in
shape first last s m e = mark_tells _ ∙ ap unmarked (sym e)

-- a count that is stated
pub none-stated : (m found : ℕ) → m ≡ 0 → false ≡ differs (unmarked m) found
unfolding differs is_none
none-stated m found e = rw e

pub one_stated : (m found : ℕ) → (m ≡ 0 → ⊥) → not (eqb (m - 1) found) ≡ differs (unmarked m) found
unfolding differs is_none alike
one_stated zero found z = absurd (z refl)
one_stated (suc n) found z = let e : suc n - 1 ≡ n = omega arith in rw e (go (eqb n found))
  where
    go : (b : Bool) → not b ≡ not (b && true)
    go true = refl
    go false = refl

-- the count of a vessel
module _ (waypoints : List ℕ) (bins : length waypoints ≡ 11) (m : ℕ) where
  pub no_vessel_lem : m ≡ 0 → 0 ≡ vessel_count waypoints (unmarked m)
  unfolding vessel_count
  no_vessel_lem e = rw e

  pub no_bin : (m ≡ 0 → ⊥) → 11 < m → 0 ≡ vessel_count waypoints (unmarked m)
  unfolding vessel_count
  no_bin z l =
      let q : m ≡ suc (m - 1) = omega arith in
      sym (ap (λ j. vessel_count waypoints (unmarked j)) q ∙ get_or-eq_default waypoints 0 {n = m - 1} (omega arith))

  pub a_bin : (m ≡ 0 → ⊥) → get_or waypoints (m - 1) 0 ≡ vessel_count waypoints (unmarked m)
  unfolding vessel_count
  a_bin z = let q : m ≡ suc (m - 1) = omega arith in sym (ap (λ j. vessel_count waypoints (unmarked j)) q)

-- what the code finds
module _ (s : List ℕ) (row : ℕ) (totals : Totals) (b : Bool) (is : b ≡ counted_in row) where
  pub of_none : b ≡ false → false ≡ miscounted_by s row totals
  unfolding miscounted_by
  of_none e = rw (← is, e)

  pub of_line : b ≡ true → column_in row ≡ 79 → (v m found : ℕ) (r : Bool)
      → v ≡ marked (whole_in 30 30 s) → found ≡ vessel_count totals.waypoints (unmarked v) → m ≡ marked (whole_in 79 80 s)
      → r ≡ differs (unmarked m) found → r ≡ miscounted_by s row totals
  unfolding miscounted_by
  of_line e at v m found r p f q h =
      rw (← is, e, at, shape 79 80 s m q, shape 30 30 s v p) (h ∙ ap (differs (unmarked m)) f)

  pub of_grid : b ≡ true → (column_in row ≡ 79 → ⊥) → (m : ℕ) (r : Bool) → m ≡ marked (whole_in 16 19 s)
      → r ≡ differs (unmarked m) totals.points → r ≡ miscounted_by s row totals
  unfolding miscounted_by
  of_grid e at m r q h = rw (← is, e, ne_eqb (column_in row) 79 at, shape 16 19 s m q) h

-- a vessel that is not stated has no waypoints
no_waypoints : (h : List ℕ) → waypoints_of h [] ≡ 0
unfolding waypoints_of waypoint_at holds_key is_none alike
no_waypoints h = count_none (waypoint_at h []) (places h) (λ p l. none (key_at defines (card_of h p) (column_of p))
    (eqb (class_at defines (card_of h p) (column_of p)) 7))
  where
    none : (key : List ℕ) (b : Bool) → (not (is_none key) && (b && alike (take 1 key) [])) ≡ false
    none [] b = refl
    none (x ∷ key) true = refl
    none (x ∷ key) false = refl

module _ (h : List ℕ) (few : cards_in h ≤ largest) (printed : (c : ℕ) → c < cards_in h → printable (card_at h c) ≡ true) where
  of_vessel_lem : (m : ℕ) → Small 10 (unmarked m) → waypoints_of h (unmarked m) ≡ vessel_count (totals_of h).waypoints (unmarked m)
  unfolding vessel_count totals_of entries_passing
  of_vessel_lem zero l = no_waypoints h
  of_vessel_lem (suc d) l =
      waypoints_asked h printed d l
      ∙ sym (all_pass h few (is_waypoint d) (λ tag. ne_eqb (vessel_in 0) d (λ q. omega (arith, below_waypoints 0 (omega arith)))))
      ∙ sym (waypoints_are (gathered h).keys (count_in (gathered h).links) d (omega arith))

  vessel_counted : (s : List ℕ) → waypoints_of h (whole_in 30 30 s) ≡ vessel_count (totals_of h).waypoints (whole_in 30 30 s)
  vessel_counted s =
      let m = marked (whole_in 30 30 s) in
      let e = shape 30 30 s m refl in
      let l : Small 10 (unmarked m) = subst (λ (k : List ℕ). Small 10 k) e (small_in 30 30 1 s (omega arith)) in
      ap (waypoints_of h) e ∙ of_vessel_lem m l ∙ ap (vessel_count (totals_of h).waypoints) (sym e)

  pub miscounted_by_lem : (s : List ℕ) (column row : ℕ) → counted_in row ≡ states_count (layout_of s) column → column_in row ≡ column
      → miscounted_by s row (totals_of h) ≡ miscounted h s column
  unfolding miscounted miscounted_by states_count points_of totals_of points_to
  miscounted_by_lem s column row counts at =
      rw (counts, at, vessel_counted s) (go (eqb (layout_of s) 8) (eqb column 79) refl (eqb (layout_of s) 12) (eqb column 16) refl _ _)
    where
      go : (a b : Bool) → eqb column 79 ≡ b → (c d : Bool) → eqb column 16 ≡ d → (x y : Bool)
          → cond ((a && b) || (c && d)) (cond b x y) false ≡ cond (a && b) x (c && d && y)
      go true true p c d q x y = refl
      go true false p true true q x y = refl
      go true false p true false q x y = refl
      go true false p false d q x y = refl
      go false true p true true q x y =
          absurd (omega (arith, eqb-true column 79 p, eqb-true column 16 q))
      go false true p true false q x y = refl
      go false true p false d q x y = refl
      go false false p true true q x y = refl
      go false false p true false q x y = refl
      go false false p false d q x y = refl
