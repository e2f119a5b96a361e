-- What is asked of the gathered definitions is what the header says, where its cards are printable.
use Prim.Native.Nat.{ℕ, zero, suc, ◌+◌, ◌*◌, ◌-◌, ◌/◌, ◌%◌, ◌≤◌, ◌<◌}
use native.Mathlib.Decide.{dec_lt}
use native.Mathlib.Omega.{arith}
use mathlib.Core.Path.{◌≡◌, refl, sym, ap, ◌∙◌}
use mathlib.Core.Bool.{Bool, true, false, ◌&&◌, not, true≢false}
use mathlib.Core.List.{List, [], ◌∷◌}
use lib.Dec.{eqb, ltb}
use lib.ListN.{take, get_or}
use borrow.Author.Tests.{eq-eqb, ne_eqb, eqb-true, lt-ltb, le-ltb, ltb-true}
use Rattle.base_digits.proofs.digits.Bools.{and_left, and_right, and_both}
use Rattle.base_lists.specs.Parts.{alike}
use Rattle.base_lists.proofs.Counting.{count_same}
use Rattle.base_lists.proofs.Comparing.{alike_equal, equal_alike}
use Rattle.value_text.specs.text.Texts.{printable}
use Rattle.header_check.specs.forms.Cards.{card_at, cards_in, layout_of}
use Rattle.tie_rules.specs.packed.Numbers.{packed, within}
use Rattle.tie_rules.specs.Offered.{borne, pair_fits}
use Rattle.tie_rules.proofs.packing.Told.{borne-packed, packed_tells, some-borne}
use Rattle.tie_rules.specs.Ties.{defines}
use Rattle.tie_rules.specs.Keys.{is_none, class_at, key_at, holds_key}
use Rattle.tie_rules.specs.packed.Rows.{packed_by}
use Rattle.tie_rules.proofs.key_laws.Found.{stands, found_stands}
use Rattle.tie_rules.proofs.key_laws.Told.{some_number, packed_at, defines-packed}
use Rattle.tie_check.specs.packed.Numbers.{tag_for, number_on, number_at, passing}
use Rattle.tie_check.proofs.gather.Tags.{vessel_told_lem}
use Rattle.tie_rules.specs.packed.Numbers.{waypoints_from, vessel_in}
use Rattle.tie_rules.proofs.packing.Vessels.{below_waypoints, past_waypoints, a_waypoint}
use Rattle.tie_check.specs.packed.Asked.{is_number, is_apart, is_waypoint}
use Rattle.tie_rules.specs.Definitions.{places, card_of, column_of, defined_at, definitions_of, contradictions_of, waypoint_at, waypoints_of}

-- a number that is another than 0
positive : (n k : ℕ) → 0 < k → (ltb 0 n && eqb n k) ≡ eqb n k
positive zero k h = sym (ne_eqb 0 k (λ e. omega arith))
positive (suc n) k h = rw (lt-ltb 0 (suc n) (omega arith))

-- the waypoints of a vessel
bool_same : (a b : Bool) → (a ≡ true → b ≡ true) → (b ≡ true → a ≡ true) → a ≡ b
bool_same true b f g = sym (f refl)
bool_same false true f g = g refl
bool_same false false f g = refl

module _ (d : ℕ) (low : d < 10) where
  in_range_lem : (n : ℕ) → vessel_in n ≡ d → (waypoints_from + d * 1000 ≤ n) × (n < waypoints_from + d * 1000 + 1000)
  in_range_lem n e = elim (dec_lt n waypoints_from) [
    | yes l ↦ absurd (omega (arith, below_waypoints n l))
    | no l ↦ elim (dec_lt n (waypoints_from + 10000)) [
      | yes m ↦ let q = a_waypoint n (omega arith) m in (omega arith, omega arith)
      | no m ↦ absurd (omega (arith, past_waypoints n (omega arith) (omega arith)))
    ]
  ]

  pair_number : (b : ℕ) → b < 1000 → packed 7 (d ∷ b ∷ []) ≡ waypoints_from + (d * 1000 + b)
  unfolding borne pair_fits within
  pair_number b l = borne-packed 7 (d ∷ b ∷ []) (rw (lt-ltb d 10 low, lt-ltb b 1000 l))

  number_vessel : (b : ℕ) → b < 1000 → vessel_in (packed 7 (d ∷ b ∷ [])) ≡ d
  number_vessel b l =
      let n = packed 7 (d ∷ b ∷ []) in
      let e = pair_number b l in
      let q = a_waypoint n (omega (arith, e)) (omega (arith, e)) in
      omega (arith, e, q)

  waypoint-to : (class : ℕ) (key : List ℕ) → 0 < packed class key → vessel_in (packed class key) ≡ d
      → (eqb class 7 && alike (take 1 key) (d ∷ [])) ≡ true
  waypoint-to class key z e =
      let r = in_range_lem (packed class key) e in
      let b = packed class key - (waypoints_from + d * 1000) in
      let l : b < 1000 = omega arith in
      let same = packed_tells class key 7 (d ∷ b ∷ []) z (omega (arith, pair_number b l)) in
      and_both (eqb class 7) (alike (take 1 key) (d ∷ [])) (eq-eqb class 7 same.class)
      (equal_alike (take 1 key) (d ∷ []) (ap (take 1) same.key))

  pair_of : (key : List ℕ) → pair_fits key ≡ true → take 1 key ≡ d ∷ [] → vessel_in (packed 7 key) ≡ d
  unfolding pair_fits
  pair_of [] p e = absurd (true≢false (sym p))
  pair_of (a ∷ []) p e = absurd (true≢false (sym p))
  pair_of (a ∷ b ∷ []) p e =
      let q : a ≡ d = ap (λ l. get_or l 0 0) e in
      ap (λ i. vessel_in (packed 7 (i ∷ b ∷ []))) q ∙ number_vessel b (ltb-true b 1000 (and_right (ltb a 10) _ p))
  pair_of (a ∷ b ∷ m ∷ ns) p e = absurd (true≢false (sym p))

  waypoint_of : (class : ℕ) (key : List ℕ) → 0 < packed class key → (eqb class 7 && alike (take 1 key) (d ∷ [])) ≡ true
      → vessel_in (packed class key) ≡ d
  unfolding borne
  waypoint_of class key z e =
      let q : class ≡ 7 = eqb-true class 7 (and_left (eqb class 7) _ e) in
      let f : borne 7 key ≡ true = ap (λ i. borne i key) (sym q) ∙ some-borne class key z in
      ap (λ i. vessel_in (packed i key)) q
      ∙ pair_of key f (alike_equal (take 1 key) (d ∷ []) (and_right (eqb class 7) _ e))

  pub a_vessels : (class : ℕ) (key : List ℕ) → stands class key ≡ true
      → (not (is_none key) && (eqb class 7 && alike (take 1 key) (d ∷ []))) ≡ eqb (vessel_in (packed class key)) d
  a_vessels class key s =
      ap (λ t. t && (eqb class 7 && alike (take 1 key) (d ∷ []))) (some_number class key s)
      ∙ elim (dec_lt 0 (packed class key)) [
        | yes z ↦ rw (lt-ltb 0 (packed class key) z) (bool_same _ _
            (λ e. eq-eqb _ d (waypoint_of class key z e)) (λ e. waypoint-to class key z (eqb-true _ d e)))
        | no z ↦
            let q = below_waypoints (packed class key) (omega arith) in
            rw (le-ltb 0 (packed class key) (omega arith), ne_eqb (vessel_in (packed class key)) d (λ e. omega (arith, q)))
      ]

module _ (h : List ℕ) (printed : (c : ℕ) → c < cards_in h → printable (card_at h c) ≡ true) where
  card_at_lem : (p : ℕ) → p < 80 * cards_in h → printable (card_at h (p / 80)) ≡ true
  card_at_lem p l = printed (p / 80) (omega arith)

  module _ (class : ℕ) (key : List ℕ) (k : ℕ) (is : k ≡ packed class key) (some : 0 < k) where
    defined_number : (p : ℕ) → p < 80 * cards_in h → defined_at h class key p ≡ eqb (number_at h p) k
    unfolding defined_at card_of column_of number_at number_on
    defined_number p l =
        defines-packed (card_at h (p / 80)) (p % 80 + 1) (card_at_lem p l) class key
        ∙ rw (← is) (positive (packed_by defines (layout_of (card_at h (p / 80))) (card_at h (p / 80)) (p % 80 + 1)) k some)

    -- the definitions of a key
    pub definitions_asked : definitions_of h class key ≡ passing (is_number k) h (80 * cards_in h)
    unfolding definitions_of places passing
    definitions_asked = count_same (defined_at h class key) (λ p. eqb (number_at h p) k) (80 * cards_in h) defined_number

    -- those on cards with another vessel digit
    pub contradictions_asked : (vessel : ℕ) → contradictions_of h class key vessel ≡ passing (is_apart k vessel) h (80 * cards_in h)
    unfolding contradictions_of places passing card_of
    contradictions_asked vessel =
        count_same _ (λ p. is_apart k vessel (number_at h p) (tag_for (card_at h (p / 80)) (p / 80))) (80 * cards_in h)
        (λ p l. rw (defined_number p l, vessel_told_lem (card_at h (p / 80)) (p / 80)))

  -- the waypoints of a vessel
  pub waypoints_asked : (d : ℕ) → d < 10 → waypoints_of h (d ∷ []) ≡ passing (is_waypoint d) h (80 * cards_in h)
  unfolding waypoints_of waypoint_at places passing card_of column_of number_at number_on holds_key
  waypoints_asked d low =
      count_same _ (λ p. eqb (vessel_in (number_at h p)) d) (80 * cards_in h)
      (λ p l.
      let s = card_at h (p / 80) in
      let i = p % 80 + 1 in
      a_vessels d low (class_at defines s i) (key_at defines s i) (found_stands defines s i (card_at_lem p l))
      ∙ ap (λ n. eqb (vessel_in n) d) (sym (packed_at defines s i)))
