-- What is promised of a heading: the range, whole turns, the nearest direction, corrections that are absent.
use Prim.Native.Nat.{ℕ, suc, ◌+◌, ◌-◌, ◌*◌, ◌%◌, ◌^◌, ◌≤◌, ◌<◌, max}
use native.Mathlib.Decide.{dec_lt, ℕ_discrete}
use native.Mathlib.Omega.{arith}
use mathlib.Core.Path.{◌≡◌, refl, sym, ap, ap₂, ◌∙◌}
use mathlib.Core.Bool.{Bool, true, false, cond, ◌||◌}
use mathlib.Core.List.{List}
use mathlib.Core.Logic.{◌⊎◌, inl, inr}
use lib.Dec.{eqb}
use lib.IntN.{ℤ, pos, negsuc, neg_ℤ, nat_abs, ◌+ℤ◌, ◌*ℤ◌, +ℤ_idr}
use Rattle.base_refusal.specs.declared.Refusal.{Refusal}
use Rattle.base_refusal.specs.Refusals.{refusal}
use Rattle.base_value.specs.declared.Decimal.{Decimal}
use Rattle.base_value.specs.Sums.{decimal, nothing, units_at, exact_sum}
use Rattle.value_field.proofs.spelling.Absence.{zero_one}
use Rattle.value_text.specs.text.Texts.{text_of}
use Rattle.tie_rules.specs.Keys.{whole_in}
use Rattle.tie_lookup.specs.declared.questions.Key.TheVariants as key
use Rattle.tie_lookup.specs.declared.questions.Defined.{Defined}
use Rattle.tie_lookup.specs.declared.questions.Defined.TheVariants as defined
use Rattle.tie_lookup.specs.questions.Questions.{key_answer}
use Rattle.survey_compass.specs.Serials.{cards_for, card_for}
use Rattle.survey_compass.specs.Directions.{mark_at, listed_twice, apart, unlisted, rank_at, least_to, least_rank, nearest}
use Rattle.survey_compass.specs.Corrections.{fixed_on, nearest_on, summed_on, turn, within, turned}
use Rattle.survey_compass.specs.Headings.{off_circle, bad_reading, heading_on, heading_for, heading_by, heading_of}
use Rattle.survey_compass.proofs.Nearest.{mark_low, apart_low, rank_some, least_had}
use Rattle.survey_compass.proofs.Reordered.{least_low, nearest_has, low, unranked}
use Rattle.survey_compass.proofs.Turning.{turn-some, within_below, multiples}
use Rattle.std.specs.Prelude.{Result, Ok, Err}

-- a heading is the sum by the only card for the serial, taken into the circle
tested : (a : Bool) (r : Refusal) (y : Result Decimal Refusal) (d : Decimal) → cond a (Err r) y ≡ Ok d → y ≡ Ok d
tested true r y d e = absurd (zero_one cc)
tested false r y d e = e

passed : (a : Bool) (r : Refusal) (y : Result Decimal Refusal) (d : Decimal) → cond a y (Err r) ≡ Ok d → y ≡ Ok d
passed true r y d e = e
passed false r y d e = absurd (zero_one cc)

by_key : (x : Result Defined Refusal) (y : Result Decimal Refusal) (d : Decimal) → heading_by x y ≡ Ok d → y ≡ Ok d
unfolding heading_by
by_key (Err r) y d e = absurd (zero_one cc)
by_key (Ok defined.None) y d e = absurd (zero_one cc)
by_key (Ok (defined.Several n)) y d e = absurd (zero_one cc)
by_key (Ok (defined.Only card column)) y d e = e

same_decimal : (x d : Decimal) → ◌≡◌ {A = Result Decimal Refusal} (Ok x) (Ok d) → d ≡ x
same_decimal x d e = let q : x ≡ d = cc in sym q

pub heading_is : (h serial : List ℕ) (raw : Decimal) (direction : ℤ) (d : Decimal) → heading_of h serial raw direction ≡ Ok d
    → d ≡ turned (summed_on (card_for h (text_of serial)) raw (nat_abs direction % 360))
unfolding heading_of heading_for heading_on
heading_is h serial raw direction d e =
    let s = card_for h (text_of serial) in
    let a = by_key (key_answer h 4 key.Text serial) (heading_for h (text_of serial) raw direction) d e in
    let b = passed (eqb (cards_for h (text_of serial)) 1) (refusal 24 0 0) (heading_on s raw direction) d a in
    let x = turned (summed_on s raw (nat_abs direction % 360)) in
    let c = tested (off_circle direction || listed_twice s) (refusal 25 0 0) (cond (bad_reading raw) (Err (refusal 26 0 0)) (Ok x)) d b in
    same_decimal x d (tested (bad_reading raw) (refusal 26 0 0) (Ok x) d c)

-- it lies in 0 to under 360, and differs from the sum by whole turns
pub in_circle : (d : Decimal) → (n : ℕ) × ((turned d).units ≡ pos n) × (n < turn d.places)
unfolding turned
in_circle d = (within (turn d.places) d.units, refl, within_below (turn d.places) (omega (arith, turn-some d.places)) d.units)

pub whole_turns : (d : Decimal) → (k : ℤ) × (d.units ≡ (turned d).units +ℤ k *ℤ pos (turn d.places))
unfolding turned
whole_turns d = multiples (turn d.places) (omega (arith, turn-some d.places)) d.units

-- with the largest number of places among those that are summed
pub places-kept : (s : List ℕ) (raw : Decimal) (asked : ℕ)
    → (turned (summed_on s raw asked)).places ≡ max (max raw.places (fixed_on s).places) (nearest_on s asked).places
unfolding turned summed_on exact_sum
places-kept s raw asked = refl

-- nothing adds nothing, neither units nor places
once : (z : ℤ) → z *ℤ pos 1 ≡ z
once (pos n) = ap pos (omega arith)
once (negsuc n) = ap (λ m. neg_ℤ (pos m)) (let e : suc n * 1 ≡ suc n = omega arith in e)

pub nothing_added : (d : Decimal) → exact_sum d nothing ≡ d
unfolding exact_sum units_at nothing
nothing_added d =
    let p : max d.places 0 ≡ d.places = omega arith in
    let z : max d.places 0 - d.places ≡ 0 = omega arith in
    ap₂ decimal (ap₂ ◌+ℤ◌ (ap (λ k. d.units *ℤ pos (10 ^ k)) z ∙ once d.units) (ap pos (omega arith)) ∙ +ℤ_idr d.units) p

-- the nearest direction
module _ (s : List ℕ) (asked : ℕ) where
  -- ranks in their order: how far, and then which
  ordered : (f g m n : ℕ) → m < 360 → n < 360 → 360 * f + m ≤ 360 * g + n → (f < g) ⊎ ((f ≡ g) × (m ≤ n))
  ordered f g m n l r q = elim (dec_lt f g) [
    | yes h ↦ inl h
    | no h ↦ inr (omega (arith, q, l, r, h), omega (arith, q, l, r, h))
  ]

  mark_at_lem : (i : ℕ) → mark_at s i ≤ 360
  unfolding mark_at
  mark_at_lem i = mark_low (whole_in (21 + 7 * i) (23 + 7 * i) s)

  ranked : (i : ℕ) → (mark_at s i ≡ 0 → ⊥) → 360 * apart asked (mark_at s i - 1) + (mark_at s i - 1) ≡ rank_at s asked i
  unfolding rank_at
  ranked i h = rank_some asked (mark_at s i) (apart asked (mark_at s i - 1)) h refl

  below : (i : ℕ) → (mark_at s i ≡ 0 → ⊥) → rank_at s asked i < unlisted
  below i h = omega (arith, ranked i h, apart_low asked (mark_at s i - 1), low (mark_at s i) h (mark_at_lem i))

  -- there is one exactly where a direction is listed
  pub none-listed : least_rank s asked ≡ unlisted → (i : ℕ) → i < 8 → mark_at s i ≡ 0
  unfolding least_rank
  none-listed e i l = elim (ℕ_discrete (mark_at s i) 0) [
    | yes z ↦ z
    | no h ↦ absurd (omega (arith, e, below i h, least_low s asked 8 i l))
  ]

  pub some-listed : ((i : ℕ) → i < 8 → mark_at s i ≡ 0) → least_rank s asked ≡ unlisted
  unfolding least_rank
  some-listed h = go (least_had s asked 8)
    where
      go : (least_to s asked 8 ≡ unlisted) ⊎ ((i : ℕ) × (i < 8) × (rank_at s asked i ≡ least_to s asked 8)) → least_to s asked 8 ≡ unlisted
      go (inl e) = e
      go (inr w) = sym w.2 ∙ unranked s asked w.0 (h w.0 w.1)

  -- it is listed; no other listed one is nearer, and of those as near none is smaller
  module _ (some : least_rank s asked ≡ unlisted → ⊥) where
    pub nearest-listed : mark_at s (nearest s asked) ≡ 0 → ⊥
    nearest-listed z = some (sym (nearest_has s asked some) ∙ unranked s asked (nearest s asked) z)

    pub nearest-first : (j : ℕ) → j < 8 → (mark_at s j ≡ 0 → ⊥)
        → (apart asked (mark_at s (nearest s asked) - 1) < apart asked (mark_at s j - 1))
        ⊎ ((apart asked (mark_at s (nearest s asked) - 1) ≡ apart asked (mark_at s j - 1))
        × (mark_at s (nearest s asked) - 1 ≤ mark_at s j - 1))
    unfolding least_rank
    nearest-first j l h =
        let i = nearest s asked in
        ordered _ _ _ _ (low (mark_at s i) nearest-listed (mark_at_lem i)) (low (mark_at s j) h (mark_at_lem j))
        (le_of_ranks _ _ _ _ _ (ranked i nearest-listed) (ranked j h) (nearest_has s asked some) (least_low s asked 8 j l))
      where
        le_of_ranks : (a b r q least : ℕ) → a ≡ r → b ≡ q → r ≡ least → least ≤ q → a ≤ b
        le_of_ranks a b r q least x y z w = omega (arith, x, y, z, w)
