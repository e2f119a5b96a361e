-- No answer depends on the order of a card's eight pairs.
use Prim.Native.Nat.{ℕ, zero, suc, ◌+◌, ◌-◌, ◌*◌, ◌%◌, ◌≤◌, ◌<◌}
use native.Mathlib.Nat.{le_antisymm}
use native.Mathlib.Decide.{ℕ_discrete}
use native.Mathlib.Omega.{arith}
use mathlib.Core.Path.{◌≡◌, refl, sym, ap, ap₂, ◌∙◌}
use mathlib.Core.Bool.{Bool, true, false, cond, ◌&&◌, ◌||◌, not, true≢false}
use mathlib.Core.List.{List}
use mathlib.Core.Logic.{◌⊎◌, inl, inr}
use lib.Dec.{eqb, ltb}
use lib.IntN.{ℤ, nat_abs}
use borrow.Author.Tests.{eq-eqb, ne_eqb, eqb-true, ltb-false}
use Rattle.base_lists.specs.Count.{count}
use Rattle.base_lists.proofs.Counting.{count-some, count_one, none_pass}
use Rattle.base_lists.proofs.Finding.{first_passes}
use Rattle.base_lists.proofs.Moving.{all_stay, count-placed}
use Rattle.base_value.specs.declared.Decimal.{Decimal}
use Rattle.base_value.specs.Sums.{nothing, exact_sum}
use Rattle.base_refusal.specs.Refusals.{refusal}
use Rattle.value_field.specs.declared.spelling.Spelling.TheVariants as spelled
use Rattle.value_field.specs.spelling.Reading.{reading_of}
use Rattle.tie_rules.specs.Keys.{whole_key, whole_in}
use Rattle.survey_compass.specs.Directions.{pairs, mark_of, mark_at, times_listed, is_again, listed_twice, apart, unlisted, rank_of, rank_at, least_to, least_rank, is_nearest, nearest}
use Rattle.survey_compass.specs.Corrections.{correction_of, correction_in, fixed_on, correction_at, nearest_on, summed_on, turned}
use Rattle.survey_compass.specs.Headings.{off_circle, bad_reading, heading_on}
use Rattle.survey_compass.specs.Pairs.{Reordered}
use Rattle.survey_compass.proofs.Nearest.{mark_low, rank_some, rank_none, least_had, nearest_below}
use Rattle.std.specs.Prelude.{Result, Ok, Err}
use Rattle.base_refusal.specs.declared.Refusal.{Refusal}

-- two directions, counted from 1, of one rank
pub low : (m : ℕ) → (m ≡ 0 → ⊥) → m ≤ 360 → m - 1 < 360
low m h l = omega arith

level : (f g m n : ℕ) → m < 360 → n < 360 → 360 * f + m ≡ 360 * g + n → m ≡ n
level f g m n l r q = omega (arith, q, l, r)

equal : (m n : ℕ) → (m ≡ 0 → ⊥) → (n ≡ 0 → ⊥) → m - 1 ≡ n - 1 → m ≡ n
equal m n x y e = omega (arith, e)

same : (f g m n : ℕ) → (m ≡ 0 → ⊥) → (n ≡ 0 → ⊥) → m ≤ 360 → n ≤ 360 → 360 * f + (m - 1) ≡ 360 * g + (n - 1) → m ≡ n
same f g m n x y l r q = equal m n x y (level f g (m - 1) (n - 1) (low m x l) (low n y r) q)

-- the least rank is at most that of each pair
module _ (s : List ℕ) (asked : ℕ) where
  pub least_low : (n i : ℕ) → i < n → least_to s asked n ≤ rank_at s asked i
  unfolding least_to
  least_low zero i l = absurd (omega (arith, l))
  least_low (suc n) i l = elim (ℕ_discrete i n) [
    | yes e ↦ let q = ap (rank_at s asked) e in omega (arith, q)
    | no e ↦ omega (arith, least_low n i (omega (arith, l, e)))
  ]

  least-most : (n : ℕ) → least_to s asked n ≤ unlisted
  unfolding least_to
  least-most zero = omega arith
  least-most (suc n) = omega (arith, least-most n)

  -- the nearest pair has the least rank
  pub nearest_has : (least_rank s asked ≡ unlisted → ⊥) → rank_at s asked (nearest s asked) ≡ least_rank s asked
  unfolding nearest is_nearest
  nearest_has h = eqb-true _ _ (first_passes (is_nearest s asked) 8 (nearest_below s asked h))

  -- a rank other than that of no direction tells the direction
  rank_tells : (i j : ℕ) → rank_at s asked i ≡ rank_at s asked j → (rank_at s asked i ≡ unlisted → ⊥) → mark_at s i ≡ mark_at s j
  unfolding rank_at mark_at
  rank_tells i j e h = elim (ℕ_discrete (mark_at s i) 0) [
    | yes z ↦ absurd (h (sym (rank_none asked (mark_at s i) z)))
    | no x ↦ elim (ℕ_discrete (mark_at s j) 0) [
      | yes z ↦ absurd (h (e ∙ sym (rank_none asked (mark_at s j) z)))
      | no y ↦
          let a = rank_some asked (mark_at s i) (apart asked (mark_at s i - 1)) x refl in
          let b = rank_some asked (mark_at s j) (apart asked (mark_at s j - 1)) y refl in
          same _ _ _ _ x y (mark_low (whole_in (21 + 7 * i) (23 + 7 * i) s)) (mark_low (whole_in (21 + 7 * j) (23 + 7 * j) s)) (a ∙ e ∙ sym b)
    ]
  ]

  pub unranked : (i : ℕ) → mark_at s i ≡ 0 → rank_at s asked i ≡ unlisted
  unfolding rank_at
  unranked i z = sym (rank_none asked (mark_at s i) z)

  -- where no direction is listed twice, the direction tells the pair
  mark_tells : listed_twice s ≡ false → (i j : ℕ) → i < 8 → j < 8 → mark_at s i ≡ mark_at s j → (mark_at s i ≡ 0 → ⊥) → i ≡ j
  unfolding listed_twice is_again times_listed
  mark_tells once i j l k e x =
      let none : count (is_again s) pairs ≡ 0 = omega (arith, ltb-false 0 (count (is_again s) pairs) once) in
      let no : is_again s i ≡ false = none_pass (is_again s) pairs none i l in
      let few : times_listed s (mark_at s i) ≤ 1 = at_most (ltb 1 (times_listed s (mark_at s i))) refl (rw (ne_eqb (mark_at s i) 0 x) at no) in
      let mine : eqb (mark_at s i) (mark_at s i) ≡ true = eq-eqb (mark_at s i) (mark_at s i) refl in
      let its : eqb (mark_at s j) (mark_at s i) ≡ true = eq-eqb (mark_at s j) (mark_at s i) (sym e) in
      let some = count-some (λ k. eqb (mark_at s k) (mark_at s i)) pairs i l mine in
      count_one (λ k. eqb (mark_at s k) (mark_at s i)) pairs (omega (arith, few, some)) i j l k mine its
    where
      at_most : (b : Bool) → ltb 1 (times_listed s (mark_at s i)) ≡ b → b ≡ false → times_listed s (mark_at s i) ≤ 1
      at_most b q f = ltb-false 1 (times_listed s (mark_at s i)) (q ∙ f)

module _ (s t : List ℕ) (w : Reordered s t) (asked : ℕ) where
  abbrev to : ℕ → ℕ
  to = w.order.to

  marks : (i : ℕ) → i < 8 → mark_at t (to i) ≡ mark_at s i
  unfolding mark_at whole_in
  marks i l = ap (λ u. mark_of (whole_key (reading_of spelled.Whole u))) (w.direction i l)

  times : (mark : ℕ) → times_listed t mark ≡ times_listed s mark
  unfolding times_listed
  times mark =
      count-placed (all_stay refl w.order) (λ i. eqb (mark_at s i) mark) (λ i. eqb (mark_at t i) mark)
      (λ i l e. ap (λ m. eqb m mark) (marks i l)) (λ i l e. absurd (true≢false e))

  again : (i : ℕ) → i < 8 → is_again t (to i) ≡ is_again s i
  unfolding is_again
  again i l =
      ap (λ m. not (eqb m 0) && ltb 1 (times_listed t m)) (marks i l)
      ∙ ap (λ n. not (eqb (mark_at s i) 0) && ltb 1 n) (times (mark_at s i))

  pub twice : listed_twice t ≡ listed_twice s
  unfolding listed_twice
  twice =
      ap (ltb 0) (count-placed (all_stay refl w.order) (is_again s) (is_again t) (λ i l e. again i l) (λ i l e. absurd (true≢false e)))

  ranks : (i : ℕ) → i < 8 → rank_at t asked (to i) ≡ rank_at s asked i
  unfolding rank_at
  ranks i l = ap (rank_of asked) (marks i l)

  back : (i : ℕ) → i < 8 → rank_at s asked (w.order.from i) ≡ rank_at t asked i
  back i l =
      sym (ranks (w.order.from i) (w.order.from_below i l)) ∙ ap (rank_at t asked) (w.order.to-from i l)

  pub least : least_rank t asked ≡ least_rank s asked
  unfolding least_rank
  least = le_antisymm (below (least_had s asked 8)) (above (least_had t asked 8))
    where
      below : (least_to s asked 8 ≡ unlisted) ⊎ ((i : ℕ) × (i < 8) × (rank_at s asked i ≡ least_to s asked 8)) → least_to t asked 8 ≤ least_to s asked 8
      below (inl e) = omega (arith, e, least-most t asked 8)
      below (inr x) = omega (arith, x.2, ranks x.0 x.1, least_low t asked 8 (to x.0) (w.order.to_below x.0 x.1))

      above : (least_to t asked 8 ≡ unlisted) ⊎ ((i : ℕ) × (i < 8) × (rank_at t asked i ≡ least_to t asked 8)) → least_to s asked 8 ≤ least_to t asked 8
      above (inl e) = omega (arith, e, least-most s asked 8)
      above (inr x) = omega (arith, x.2, back x.0 x.1, least_low s asked 8 (w.order.from x.0) (w.order.from_below x.0 x.1))

  corrections : (i : ℕ) → i < 8 → correction_at t (to i) ≡ correction_at s i
  unfolding correction_at correction_in
  corrections i l = ap (λ u. correction_of (reading_of spelled.Decimal u)) (w.correction i l)

  -- the nearest pair goes with the others
  moved : listed_twice t ≡ false → (least_rank s asked ≡ unlisted → ⊥) → nearest t asked ≡ to (nearest s asked)
  moved once h =
      let g : least_rank t asked ≡ unlisted → ⊥ = λ e. h (sym least ∙ e) in
      let a = nearest_below s asked h in
      let b = nearest_below t asked g in
      let r : rank_at t asked (nearest t asked) ≡ rank_at t asked (to (nearest s asked)) =
      nearest_has t asked g ∙ least ∙ sym (nearest_has s asked h) ∙ sym (ranks (nearest s asked) a) in
      let x : rank_at t asked (nearest t asked) ≡ unlisted → ⊥ = λ e. g (sym (nearest_has t asked g) ∙ e) in
      let m = rank_tells t asked (nearest t asked) (to (nearest s asked)) r x in
      mark_tells t asked once (nearest t asked) (to (nearest s asked)) b (w.order.to_below (nearest s asked) a) m
      (λ z. x (unranked t asked (nearest t asked) z))

  -- and so does its correction
  used : listed_twice t ≡ false → nearest_on t asked ≡ nearest_on s asked
  unfolding nearest_on
  used once = elim (ℕ_discrete (least_rank s asked) unlisted) [
    | yes e ↦ rw (eq-eqb (least_rank t asked) unlisted (least ∙ e), eq-eqb (least_rank s asked) unlisted e)
    | no h ↦
        ap (λ b. cond b nothing (correction_at t (nearest t asked))) (ne_eqb (least_rank t asked) unlisted (λ e. h (sym least ∙ e)))
        ∙ ap (correction_at t) (moved once h)
        ∙ corrections (nearest s asked) (nearest_below s asked h)
        ∙ sym (ap (λ b. cond b nothing (correction_at s (nearest s asked))) (ne_eqb (least_rank s asked) unlisted h))
  ]

  summed : (raw : Decimal) → listed_twice t ≡ false → summed_on t raw asked ≡ summed_on s raw asked
  unfolding summed_on fixed_on correction_in
  summed raw once =
      ap₂ (λ f u. exact_sum (exact_sum raw f) u) (ap (λ u. correction_of (reading_of spelled.Decimal u)) w.fixed) (used once)

pub same_heading : (s t : List ℕ) → Reordered s t → (raw : Decimal) (direction : ℤ) → heading_on t raw direction ≡ heading_on s raw direction
unfolding heading_on
same_heading s t w raw direction =
    ap (λ b. cond (off_circle direction || b) (Err (refusal 25 0 0)) (rest t)) (twice s t w 0)
    ∙ go (off_circle direction) (listed_twice s) (twice s t w 0)
  where
    rest : List ℕ → Result Decimal Refusal
    rest u = cond (bad_reading raw) (Err (refusal 26 0 0)) (Ok (turned (summed_on u raw (nat_abs direction % 360))))

    go : (a b : Bool) → listed_twice t ≡ b → cond (a || b) (Err (refusal 25 0 0)) (rest t) ≡ cond (a || b) (Err (refusal 25 0 0)) (rest s)
    go true b e = refl
    go false true e = refl
    go false false e =
        ap (λ d. cond (bad_reading raw) (Err (refusal 26 0 0)) (Ok (turned d))) (summed s t w (nat_abs direction % 360) raw e)
