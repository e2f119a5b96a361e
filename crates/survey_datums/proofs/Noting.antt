-- The lowest joining cards, card by card: what one card more changes in a row of the table.
use Prim.Native.Nat.{ℕ, ◌+◌, ◌-◌, ◌*◌, ◌/◌, ◌≤◌, ◌<◌}
use native.Mathlib.Omega.{arith}
use native.Mathlib.Decide.{dec_lt, ℕ_discrete}
use mathlib.Core.Path.{◌≡◌, refl, sym, ap, ◌∙◌}
use mathlib.Core.Bool.{Bool, true, false, cond, not, ◌&&◌, ◌||◌}
use mathlib.Core.List.{List, ◌++◌, map}
use lib.Dec.{eqb, ltb}
use lib.ListN.{length, get_or, set, drop, replicate, length-append, length-drop}
use lib.Seq.{take_at, drop_at, drop-drop, ext_get_or, get_or-set_same, get_or-set_other}
use borrow.Author.Tests.{eq-eqb, ne_eqb, lt-ltb, le-ltb}
use Rattle.std.proofs.Math.Bool.{or-false, and-true, and-false, and_comm}
use Rattle.std.specs.Option.{unwrap_or}
use Rattle.std.specs.Prelude.{Option, Some, None}
use Rattle.base_lists.specs.Count.{first, first_from}
use Rattle.base_lists.specs.Parts.{part, up_to}
use Rattle.base_lists.proofs.Finding.{first_le, first_passes, first_below, first_unique, first-none}
use Rattle.format_layout.specs.Names.{H0120}
use Rattle.header_check.specs.forms.Cards.{card_at, cards_in, layout_of}
use Rattle.survey_datums.proofs.routing.Filling.{length-listed, at_listed, listed_same}
use Rattle.survey_datums.specs.Datums.{times_defined, is_defined, number_in, is_shift, joins, first_number, joining_to, joining}
use Rattle.survey_datums.specs.packed.Ends.{place_of, other_of, far_end, notable, noted}

-- a number is a datum's
is-place : (n b : ℕ) → b < 9 → eqb (place_of n) b ≡ eqb n (b + 1)
unfolding place_of
is-place n b l = elim (ℕ_discrete n 0) [
  | yes z ↦ rw (eq-eqb n 0 z, ne_eqb n (b + 1) (λ e. omega arith)) (ne_eqb 9 b (λ e. omega arith))
  | no s ↦ elim (dec_lt 9 n) [
    | yes m ↦ rw (ne_eqb n 0 s, lt-ltb 9 n m, ne_eqb n (b + 1) (λ e. omega arith)) (ne_eqb 9 b (λ e. omega arith))
    | no m ↦ rw (ne_eqb n 0 s, le-ltb 9 n (omega arith)) (elim (ℕ_discrete n (b + 1)) [
      | yes e ↦ rw (eq-eqb n (b + 1) e) (eq-eqb (n - 1) b (omega arith))
      | no e ↦ rw (ne_eqb n (b + 1) e) (ne_eqb (n - 1) b (λ q. e (omega arith)))
    ])
  ]
]

-- the other end of a shift
far : (s : List ℕ) (a b : ℕ) → b < 9 → (a ≡ b → ⊥) → eqb (far_end s a) b ≡ is_shift s a b
unfolding far_end is_shift other_of
far s a b l other = go (eqb (layout_of s) H0120)
  where
    x : ℕ
    x = number_in s 7

    y : ℕ
    y = number_in s 9

    nine : eqb 9 b ≡ false
    nine = ne_eqb 9 b (λ e. omega arith)

    go : (k : Bool) → eqb (cond k (other_of x y a) 9) b
        ≡ (k && ((eqb x (a + 1) && eqb y (b + 1)) || (eqb x (b + 1) && eqb y (a + 1))))
    go false = nine
    go true = elim (ℕ_discrete x (a + 1)) [
      | yes e ↦
          let differ : (x ≡ b + 1 → ⊥) = λ q. other (omega arith) in
          rw (eq-eqb x (a + 1) e, ne_eqb x (b + 1) differ) (is-place y b l ∙ sym (or-false (eqb y (b + 1))))
      | no e ↦ elim (ℕ_discrete y (a + 1)) [
        | yes q ↦ rw (ne_eqb x (a + 1) e, eq-eqb y (a + 1) q) (is-place x b l ∙ sym (and-true (eqb x (b + 1))))
        | no q ↦ rw (ne_eqb x (a + 1) e, ne_eqb y (a + 1) q) (nine ∙ sym (and-false (eqb x (b + 1))))
      ]
    ]

-- one number more, and the first that passes
number-next : (p : ℕ → Bool) (n : ℕ) → first_number p (n + 1) ≡ noted (first_number p n) (p n) (n + 1)
unfolding first_number noted
number-next p n = elim (dec_lt (first p n) n) [
  | yes l ↦
      let e : first p (n + 1) ≡ first p n = first_unique p (n + 1) (first p n) (omega arith) (first_passes p n l) (first_below p n) in
      let z : (first p n + 1 ≡ 0 → ⊥) = λ q. omega arith in
      rw (
        e,
        lt-ltb (first p n) (n + 1) (omega arith),
        lt-ltb (first p n) n l,
        ne_eqb (first p n + 1) 0 z,
        and-false
            (p n),
      )
  | no l ↦
      let all : first p n ≡ n = omega (arith, first_le p n) in
      rw (le-ltb (first p n) n (omega arith)) (here all (p n) refl)
]
  where
    here : first p n ≡ n → (b : Bool) → p n ≡ b
        → cond (ltb (first p (n + 1)) (n + 1)) (first p (n + 1) + 1) 0 ≡ cond (b && eqb 0 0) (n + 1) 0
    here all true e =
        let q : first p (n + 1) ≡ n = first_unique p (n + 1) n (omega arith) e (λ j k. first_below p n j (omega arith)) in
        rw (q, lt-ltb n (n + 1) (omega arith))
    here all false e =
        let q : first p (n + 1) ≡ n + 1 = first-none p (n + 1) (λ j k. elim (dec_lt j n) [
          | yes i ↦ first_below p n j (omega arith)
          | no i ↦ let w : j ≡ n = omega arith in ap p w ∙ e
        ]) in
        rw (q, le-ltb (n + 1) (n + 1) (omega arith))

-- before the first card
pub none_yet : (h : List ℕ) (a b : ℕ) → 0 ≡ joining_to h a b 0
unfolding joining_to first_number first first_from
none_yet h a b = go (eqb a b)
  where
    go : (x : Bool) → ◌≡◌ {A = ℕ} 0 (cond x 0 0)
    go true = refl
    go false = refl

-- the cards of a header from its front: what is left once n of them were taken
pub record Reading (h rest : List ℕ) (size n : ℕ) : Type 0 where
  pub eighty : size ≡ 80
  pub behind : rest ≡ drop (n * 80) h
  pub upto : n ≤ length h / 80

module _ (h rest : List ℕ) (size n : ℕ) where
  pub reading_begins : rest ≡ h → size ≡ 80 → n ≡ 0 → Reading h rest size n
  reading_begins e s z = record { eighty = s; behind = rw z e; upto = omega (arith, z) }

  pub reading_more : Reading h rest size n → (x e : List ℕ) → rest ≡ x ++ e → length x ≡ size
      → (x ≡ card_at h n) × (n < length h / 80) × Reading h e size (n + 1)
  unfolding card_at part
  reading_more r x e is long =
      let l : length x ≡ 80 = long ∙ r.eighty in
      let q : drop (n * 80) h ≡ x ++ e = sym r.behind ∙ is in
      let m : 80 * n ≡ n * 80 = omega arith in
      let f : n * 80 + 80 ≡ (n + 1) * 80 = omega arith in
      let all = ap length q ∙ length-append x e in
      let few : n < length h / 80 = omega (arith, length-drop (n * 80) h, all, l) in (
        rw (m, q) (sym (take_at x e 80 l)),
        few,
        record {
          eighty = r.eighty;
          behind = sym (drop_at x e 80 l) ∙ ap (drop 80) (sym q) ∙ drop-drop 80 (n * 80) h ∙ ap (λ k. drop k h) f;
          upto = omega (arith, few);
        },
      )

  pub reading_over : Reading h rest size n → length rest < size → n ≡ length h / 80
  reading_over r short =
      let l = ap length r.behind ∙ length-drop (n * 80) h in
      omega (arith, l, short, r.eighty, r.upto)

module _ (h times : List ℕ) (known : times ≡ map (times_defined h) (up_to 9)) (a : ℕ) (there : a < 9) where
  times_at : (b : ℕ) → b < 9 → get_or times b 0 ≡ times_defined h b
  times_at b l = ap (λ t. get_or t b 0) known ∙ at_listed (times_defined h) 9 b 0 l

  -- a datum that is not defined is joined to none
  pub none_ever : get_or times a 0 ≡ 0 → replicate 9 0 ≡ map (joining h a) (up_to 9)
  unfolding up_to joining joining_to first_number joins is_defined
  none_ever zero = listed_same (λ i. 0) (joining h a) 9 (λ b l. none b)
    where
      z : times_defined h a ≡ 0
      z = sym (times_at a there) ∙ zero

      dead : (b j : ℕ) → joins h a b j ≡ false
      dead b j = rw z

      nothing : (x : Bool) → ◌≡◌ {A = ℕ} 0 (cond x 0 0)
      nothing true = refl
      nothing false = refl

      none : (b : ℕ) → 0 ≡ joining h a b
      none b =
          let q : first (joins h a b) (cards_in h) ≡ cards_in h = first-none (joins h a b) (cards_in h)
          (λ j k. dead b j) in
          rw (q, le-ltb (cards_in h) (cards_in h) (omega arith)) (nothing (eqb a b))

  -- one card more
  card_more : (get_or times a 0 ≡ 0 → ⊥) → (n end : ℕ) → end ≡ far_end (card_at h n) a → (b : ℕ) → b < 9 → (old : ℕ)
      → old ≡ joining_to h a b n
      → noted old (notable times a end b) (n + 1) ≡ joining_to h a b (n + 1)
  unfolding joining_to notable noted joins is_defined
  card_more some n end e b l old q = elim (ℕ_discrete a b) [
    | yes same ↦ rw (q, eq-eqb a b same) (stays (eqb end b))
    | no other ↦
        rw (q, ne_eqb a b other)
        (ap (λ t. noted (first_number (joins h a b) n) t (n + 1)) (same_test other) ∙ sym (number-next (joins h a b) n))
  ]
    where
      stays : (x : Bool) → noted 0 (x && (false && ltb 0 (get_or times b 0))) (n + 1) ≡ 0
      stays x = rw (and-false x)

      same_test : (a ≡ b → ⊥) → (eqb end b && (true && ltb 0 (get_or times b 0))) ≡ joins h a b n
      same_test other =
          rw (
            times_at b l,
            e,
            far (card_at h n) a b l other,
            lt-ltb 0 (times_defined h a)
                (omega (arith, some, times_at a there)),
          )
          (and_comm (is_shift (card_at h n) a b) (ltb 0 (times_defined h b)))

-- a card noted in a row, or not
module _ (row times : List ℕ) (a end card : ℕ) where
  abbrev as_noted : ℕ → ℕ
  as_noted b = noted (get_or row b 0) (notable times a end b) card

  apart : (b : ℕ) → (end ≡ b → ⊥) → get_or row b 0 ≡ as_noted b
  unfolding noted notable
  apart b e = rw (ne_eqb end b e)

  pub no_end : 9 ≤ end → (b : ℕ) → b < 9 → get_or row b 0 ≡ as_noted b
  no_end h b l = apart b (λ e. omega arith)

  pub to_itself : end ≡ a → (b : ℕ) → b < 9 → get_or row b 0 ≡ as_noted b
  unfolding noted notable
  to_itself q b l = elim (ℕ_discrete end b) [
    | yes e ↦ rw (eq-eqb end b e, eq-eqb a b (sym q ∙ e))
    | no e ↦ apart b e
  ]

  pub not_defined_lem : get_or times end 0 ≡ 0 → (b : ℕ) → b < 9 → get_or row b 0 ≡ as_noted b
  unfolding noted notable
  not_defined_lem z b l = elim (ℕ_discrete end b) [
    | yes e ↦
        let y : get_or times b 0 ≡ 0 = ap (λ i. get_or times i 0) (sym e) ∙ z in
        rw (y, and-false (not (eqb a b)), and-false (eqb end b))
    | no e ↦ apart b e
  ]

  pub lower_stays : (get_or row end 0 ≡ 0 → ⊥) → (b : ℕ) → b < 9 → get_or row b 0 ≡ as_noted b
  unfolding noted
  lower_stays z b l = elim (ℕ_discrete end b) [
    | yes e ↦
        let y : (get_or row b 0 ≡ 0 → ⊥) = λ q. z (ap (λ i. get_or row i 0) e ∙ q) in
        rw (ne_eqb (get_or row b 0) 0 y, and-false (notable times a end b))
    | no e ↦ apart b e
  ]

  pub now_noted : (end ≡ a → ⊥) → (get_or times end 0 ≡ 0 → ⊥) → get_or row end 0 ≡ 0 → end < length row
      → (b : ℕ) → b < 9 → get_or (set row end card) b 0 ≡ as_noted b
  unfolding noted notable
  now_noted o t z k b l = elim (ℕ_discrete end b) [
    | yes e ↦
        let y : get_or row b 0 ≡ 0 = ap (λ i. get_or row i 0) (sym e) ∙ z in
        let u : (get_or times b 0 ≡ 0 → ⊥) = λ q. t (ap (λ i. get_or times i 0) e ∙ q) in
        let v : (a ≡ b → ⊥) = λ q. o (e ∙ sym q) in
        ap (λ i. get_or (set row end card) i 0) (sym e) ∙ get_or-set_same row end card 0 k
        ∙ rw (y, eq-eqb end b e, ne_eqb a b v, lt-ltb 0 (get_or times b 0) (omega (arith, u)))
    | no e ↦ get_or-set_other row end b card 0 (λ q. e (sym q)) ∙ apart b e
  ]

-- a row once so many cards of the header are noted in it
abbrev pub Filled : List ℕ → ℕ → List ℕ → ℕ → Type 0
Filled h a row n = (b : ℕ) → b < 9 → get_or row b 0 ≡ joining_to h a b n

module _ (h times : List ℕ) (known : times ≡ map (times_defined h) (up_to 9)) (a : ℕ) (there : a < 9)
    (some : get_or times a 0 ≡ 0 → ⊥) (row : List ℕ) (n : ℕ) (so_far : Filled h a row n)
    (card : List ℕ) (is : card ≡ card_at h n) (r : Option ℕ) (end : unwrap_or r 9 ≡ far_end card a) where
  seen : (b : ℕ) → b < 9 → noted (get_or row b 0) (notable times a (unwrap_or r 9) b) (n + 1) ≡ joining_to h a b (n + 1)
  seen b l = card_more h times known a there some n (unwrap_or r 9) (end ∙ ap (λ k. far_end k a) is) b l
      (get_or row b 0) (so_far b l)

  -- the next card is a shift of the datum
  pub filled_more : (e : ℕ) → r ≡ Some e → (new : List ℕ)
      → ((b : ℕ) → b < 9 → get_or new b 0 ≡ noted (get_or row b 0) (notable times a e b) (n + 1))
      → Filled h a new (n + 1)
  filled_more e q new f b l = f b l ∙ (rw (ap (λ o. unwrap_or o 9) q) at (seen b l))

  -- it is none
  pub filled_same : ((e : ℕ) → r ≡ Some e → ⊥) → Filled h a row (n + 1)
  filled_same none b l = no_end row times a (unwrap_or r 9) (n + 1) (nine r none) b l ∙ seen b l
    where
      nine : (r : Option ℕ) → ((e : ℕ) → r ≡ Some e → ⊥) → 9 ≤ unwrap_or r 9
      nine None none = omega arith
      nine (Some e) none = absurd (none e refl)

-- a whole row
pub row_told : (h : List ℕ) (a : ℕ) (row : List ℕ) → length row ≡ 9 → Filled h a row (cards_in h)
    → row ≡ map (joining h a) (up_to 9)
unfolding joining
row_told h a row k e =
    ext_get_or 0 row (map (joining h a) (up_to 9)) (k ∙ sym (length-listed (joining h a) 9))
    (λ i l. e i (omega arith) ∙ sym (at_listed (joining h a) 9 i 0 (omega arith)))
