-- What the number of a key's definitions says of the places that define it: none, one, several.
use Prim.Native.Nat.{ℕ, zero, suc, ◌+◌, ◌*◌, ◌-◌, ◌/◌, ◌%◌, ◌≤◌, ◌<◌}
use native.Mathlib.Decide.{ℕ_discrete, dec_lt}
use native.Mathlib.Omega.{arith}
use mathlib.Core.Path.{◌≡◌, refl, sym, ap, ◌∙◌}
use mathlib.Core.Logic.{◌↔◌}
use mathlib.Core.Bool.{Bool, true, false, true≢false}
use mathlib.Core.List.{List, [], ◌∷◌}
use lib.ListN.{get_or}
use borrow.Author.Tests.{eq-eqb, ne_eqb}
use Rattle.base_lists.specs.Count.{bit, count, first}
use Rattle.base_lists.proofs.Counting.{count_none, none_pass, count_one, count-some}
use Rattle.base_lists.proofs.Finding.{first_below, first_passes}
use Rattle.header_check.specs.forms.Cards.{card_at, cards_in}
use Rattle.tie_rules.specs.Keys.{defines_key}
use Rattle.tie_rules.specs.Definitions.{places, card_of, column_of, defined_at, definitions_of, place_of}

-- where one passes at least, the first that does is below n
pub first-there : (p : ℕ → Bool) (n : ℕ) → 1 ≤ count p n → first p n < n
first-there p n o = elim (dec_lt (first p n) n) [
  | yes l ↦ l
  | no l ↦ absurd (omega (arith, count_none p n (λ i k. first_below p n i (omega arith))))
]

-- two numbers below n that pass, one after the other
pub record Pair (p : ℕ → Bool) (n : ℕ) : Type 0 where
  pub one : ℕ
  pub other : ℕ
  pub apart : one < other
  pub below : other < n
  pub one_passes : p one ≡ true
  pub other_passes : p other ≡ true

pub pair_there : (p : ℕ → Bool) (n : ℕ) → 2 ≤ count p n → Pair p n
unfolding count
pair_there p zero o = absurd (omega arith)
pair_there p (suc n) o = go (p n) refl (λ k. pair_there p n k)
  where
    go : (b : Bool) → p n ≡ b → (2 ≤ count p n → Pair p n) → Pair p (suc n)
    go true e ih =
        let z : bit (p n) ≡ 1 = rw e in
        let f : first p n < n = first-there p n (omega arith) in
        record {
          one = first p n;
          other = n;
          apart = f;
          below = omega arith;
          one_passes = first_passes p n f;
          other_passes = e;
        }
    go false e ih =
        let z : bit (p n) ≡ 0 = rw e in
        let r = ih (omega arith) in
        record {
          one = r.one;
          other = r.other;
          apart = r.apart;
          below = omega (arith, r.below);
          one_passes = r.one_passes;
          other_passes = r.other_passes;
        }

-- a column of a card, both counted from 1, defines the key of a class
pub record Defines (h : List ℕ) (class : ℕ) (key : List ℕ) (card column : ℕ) : Type 0 where
  pub first_card : 1 ≤ card
  pub last_card : card ≤ cards_in h
  pub first-column : 1 ≤ column
  pub last-column : column ≤ 80
  pub defines_it : defines_key (card_at h (card - 1)) class key column ≡ true

-- it does, and no other place does
pub record Only (h : List ℕ) (class : ℕ) (key : List ℕ) (card column : ℕ) : Type 0 where
  pub here : Defines h class key card column
  pub nowhere_else : (c d : ℕ) → Defines h class key c d → (c ≡ card) × (d ≡ column)

-- two places that differ
abbrev pub Differ : ℕ → ℕ → ℕ → ℕ → Type 0
Differ c d card column = (c ≡ card) × (d ≡ column) → ⊥

-- the key is defined at another place than this one
pub record Elsewhere (h : List ℕ) (class : ℕ) (key : List ℕ) (card column : ℕ) : Type 0 where
  pub other_card : ℕ
  pub other-column : ℕ
  pub there : Defines h class key other_card other-column
  pub another : Differ other_card other-column card column

-- the number of a place
abbrev pub number_of : ℕ → ℕ → ℕ
number_of card column = 80 * (card - 1) + (column - 1)

module _ (h : List ℕ) (class : ℕ) (key : List ℕ) where
  -- a place that defines the key, by its number
  pub to_number : (card column : ℕ) → Defines h class key card column
      → (number_of card column < places h) × (defined_at h class key (number_of card column) ≡ true)
  unfolding places defined_at card_of column_of
  to_number card column d =
      let c : number_of card column / 80 ≡ card - 1 = omega (arith, d) in
      let e : number_of card column % 80 + 1 ≡ column = omega (arith, d) in
      (omega (arith, d), rw (c, e) d.defines_it)

  pub of_number : (p : ℕ) → p < places h → defined_at h class key p ≡ true → Defines h class key (p / 80 + 1) (column_of p)
  unfolding places defined_at card_of column_of
  of_number p l e = let c : p / 80 + 1 - 1 ≡ p / 80 = omega arith in record {
    first_card = omega arith;
    last_card = omega arith;
    first-column = omega arith;
    last-column = omega arith;
    defines_it = rw c e;
  }

  -- a key has no definition exactly where no place defines it
  pub none_exactly : (definitions_of h class key ≡ 0) ↔ ((card column : ℕ) → Defines h class key card column → ⊥)
  unfolding definitions_of
  none_exactly = (
    λ z card column d. let n = to_number card column d in
        true≢false (sym n.1 ∙ none_pass (defined_at h class key) (places h) z (number_of card column) n.0),
    λ f. count_none (defined_at h class key) (places h) (λ p l. fails p l f (defined_at h class key p) refl),
  )
    where
      fails : (p : ℕ) → p < places h → ((card column : ℕ) → Defines h class key card column → ⊥)
          → (b : Bool) → defined_at h class key p ≡ b → defined_at h class key p ≡ false
      fails p l f true e = absurd (f (p / 80 + 1) (column_of p) (of_number p l e))
      fails p l f false e = e

  -- a place that defines it is counted
  pub at_least_one : (card column : ℕ) → Defines h class key card column → 1 ≤ definitions_of h class key
  unfolding definitions_of
  at_least_one card column d =
      let n = to_number card column d in
      count-some (defined_at h class key) (places h) (number_of card column) n.0 n.1

  pub same_place : (p q : ℕ) → (p / 80 + 1 ≡ q / 80 + 1) × (column_of p ≡ column_of q) → p ≡ q
  unfolding column_of
  same_place p q e = omega (arith, e.0, e.1)

  pub at_number : (card column : ℕ) → 1 ≤ card → 1 ≤ column → column ≤ 80
      → (number_of card column / 80 + 1 ≡ card) × (column_of (number_of card column) ≡ column)
  unfolding column_of
  at_number card column a b c = (omega arith, omega arith)

  -- one exactly where a place defines it and no other does
  pub one_exactly : (definitions_of h class key ≡ 1) ↔ ((card : ℕ) × (column : ℕ) × Only h class key card column)
  unfolding definitions_of
  one_exactly = (only, λ o. single o.0 o.1 o.2)
    where
      only : count (defined_at h class key) (places h) ≡ 1 → (card : ℕ) × (column : ℕ) × Only h class key card column
      only o =
          let f : ℕ = first (defined_at h class key) (places h) in
          let l : f < places h = first-there (defined_at h class key) (places h) (omega arith) in
          let e : defined_at h class key f ≡ true = first_passes (defined_at h class key) (places h) l in (
            f / 80 + 1,
            column_of f,
            record {
              here = of_number f l e;
              nowhere_else = λ c d x.
                  let n = to_number c d x in
                  let q : number_of c d ≡ f = count_one (defined_at h class key) (places h) o (number_of c d) f n.0 l n.1 e in
                  let a = at_number c d x.first_card x.first-column x.last-column in
                  (sym a.0 ∙ ap (λ r. r / 80 + 1) q, sym a.1 ∙ ap column_of q);
            },
          )

      single : (card column : ℕ) → Only h class key card column → count (defined_at h class key) (places h) ≡ 1
      single card column o =
          let some : 1 ≤ count (defined_at h class key) (places h) = at_least_one card column o.here in
          elim (dec_lt 1 (count (defined_at h class key) (places h))) [
            | yes l ↦
                let r = pair_there (defined_at h class key) (places h) l in
                let x = of_number r.one (omega (arith, r.apart, r.below)) r.one_passes in
                let y = of_number r.other r.below r.other_passes in
                let a = o.nowhere_else (r.one / 80 + 1) (column_of r.one) x in
                let b = o.nowhere_else (r.other / 80 + 1) (column_of r.other) y in
                absurd (omega (arith, same_place r.one r.other (a.0 ∙ sym b.0, a.1 ∙ sym b.1), r.apart))
            | no l ↦ omega arith
          ]

  -- where one place defines it, several do exactly where another does too
  pub several_exactly : (card column : ℕ) → Defines h class key card column
      → (2 ≤ definitions_of h class key) ↔ Elsewhere h class key card column
  unfolding definitions_of
  several_exactly card column d = (other, λ x. several x)
    where
      other : 2 ≤ count (defined_at h class key) (places h) → Elsewhere h class key card column
      other l = go (pair_there (defined_at h class key) (places h) l)
        where
          go : Pair (defined_at h class key) (places h) → Elsewhere h class key card column
          go r = elim (ℕ_discrete r.one (number_of card column)) [
            | yes e ↦ record {
              other_card = r.other / 80 + 1;
              other-column = column_of r.other;
              there = of_number r.other r.below r.other_passes;
              another = λ q.
                  let f = same_place r.other (number_of card column) (q.0 ∙ sym a.0, q.1 ∙ sym a.1) in
                  omega (arith, f, r.apart);
            }
            | no e ↦ record {
              other_card = r.one / 80 + 1;
              other-column = column_of r.one;
              there = of_number r.one (omega (arith, r.apart, r.below)) r.one_passes;
              another = λ q. e (same_place r.one (number_of card column) (q.0 ∙ sym a.0, q.1 ∙ sym a.1));
            }
          ]
            where
              a : (number_of card column / 80 + 1 ≡ card) × (column_of (number_of card column) ≡ column)
              a = at_number card column d.first_card d.first-column d.last-column

      several : Elsewhere h class key card column → 2 ≤ count (defined_at h class key) (places h)
      several x =
          let some : 1 ≤ count (defined_at h class key) (places h) = at_least_one card column d in
          elim (ℕ_discrete (count (defined_at h class key) (places h)) 1) [
            | yes e ↦
                let n = to_number card column d in
                let m = to_number x.other_card x.other-column x.there in
                let p : ℕ = number_of x.other_card x.other-column in
                let q : p ≡ number_of card column =
                count_one (defined_at h class key) (places h) e p (number_of card column) m.0 n.0 m.1 n.1 in
                let a = at_number card column d.first_card d.first-column d.last-column in
                let y = x.there in
                let b = at_number x.other_card x.other-column y.first_card y.first-column y.last-column in
                absurd (x.another (sym b.0 ∙ ap (λ r. r / 80 + 1) q ∙ a.0, sym b.1 ∙ ap column_of q ∙ a.1))
            | no e ↦ omega arith
          ]

  -- the place is 0 and 0 exactly where the definitions are not exactly one
  pub no_place_exactly : (place_of h class key ≡ 0 ∷ 0 ∷ []) ↔ (definitions_of h class key ≡ 1 → ⊥)
  unfolding place_of
  no_place_exactly = (
    λ e o. let r : ℕ = first (defined_at h class key) (places h) in
        let q : place_of h class key ≡ (r / 80 + 1) ∷ column_of r ∷ [] = rw (eq-eqb (definitions_of h class key) 1 o) in
        omega (arith, ap (λ l. get_or l 0 0) (sym q ∙ e)),
    λ f. rw (ne_eqb (definitions_of h class key) 1 f),
  )

  -- and else that of the only one
  pub place_named : (card column : ℕ) → Only h class key card column → place_of h class key ≡ card ∷ column ∷ []
  unfolding place_of definitions_of
  place_named card column o =
      let one : count (defined_at h class key) (places h) ≡ 1 = one_exactly.1 (card, column, o) in
      let f : ℕ = first (defined_at h class key) (places h) in
      let l : f < places h = first-there (defined_at h class key) (places h) (omega arith) in
      let q = o.nowhere_else (f / 80 + 1) (column_of f) (of_number f l (first_passes (defined_at h class key) (places h) l)) in
      rw (eq-eqb (count (defined_at h class key) (places h)) 1 one, q.0, q.1)

  -- a place other than 0 and 0 is that of the only one
  pub place-only : (card column : ℕ) → 1 ≤ card → place_of h class key ≡ card ∷ column ∷ [] → Only h class key card column
  place-only card column some e = elim (ℕ_discrete (definitions_of h class key) 1) [
    | yes o ↦
        let r = one_exactly.0 o in
        let n : (r.0 ∷ r.1 ∷ []) ≡ (card ∷ column ∷ []) = sym (place_named r.0 r.1 r.2) ∙ e in
        told_by_lem r.2 (ap (λ l. get_or l 0 0) n) (ap (λ l. get_or l 1 0) n)
    | no o ↦ absurd (omega (arith, ap (λ l. get_or l 0 0) (sym e ∙ no_place_exactly.1 o)))
  ]
    where
      told_by_lem : {c d : ℕ} → Only h class key c d → c ≡ card → d ≡ column → Only h class key card column
      told_by_lem {c} {d} o p q = rw (← p, ← q) o
