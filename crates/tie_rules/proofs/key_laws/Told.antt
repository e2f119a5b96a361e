-- What the numbers of the keys on a printable card tell: whether there is a key, and whether it is a given one.
use Prim.Native.Nat.{ℕ, ◌+◌, ◌*◌, ◌<◌}
use native.Mathlib.Omega.{arith}
use native.Mathlib.Decide.{ℕ_discrete, dec_lt}
use mathlib.Core.Path.{◌≡◌, refl, sym, ap, ap₂, ◌∙◌}
use mathlib.Core.List.{List, [], ◌∷◌}
use mathlib.Core.Bool.{Bool, true, false, ◌&&◌, not}
use lib.Dec.{eqb, leb, ltb}
use lib.ListN.{take}
use borrow.Author.Tests.{eq-eqb, ne_eqb, eqb-true, lt-ltb, le-ltb, ltb-true, le-leb, lt-leb}
use Rattle.base_digits.proofs.digits.Bools.{and_left, and_right, and_both}
use Rattle.base_lists.specs.Parts.{alike}
use Rattle.base_lists.proofs.Comparing.{alike_equal, equal_alike}
use Rattle.value_text.specs.text.Texts.{printable}
use Rattle.header_check.specs.forms.Cards.{layout_of}
use Rattle.tie_rules.specs.packed.Numbers.{room, within, packed}
use Rattle.tie_rules.specs.Offered.{borne}
use Rattle.tie_rules.proofs.packing.Steps.{none-packed, whole-class}
use Rattle.tie_rules.proofs.packing.Told.{Borne, a_text, a_pair, a_whole, borne_as, borne-packed, within-room, borne-some, packed_tells}
use Rattle.tie_rules.specs.Ties.{Role, defines}
use Rattle.tie_rules.specs.Keys.{is_none, class_at, key_at, holds_key, defines_key, vessel_of}
use Rattle.tie_rules.specs.packed.Rows.{packed_by, vessel_by}
use Rattle.tie_rules.proofs.key_laws.Found.{stands, found_stands}

-- a key that stands has a number, and no key has none
pub some_number : (c : ℕ) (a : List ℕ) → stands c a ≡ true → not (is_none a) ≡ ltb 0 (packed c a)
unfolding stands is_none
some_number c [] h = rw (none-packed c)
some_number c (n ∷ ns) h = sym (lt-ltb 0 (packed c (n ∷ ns)) (borne-some c (n ∷ ns) h))

-- two keys are one where their numbers are equal and not 0
module _ (c : ℕ) (a : List ℕ) (d : ℕ) (b : List ℕ) (h : stands c a ≡ true) where
  equal : 0 < packed c a → packed c a ≡ packed d b → (eqb c d && alike a b) ≡ true
  equal z e =
      let same = packed_tells c a d b z e in
      and_both (eqb c d) (alike a b) (eq-eqb c d same.class) (equal_alike a b same.key)

  other : (packed c a ≡ packed d b → ⊥) → (t : Bool) → (eqb c d && alike a b) ≡ t → t ≡ false
  other no-match true e =
      let q : c ≡ d = eqb-true c d (and_left (eqb c d) (alike a b) e) in
      let k : a ≡ b = alike_equal a b (and_right (eqb c d) (alike a b) e) in
      absurd (no-match (ap₂ packed q k))
  other no-match false e = refl

  pub one_key : (not (is_none a) && (eqb c d && alike a b)) ≡ (ltb 0 (packed c a) && eqb (packed c a) (packed d b))
  one_key = ap (λ t. t && (eqb c d && alike a b)) (some_number c a h) ∙ go (ltb 0 (packed c a)) refl
    where
      go : (t : Bool) → ltb 0 (packed c a) ≡ t → (t && (eqb c d && alike a b)) ≡ (t && eqb (packed c a) (packed d b))
      go false e = refl
      go true e = elim (ℕ_discrete (packed c a) (packed d b)) [
        | yes q ↦ equal (ltb-true 0 (packed c a) e) q ∙ sym (eq-eqb (packed c a) (packed d b) q)
        | no q ↦ other q (eqb c d && alike a b) refl ∙ sym (ne_eqb (packed c a) (packed d b) q)
      ]

-- a key is of a waypoint of a vessel where its number lies among the thousand of that vessel
abbrev pub of_vessel : ℕ → ℕ → Bool
of_vessel v n = leb (7 * room + v * 1000) n && ltb n (7 * room + v * 1000 + 1000)

module _ (c : ℕ) (a : List ℕ) (h : borne c a ≡ true) (v : ℕ) (l : v < 10) where
  is : packed c a ≡ c * room + within c a
  is = borne-packed c a h

  low : within c a < room
  low = (within-room c a (borne_as c a h)).0

  another : (c ≡ 7 → ⊥) → (eqb c 7 && alike (take 1 a) (v ∷ [])) ≡ of_vessel v (packed c a)
  another q = rw (ne_eqb c 7 q) (elim (dec_lt c 7) [
    | yes m ↦ rw (lt-leb (7 * room + v * 1000) (packed c a) (omega (arith, is, low)))
    | no m ↦ rw (
      le-leb (7 * room + v * 1000) (packed c a) (omega (arith, is, low)),
      le-ltb (packed c a) (7 * room + v * 1000 + 1000) (omega (arith, is, low)),
    )
  ])

  pair_told : Borne c a → c ≡ 7 → (eqb c 7 && alike (take 1 a) (v ∷ [])) ≡ of_vessel v (packed c a)
  unfolding alike
  pair_told (a_text q t e) p = absurd (omega arith)
  pair_told (a_whole n w k m e) p = absurd ((whole-class c w).no_pair p)
  pair_told (a_pair x y q k m j e) p =
      let n : packed c a ≡ 7 * room + (x * 1000 + y) = omega (arith, is) in
      rw (eq-eqb c 7 p, n, k) (elim (dec_lt x v) [
        | yes u ↦
            let d : x ≡ v → ⊥ = λ r. omega arith in
            rw (ne_eqb x v d, lt-leb (7 * room + v * 1000) (7 * room + (x * 1000 + y)) (omega arith))
        | no u ↦ elim (ℕ_discrete x v) [
          | yes r ↦ rw (
            eq-eqb x v r,
            le-leb (7 * room + v * 1000) (7 * room + (x * 1000 + y)) (omega arith),
            lt-ltb (7 * room + (x * 1000 + y)) (7 * room + v * 1000 + 1000) (omega arith),
          )
          | no r ↦ rw (
            ne_eqb x v r,
            le-leb (7 * room + v * 1000) (7 * room + (x * 1000 + y)) (omega arith),
            le-ltb (7 * room + (x * 1000 + y)) (7 * room + v * 1000 + 1000) (omega arith),
          )
        ]
      ])

pub vessel_told_lem : (c : ℕ) (a : List ℕ) → stands c a ≡ true → (v : ℕ) → v < 10
    → (not (is_none a) && (eqb c 7 && alike (take 1 a) (v ∷ []))) ≡ of_vessel v (packed c a)
unfolding stands is_none
vessel_told_lem c [] h v l = rw (none-packed c, lt-leb (7 * room + v * 1000) 0 (omega arith))
vessel_told_lem c (n ∷ ns) h v l = elim (ℕ_discrete c 7) [
  | yes q ↦ pair_told c (n ∷ ns) h v l (borne_as c (n ∷ ns) h) q
  | no q ↦ another c (n ∷ ns) h v l q
]

-- on a printable card, by the layout that reads it
pub packed_at : (r : Role) (s : List ℕ) (column : ℕ)
    → packed_by r (layout_of s) s column ≡ packed (class_at r s column) (key_at r s column)
unfolding packed_by class_at key_at
packed_at r s column = refl

pub vessel_at : (s : List ℕ) → vessel_by (layout_of s) s ≡ vessel_of s
unfolding vessel_by vessel_of
vessel_at s = refl

module _ (s : List ℕ) (column : ℕ) (p : printable s ≡ true) where
  -- a column defines a key, or refers to one, where its number is not 0
  pub holds-packed : (r : Role) → holds_key r s column ≡ ltb 0 (packed_by r (layout_of s) s column)
  unfolding holds_key
  holds-packed r =
      some_number (class_at r s column) (key_at r s column) (found_stands r s column p) ∙ ap (ltb 0) (sym (packed_at r s column))

  -- and it defines a key where its number is that key's, and not 0
  pub defines-packed : (class : ℕ) (key : List ℕ) → defines_key s class key column
      ≡ (ltb 0 (packed_by defines (layout_of s) s column) && eqb (packed_by defines (layout_of s) s column) (packed class key))
  unfolding defines_key holds_key
  defines-packed class key =
      one_key (class_at defines s column) (key_at defines s column) class key (found_stands defines s column p)
      ∙ ap (λ n. ltb 0 n && eqb n (packed class key)) (sym (packed_at defines s column))
