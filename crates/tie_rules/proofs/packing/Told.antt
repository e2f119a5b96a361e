-- Packed keys tell their class and their key: two that are equal and not 0 are of one key.
use Prim.Native.Nat.{ℕ, ◌+◌, ◌*◌, ◌≤◌, ◌<◌}
use native.Mathlib.Decide.{ℕ_discrete}
use native.Mathlib.Omega.{arith}
use mathlib.Core.Path.{◌≡◌, refl, sym, ap, ap₂, subst, ◌∙◌}
use mathlib.Core.List.{List, [], ◌∷◌}
use mathlib.Core.Bool.{Bool, true, false}
use lib.Dec.{eqb, leb, ltb}
use lib.ListN.{length}
use borrow.Author.Tests.{eq-eqb, ne_eqb, leb-true, ltb-true}
use Rattle.base_digits.proofs.digits.Bools.{and_left, and_right}
use Rattle.value_text.specs.text.Texts.{text_end, printable}
use Rattle.tie_rules.specs.Offered.{is_whole, whole_fits, pair_fits, text_fits, borne}
use Rattle.tie_rules.specs.packed.Numbers.{bits_of, within, room, packed}
use Rattle.tie_rules.proofs.packing.Bits.{bits_below, bits_tell}
use Rattle.tie_rules.proofs.packing.Steps.{whole-class}

-- a key that a card can bear is not 0, and one that none can is
pub borne-packed : (class : ℕ) (key : List ℕ) → borne class key ≡ true → packed class key ≡ class * room + within class key
unfolding packed
borne-packed class key h = rw h

pub unborne_packed : (class : ℕ) (key : List ℕ) → borne class key ≡ false → packed class key ≡ 0
unfolding packed
unborne_packed class key h = rw h

pub some-borne : (class : ℕ) (key : List ℕ) → 0 < packed class key → borne class key ≡ true
some-borne class key h = go (borne class key) refl
  where
    go : (b : Bool) → borne class key ≡ b → b ≡ true
    go true e = refl
    go false e = absurd (omega (arith, unborne_packed class key e))

-- a text that a card can bear
pub record Text (t : List ℕ) : Type 0 where
  pub short : length t ≤ 8
  pub printed : printable t ≡ true

pub text-borne : (t : List ℕ) → text_fits t ≡ true → Text t
unfolding text_fits
text-borne t h =
    let rest = and_right (leb 1 (length t)) _ h in
    record {
      short = leb-true (length t) 8 (and_left _ _ rest);
      printed = and_right (eqb (text_end t) (length t)) _ (and_right (leb (length t) 8) _ rest);
    }

-- which class of key is borne, and how
pub data Borne (class : ℕ) (key : List ℕ) : Type 0 where
  a_text : class ≡ 4 → Text key → within class key ≡ bits_of key → Borne class key
  a_pair : (a b : ℕ) → class ≡ 7 → key ≡ a ∷ b ∷ [] → a < 10 → b < 1000 → within class key ≡ a * 1000 + b → Borne class key
  a_whole : (n : ℕ) → is_whole class ≡ true → key ≡ n ∷ [] → n < 10000 → within class key ≡ n → Borne class key

pub borne_as : (class : ℕ) (key : List ℕ) → borne class key ≡ true → Borne class key
unfolding borne within pair_fits whole_fits
borne_as class key h = elim (ℕ_discrete class 4) [
  | yes q ↦ a_text q (text-borne key (rw (eq-eqb class 4 q) at h)) (rw (eq-eqb class 4 q))
  | no q ↦ elim (ℕ_discrete class 7) [
    | yes p ↦ pairs key p (rw (ne_eqb class 4 q, eq-eqb class 7 p) at h)
    | no p ↦
        let w = rw (ne_eqb class 4 q, ne_eqb class 7 p) at h in
        wholes key q p (and_left (is_whole class) _ w) (and_right (is_whole class) _ w)
  ]
]
  where
    pairs : (k : List ℕ) → class ≡ 7 → pair_fits k ≡ true → Borne class k
    pairs [] p e = let x : ◌≡◌ {A = ℕ} 0 1 = cc in absurd (omega arith)
    pairs (a ∷ []) p e = let x : ◌≡◌ {A = ℕ} 0 1 = cc in absurd (omega arith)
    pairs (a ∷ b ∷ []) p e =
        a_pair a b p refl (ltb-true a 10 (and_left _ _ e)) (ltb-true b 1000 (and_right (ltb a 10) _ e)) (rw p)
    pairs (a ∷ b ∷ m ∷ ns) p e = let x : ◌≡◌ {A = ℕ} 0 1 = cc in absurd (omega arith)

    wholes : (k : List ℕ) → (class ≡ 4 → ⊥) → (class ≡ 7 → ⊥) → is_whole class ≡ true → whole_fits k ≡ true → Borne class k
    wholes [] q p w e = let x : ◌≡◌ {A = ℕ} 0 1 = cc in absurd (omega arith)
    wholes (n ∷ []) q p w e = a_whole n w refl (ltb-true n 10000 e) (rw (ne_eqb class 4 q, ne_eqb class 7 p))
    wholes (n ∷ m ∷ ns) q p w e = let x : ◌≡◌ {A = ℕ} 0 1 = cc in absurd (omega arith)

-- its number leaves the class alone, and no class is 0
pub within-room : (class : ℕ) (key : List ℕ) → Borne class key → (within class key < room) × (1 ≤ class)
within-room class key (a_text q t e) = (omega (arith, bits_below 8 key t.short t.printed), omega arith)
within-room class key (a_pair a b q k l m e) = (omega arith, omega arith)
within-room class key (a_whole n w k l e) = (omega arith, (whole-class class w).some)

-- in one class it tells the key
within_tells : (class : ℕ) (j k : List ℕ) → Borne class j → Borne class k → within class j ≡ within class k → j ≡ k
within_tells class j k (a_text q t e) (a_text p u f) h = bits_tell j k t.printed u.printed (sym e ∙ h ∙ f)
within_tells class j k (a_text q t e) (a_pair a b p i l m f) h = absurd (omega arith)
within_tells class j k (a_text q t e) (a_whole n w i l f) h = absurd ((whole-class class w).no_text q)
within_tells class j k (a_pair a b q i l m e) (a_text p u f) h = absurd (omega arith)
within_tells class j k (a_pair a b q i l m e) (a_pair x y p o v z f) h =
    i ∙ ap₂ (λ (r s : ℕ). r ∷ s ∷ []) (omega arith) (omega arith) ∙ sym o
within_tells class j k (a_pair a b q i l m e) (a_whole n w o v f) h = absurd ((whole-class class w).no_pair q)
within_tells class j k (a_whole n w i l e) (a_text p u f) h = absurd ((whole-class class w).no_text p)
within_tells class j k (a_whole n w i l e) (a_pair x y p o v z f) h = absurd ((whole-class class w).no_pair p)
within_tells class j k (a_whole n w i l e) (a_whole m x o v f) h = i ∙ ap (λ r. r ∷ []) (sym e ∙ h ∙ f) ∙ sym o

-- equal numbers that are not 0 are of one class and one key
pub record Same (c : ℕ) (a : List ℕ) (d : ℕ) (b : List ℕ) : Type 0 where
  pub class : c ≡ d
  pub key : a ≡ b

pub packed_tells : (c : ℕ) (a : List ℕ) (d : ℕ) (b : List ℕ) → 0 < packed c a → packed c a ≡ packed d b → Same c a d b
packed_tells c a d b z e =
    let p = some-borne c a z in
    let q = some-borne d b (omega arith) in
    let x = borne_as c a p in
    let y = borne_as d b q in
    let one : c ≡ d = omega (
      arith,
      borne-packed c a p,
      borne-packed d b q,
      (within-room c a x).0,
      (within-room d b y).0,
    ) in
    let also : Borne c b = subst (λ (k : ℕ). Borne k b) (sym one) y in
    record {
      class = one;
      key = within_tells c a b x also (omega (arith, borne-packed c a p, borne-packed d b q, ap (λ (k : ℕ). within k b) one));
    }

-- a key that a card can bear is not 0
pub borne-some : (class : ℕ) (key : List ℕ) → borne class key ≡ true → 0 < packed class key
borne-some class key h =
    let r = within-room class key (borne_as class key h) in
    omega (arith, borne-packed class key h, r.1)
