-- Which keys can be offered: every one that stands on a card, and none of another kind than its class.
use Prim.Native.Nat.{ℕ}
use native.Mathlib.Omega.{arith}
use mathlib.Core.Path.{◌≡◌, refl, sym, ap, ◌∙◌}
use mathlib.Core.Bool.{Bool, true, false, cond}
use mathlib.Core.List.{List, [], ◌∷◌}
use lib.Dec.{eqb, leb}
use lib.IntN.{ℤ, pos, negsuc}
use lib.ListN.{length}
use lib.Seq.{take_all}
use borrow.Author.Tests.{ne_eqb, eqb-true, le-leb}
use Rattle.base_digits.proofs.digits.Bools.{and_left, and_right, and_both}
use Rattle.value_text.specs.text.Texts.{text_end, text_of, printable}
use Rattle.tie_rules.specs.Offered.{is_whole, text_fits, borne, natural, whole_offered, pair_offered, text_offered}
use Rattle.tie_rules.proofs.packing.Steps.{whole-class}
use Rattle.tie_rules.proofs.packing.Told.{Borne, a_text, a_pair, a_whole, borne_as}
use Rattle.tie_lookup.specs.declared.questions.Key.TheVariants.{Whole, Pair, Text}
use Rattle.tie_lookup.specs.questions.Questions.{is_class, key_offered, offer_of}

-- a text without blanks behind it is offered as it is
whole-text : (t : List ℕ) → text_fits t ≡ true → text_of t ≡ t
unfolding text_fits text_of
whole-text t h =
    let rest = and_right (leb (length t) 8) _ (and_right (leb 1 (length t)) _ h) in
    let e = eqb-true (text_end t) (length t) (and_left (eqb (text_end t) (length t)) (printable t) rest) in
    take_all (text_end t) t (omega (arith, e))

module _ (class : ℕ) (key : List ℕ) (b : borne class key ≡ true) where
  -- a key that a card can bear can be offered
  pub offered_back : key_offered class (offer_of class key) key ≡ key
  unfolding offer_of key_offered text_offered pair_offered whole_offered natural borne
  offered_back = go (borne_as class key b)
    where
      go : Borne class key → key_offered class (offer_of class key) key ≡ key
      go (a_text q t e) = rw q (whole-text key (ap (λ i. borne i key) (sym q) ∙ b))
      go (a_pair x y q k l m e) = rw (q, k)
      go (a_whole n w k l e) =
          let c = whole-class class w in
          rw (ne_eqb class 4 c.no_text, ne_eqb class 7 c.no_pair, w, k)

  -- and its class is one
  pub class-there : is_class class ≡ true
  unfolding is_class
  class-there = go (borne_as class key b)
    where
      go : Borne class key → is_class class ≡ true
      go (a_text q t e) = rw q
      go (a_pair x y q k l m e) = rw q
      go (a_whole n w k l e) =
          let c = whole-class class w in
          and_both (leb 1 class) (leb class 10) (le-leb 1 class c.some) (le-leb class 10 c.last)

-- a key of another kind than its class, a number below 0 and a blank text are no keys
module _ (class : ℕ) (text : List ℕ) where
  pub no_whole : is_whole class ≡ false → (z : ℤ) → key_offered class (Whole z) text ≡ []
  unfolding key_offered whole_offered
  no_whole e z = rw e

  pub no_pair : (class ≡ 7 → ⊥) → (y z : ℤ) → key_offered class (Pair y z) text ≡ []
  unfolding key_offered pair_offered
  no_pair e y z = go (natural y) (natural z)
    where
      go : (a b : List ℕ) → pair_offered class a b ≡ []
      go [] b = refl
      go (n ∷ ns) [] = refl
      go (n ∷ ns) (m ∷ ms) = rw (ne_eqb class 7 e)

  pub no_text : (class ≡ 4 → ⊥) → key_offered class Text text ≡ []
  unfolding key_offered text_offered
  no_text e = rw (ne_eqb class 4 e)

  either : (t : Bool) → cond {A = List ℕ} t [] [] ≡ []
  either true = refl
  either false = refl

  pub no_minus : (n : ℕ) → key_offered class (Whole (negsuc n)) text ≡ []
  unfolding key_offered whole_offered natural
  no_minus n = either (is_whole class)

  pub no_blank : text_of text ≡ [] → key_offered class Text text ≡ []
  unfolding key_offered text_offered
  no_blank e = rw e (either (eqb class 4))

-- the number 65 and the text A are the same list of numbers, and only one of them is a key of a class
pub number-or-text : (key_offered 4 (Whole (pos 65)) [] ≡ []) × (key_offered 4 Text (65 ∷ []) ≡ 65 ∷ [])
    × (key_offered 3 (Whole (pos 65)) [] ≡ 65 ∷ []) × (key_offered 3 Text (65 ∷ []) ≡ [])
unfolding key_offered whole_offered text_offered natural is_whole text_of text_end
number-or-text = (refl, refl, refl, refl)
