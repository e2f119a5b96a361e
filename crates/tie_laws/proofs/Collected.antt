-- The definitions of a header collected once: how often a key is defined is how often it is among them.
use Prim.Native.Nat.{ℕ}
use mathlib.Core.Path.{◌≡◌, refl, sym, ap, ◌∙◌}
use mathlib.Core.Bool.{Bool, true, false, ◌&&◌}
use mathlib.Core.List.{List, [], ◌∷◌, map}
use lib.Dec.{eqb}
use lib.ListN.{length, length-map}
use Rattle.base_lists.specs.Count.{count}
use Rattle.base_lists.specs.Parts.{alike, keep, kept, up_to}
use Rattle.base_lists.proofs.Counting.{count_same}
use Rattle.base_lists.proofs.Keeping.{kept_map, length-kept}
use Rattle.tie_rules.specs.Ties.{defines}
use Rattle.tie_rules.specs.Keys.{class_at, key_at, holds_key, defines_key, vessel_of, contradict}
use Rattle.tie_rules.specs.Definitions.{places, card_of, column_of, defined_at, definitions_of, contradictions_of}

-- a definition: class, key, and the vessel digit of its card
pub record Definition : Type 0 where
  pub class : ℕ
  pub key : List ℕ
  pub vessel : ℕ

abbrev pub definition_on : List ℕ → ℕ → Definition
definition_on s column = record { class = class_at defines s column; key = key_at defines s column; vessel = vessel_of s }

-- all of a header, in the order of their places
unfoldable pub collected : List ℕ → List Definition
collected h =
    map (λ p. definition_on (card_of h p) (column_of p)) (kept (λ p. holds_key defines (card_of h p) (column_of p)) (up_to (places h)))

-- one of them defines the key of a class
unfoldable pub is_of : ℕ → List ℕ → Definition → Bool
is_of class key d = eqb d.class class && alike d.key key

kept-both {ℓ} : {A : Type ℓ} (p q : A → Bool) (l : List A) → kept q (kept p l) ≡ kept (λ a. p a && q a) l
unfolding kept
kept-both p q [] = refl
kept-both p q (x ∷ l) = go (p x) (kept-both p q l)
  where
    go : (b : Bool) → kept q (kept p l) ≡ kept (λ a. p a && q a) l
        → kept q (keep b x (kept p l)) ≡ keep (b && q x) x (kept (λ a. p a && q a) l)
    go true ih = ap (keep (q x) x) ih
    go false ih = ih

-- those that pass a test
among : (h : List ℕ) (q : Definition → Bool)
    → length (kept q (collected h))
    ≡ count (λ p. holds_key defines (card_of h p) (column_of p) && q (definition_on (card_of h p) (column_of p))) (places h)
unfolding collected
among h q =
    let at : ℕ → Definition = λ p. definition_on (card_of h p) (column_of p) in
    let holds : ℕ → Bool = λ p. holds_key defines (card_of h p) (column_of p) in
    ap length (kept_map at q (kept holds (up_to (places h))))
    ∙ length-map (kept (λ p. q (at p)) (kept holds (up_to (places h)))) at
    ∙ ap length (kept-both holds (λ p. q (at p)) (up_to (places h)))
    ∙ length-kept (λ p. holds p && q (at p)) (places h)

-- the number of a key's definitions
pub definitions_collected : (h : List ℕ) (class : ℕ) (key : List ℕ)
    → definitions_of h class key ≡ length (kept (is_of class key) (collected h))
unfolding definitions_of defined_at defines_key is_of
definitions_collected h class key = sym (among h (is_of class key))

-- the number of those on cards with another vessel digit
pub contradictions_collected : (h : List ℕ) (class : ℕ) (key : List ℕ) (vessel : ℕ)
    → contradictions_of h class key vessel
    ≡ length (kept (λ d. is_of class key d && contradict vessel d.vessel) (collected h))
unfolding contradictions_of defined_at defines_key is_of
contradictions_collected h class key vessel =
    count_same _ _ (places h) (λ p l. regrouped (holds_key defines (card_of h p) (column_of p)) _ _)
    ∙ sym (among h (λ d. is_of class key d && contradict vessel d.vessel))
  where
    regrouped : (a b c : Bool) → ((a && b) && c) ≡ (a && (b && c))
    regrouped true b c = refl
    regrouped false b c = refl

-- with all of them at hand, those of a key are counted among them
module _ (h : List ℕ) (defined : List Definition) (all : collected h ≡ defined) where
  pub times_among : (class : ℕ) (key : List ℕ) → definitions_of h class key ≡ length (kept (is_of class key) defined)
  times_among class key = definitions_collected h class key ∙ ap (λ l. length (kept (is_of class key) l)) all

  pub against_among : (class : ℕ) (key : List ℕ) (vessel : ℕ)
      → contradictions_of h class key vessel ≡ length (kept (λ d. is_of class key d && contradict vessel d.vessel) defined)
  against_among class key vessel =
      contradictions_collected h class key vessel
      ∙ ap (λ l. length (kept (λ d. is_of class key d && contradict vessel d.vessel) l)) all
