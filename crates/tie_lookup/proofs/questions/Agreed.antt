-- The answer to a question: which refusal comes first, what each answer says of the definitions, and that it agrees with the list
-- of faults.
use Prim.Native.Nat.{ℕ, ◌+◌, ◌-◌, ◌≤◌, ◌<◌}
use native.Mathlib.Decide.{ℕ_discrete}
use native.Mathlib.Omega.{arith}
use mathlib.Core.Path.{◌≡◌, sym, ap, ◌∙◌}
use mathlib.Core.Logic.{◌↔◌}
use mathlib.Core.Bool.{true, false, not, true≢false}
use mathlib.Core.List.{List, [], ◌∷◌}
use lib.Dec.{eqb}
use lib.ListN.{get_or}
use borrow.Author.Tests.{eqb-true}
use Rattle.base_lists.specs.Parts.{alike}
use Rattle.base_lists.proofs.Comparing.{alike_equal}
use Rattle.base_refusal.specs.declared.Refusal.{Refusal}
use Rattle.base_refusal.specs.Refusals.{refusal, no_refusal}
use Rattle.header_check.specs.Refusing.{refusal_of}
use Rattle.header_check.specs.forms.Cards.{card_at, cards_in}
use Rattle.tie_rules.specs.packed.Numbers.{packed}
use Rattle.tie_rules.specs.Offered.{borne}
use Rattle.tie_rules.proofs.packing.Steps.{none-packed}
use Rattle.tie_rules.proofs.packing.Told.{unborne_packed}
use Rattle.tie_rules.specs.Ties.{Role, defines, refers}
use Rattle.tie_rules.specs.Keys.{is_none, class_at, key_at, holds_key, defines_key}
use Rattle.tie_rules.proofs.key_laws.Found.{stands, found_stands}
use Rattle.tie_rules.specs.Definitions.{definitions_of, place_of}
use Rattle.tie_rules.specs.Faults.{broken}
use Rattle.tie_laws.proofs.Tests.{both}
use Rattle.tie_laws.proofs.Places as places
use Rattle.tie_laws.proofs.Places.{Defines, one_exactly, place_named}
use Rattle.tie_laws.proofs.Questions.{undefined_exactly, ambiguous_exactly, redefined_exactly, settled_exactly, place_of_definition}
use Rattle.header_laws.proofs.Accepted.{printed}
use Rattle.tie_lookup.proofs.search.Defined.{definitions_counted, none-counted}
use Rattle.tie_lookup.specs.declared.questions.Key.{Key}
use Rattle.tie_lookup.specs.declared.questions.Defined.{Defined}
use Rattle.tie_lookup.specs.declared.questions.Defined.TheVariants.{None, Only, Several}
use Rattle.tie_lookup.specs.questions.Questions.{is_class, key_offered, defined_by, answer_by, key_answer, offer_of, asked_at}
use Rattle.tie_lookup.proofs.questions.Answering.{by_none, by_one, by_several}
use Rattle.tie_lookup.proofs.questions.Offered.{offered_back, class-there}
use Rattle.std.specs.Prelude.{Result, Ok, Err}

-- which answer it is, and the numbers in it
abbrev case : Result Defined Refusal → ℕ
case (Ok None) = 0
case (Ok (Only c i)) = 1
case (Ok (Several n)) = 2
case (Err r) = 3

abbrev many : Result Defined Refusal → ℕ
many (Ok None) = 0
many (Ok (Only c i)) = 1
many (Ok (Several n)) = n
many (Err r) = 0

abbrev card : Result Defined Refusal → ℕ
card (Ok None) = 0
card (Ok (Only c i)) = c
card (Ok (Several n)) = 0
card (Err r) = 0

abbrev column : Result Defined Refusal → ℕ
column (Ok None) = 0
column (Ok (Only c i)) = i
column (Ok (Several n)) = 0
column (Err r) = 0

-- what the answer says of a key's definitions
module _ (h : List ℕ) (class : ℕ) (key : List ℕ) (d : Result Defined Refusal) (is : d ≡ defined_by (definitions_of h class key) (place_of h class key)) where
  abbrev number : ℕ
  number = definitions_of h class key

  none_is : number ≡ 0 → d ≡ (Ok None)
  none_is z = is ∙ by_none number (place_of h class key) z

  one_is : number ≡ 1 → d ≡ Ok (Only (get_or (place_of h class key) 0 0) (get_or (place_of h class key) 1 0))
  one_is o = is ∙ by_one number (place_of h class key) o

  several_is : 2 ≤ number → d ≡ Ok (Several number)
  several_is l = is ∙ by_several number (place_of h class key) l

  says_none : (d ≡ (Ok None)) ↔ (number ≡ 0)
  says_none = (
    λ e. elim (ℕ_discrete number 0) [
      | yes z ↦ z
      | no z ↦ elim (ℕ_discrete number 1) [
        | yes o ↦ absurd (omega (arith, ap case (sym (one_is o) ∙ e)))
        | no o ↦ absurd (omega (arith, ap case (sym (several_is (omega arith)) ∙ e)))
      ]
    ],
    none_is,
  )

  says_several : (n : ℕ) → (d ≡ Ok (Several n)) ↔ ((2 ≤ n) × (number ≡ n))
  says_several n = (
    λ e. elim (ℕ_discrete number 0) [
      | yes z ↦ absurd (omega (arith, ap case (sym (none_is z) ∙ e)))
      | no z ↦ elim (ℕ_discrete number 1) [
        | yes o ↦ absurd (omega (arith, ap case (sym (one_is o) ∙ e)))
        | no o ↦
            let q : number ≡ n = ap many (sym (several_is (omega arith)) ∙ e) in
            (omega arith, q)
      ]
    ],
    λ e. several_is (omega (arith, e.0, e.1)) ∙ ap (λ (m : ℕ). Ok (Several m)) e.1,
  )

  says-only : (c i : ℕ) → (d ≡ Ok (Only c i)) ↔ places.Only h class key c i
  says-only c i = (there, named c i)
    where
      named : (c i : ℕ) → places.Only h class key c i → d ≡ Ok (Only c i)
      named c i o = one_is ((one_exactly h class key).1 (c, i, o)) ∙ ap (λ l. Ok (Only (get_or l 0 0) (get_or l 1 0))) (place_named h class key c i o)

      moved : {a b : ℕ} → places.Only h class key a b → a ≡ c → b ≡ i → places.Only h class key c i
      moved o p q = rw (← p, ← q) o

      there : d ≡ Ok (Only c i) → places.Only h class key c i
      there e = elim (ℕ_discrete number 1) [
        | yes o ↦
            let r = (one_exactly h class key).0 o in
            let q = sym (named r.0 r.1 r.2) ∙ e in
            moved r.2 (ap card q) (ap column q)
        | no o ↦ elim (ℕ_discrete number 0) [
          | yes z ↦ absurd (omega (arith, ap case (sym (none_is z) ∙ e)))
          | no z ↦ absurd (omega (arith, ap case (sym (several_is (omega arith)) ∙ e)))
        ]
      ]

-- where a key has several definitions, kind 2 stands at each
pub each_listed : (h : List ℕ) (class : ℕ) (key : List ℕ) → 2 ≤ definitions_of h class key
    → (c i : ℕ) → Defines h class key c i → broken h (c - 1) i 2 ≡ true
unfolding defines_key
each_listed h class key several c i x =
    let s = card_at h (c - 1) in
    let w = (both (holds_key defines s i) _).0 x.defines_it in
    let v = (both (eqb (class_at defines s i) class) (alike (key_at defines s i) key)).0 w.1 in
    let a = eqb-true (class_at defines s i) class v.0 in
    let k = alike_equal (key_at defines s i) key v.1 in
    (redefined_exactly h (c - 1) i).1 (w.0, rw (a, k) several)

module _ (h : List ℕ) (class : ℕ) (key : Key) (text : List ℕ) where
  -- the header's refusal comes first
  pub refused-first : (r : Refusal) → refusal_of h ≡ Err r → key_answer h class key text ≡ Err r
  unfolding key_answer answer_by
  refused-first r e = rw e

  module _ (accepted : refusal_of h ≡ no_refusal) where
    -- then 13 for a class that there is not
    pub no_class : is_class class ≡ false → key_answer h class key text ≡ Err (refusal 13 0 0)
    unfolding key_answer answer_by
    no_class e = rw (accepted, e)

    module _ (there : is_class class ≡ true) where
      abbrev offered : List ℕ
      offered = key_offered class key text

      -- then what the definitions are
      pub answer_is : key_answer h class key text ≡ defined_by (definitions_of h class offered) (place_of h class offered)
      unfolding key_answer answer_by
      answer_is = rw (accepted, there)

      -- none where there is none, the place of the only one, the number of several
      pub none_exactly : (key_answer h class key text ≡ (Ok None)) ↔ (definitions_of h class offered ≡ 0)
      none_exactly = says_none h class offered _ answer_is

      pub only_exactly : (c i : ℕ) → (key_answer h class key text ≡ Ok (Only c i)) ↔ places.Only h class offered c i
      only_exactly = says-only h class offered _ answer_is

      pub several_exactly : (n : ℕ) → (key_answer h class key text ≡ Ok (Several n)) ↔ ((2 ≤ n) × (definitions_of h class offered ≡ n))
      several_exactly = says_several h class offered _ answer_is

      -- a key that no card can bear has none
      unpacked : packed class offered ≡ 0 → key_answer h class key text ≡ (Ok None)
      unpacked e = none_exactly.1 (definitions_counted h (printed h accepted) class offered 0 (sym e) ∙ none-counted h)

      pub never_borne : borne class offered ≡ false → key_answer h class key text ≡ (Ok None)
      never_borne e = unpacked (unborne_packed class offered e)

      pub no_key : offered ≡ [] → key_answer h class key text ≡ (Ok None)
      no_key e = unpacked (ap (packed class) e ∙ none-packed class)

-- the key that a column of a card, counted from 0, refers to or defines, asked for
module _ (h : List ℕ) (accepted : refusal_of h ≡ no_refusal) (c i : ℕ) (there : c < cards_in h) where
  abbrev class_of : Role → ℕ
  class_of r = class_at r (card_at h c) i

  abbrev key_of : Role → List ℕ
  key_of r = key_at r (card_at h c) i

  abbrev pub asked : Role → Result Defined Refusal
  asked r = asked_at h c i r

  is-borne : (r : Role) → holds_key r (card_at h c) i ≡ true → borne (class_of r) (key_of r) ≡ true
  unfolding holds_key stands is_none
  is-borne r held = go (key_of r) held (found_stands r (card_at h c) i (printed h accepted c there))
    where
      go : (k : List ℕ) → not (is_none k) ≡ true → stands (class_of r) k ≡ true → borne (class_of r) k ≡ true
      go [] e s = absurd (true≢false (sym e))
      go (n ∷ ns) e s = s

  module _ (r : Role) (held : holds_key r (card_at h c) i ≡ true) where
    -- what is told is what the definitions are
    pub asked_is : asked r ≡ defined_by (definitions_of h (class_of r) (key_of r)) (place_of h (class_of r) (key_of r))
    asked_is =
        let b = is-borne r held in
        answer_is h (class_of r) (offer_of (class_of r) (key_of r)) (key_of r) accepted (class-there (class_of r) (key_of r) b)
        ∙ ap (λ k. defined_by (definitions_of h (class_of r) k) (place_of h (class_of r) k)) (offered_back (class_of r) (key_of r) b)

    -- `Only` tells the place of the key's only definition
    pub only_asked : (x y : ℕ) → (asked r ≡ Ok (Only x y)) ↔ places.Only h (class_of r) (key_of r) x y
    only_asked = says-only h (class_of r) (key_of r) (asked r) asked_is

    -- `Several` tells how many definitions there are, and kind 2 stands at each
    pub several_asked : (n : ℕ) → asked r ≡ Ok (Several n)
        → (definitions_of h (class_of r) (key_of r) ≡ n)
        × ((x y : ℕ) → Defines h (class_of r) (key_of r) x y → broken h (x - 1) y 2 ≡ true)
    several_asked n e =
        let w = (says_several h (class_of r) (key_of r) (asked r) asked_is n).0 e in
        (w.1, each_listed h (class_of r) (key_of r) (omega (arith, w.0, w.1)))

    several_told : (2 ≤ definitions_of h (class_of r) (key_of r)) ↔ ((n : ℕ) × (asked r ≡ Ok (Several n)))
    several_told = (
      λ l. (definitions_of h (class_of r) (key_of r), several_is h (class_of r) (key_of r) (asked r) asked_is l),
      λ e. let w = (says_several h (class_of r) (key_of r) (asked r) asked_is e.0).0 e.1 in omega (arith, w.0, w.1),
    )

  -- at a reference: `None` exactly where kind 1 stands there, `Several` where kind 3 does, `Only` where neither does
  module _ (held : holds_key refers (card_at h c) i ≡ true) where
    pub undefined_asked : (broken h c i 1 ≡ true) ↔ (asked refers ≡ (Ok None))
    undefined_asked =
        let w = undefined_exactly h c i in
        let q = says_none h (class_of refers) (key_of refers) (asked refers) (asked_is refers held) in
        (λ e. q.1 (w.0 e).1, λ e. w.1 (held, q.0 e))

    pub ambiguous_asked : (broken h c i 3 ≡ true) ↔ ((n : ℕ) × (asked refers ≡ Ok (Several n)))
    ambiguous_asked =
        let w = ambiguous_exactly h c i in
        let q = several_told refers held in
        (λ e. q.0 (w.0 e).1, λ e. w.1 (held, q.1 e))

    pub settled_asked : ((broken h c i 1 ≡ false) × (broken h c i 3 ≡ false)) ↔ ((x : ℕ) × (y : ℕ) × (asked refers ≡ Ok (Only x y)))
    settled_asked =
        let w = settled_exactly h c i held in
        let o = one_exactly h (class_of refers) (key_of refers) in (
          λ e. let r = o.0 (w.0 e) in (r.0, r.1, (only_asked refers held r.0 r.1).1 r.2),
          λ e. w.1 (o.1 (e.0, e.1, (only_asked refers held e.0 e.1).0 e.2)),
        )

  -- at a definition: `Several` exactly where kind 2 stands there, `Only` with its own place where it does not
  module _ (held : holds_key defines (card_at h c) i ≡ true) where
    pub redefined_asked : (broken h c i 2 ≡ true) ↔ ((n : ℕ) × (asked defines ≡ Ok (Several n)))
    redefined_asked =
        let w = redefined_exactly h c i in
        let q = several_told defines held in
        (λ e. q.0 (w.0 e).1, λ e. w.1 (held, q.1 e))

    pub here_asked : 1 ≤ i → i ≤ 80 → (broken h c i 2 ≡ false) ↔ (asked defines ≡ Ok (Only (c + 1) i))
    here_asked a b =
        let w = place_of_definition h c i there a b held in
        let q = only_asked defines held (c + 1) i in (
          λ e. q.1 (places.place-only h (class_of defines) (key_of defines) (c + 1) i (omega arith) (w.0 e)),
          λ e. w.1 (place_named h (class_of defines) (key_of defines) (c + 1) i (q.0 e)),
        )
