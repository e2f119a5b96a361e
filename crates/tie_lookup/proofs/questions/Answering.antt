-- The answer to a question, step by step as it is found.
use Prim.Native.Nat.{ℕ, ◌+◌, ◌/◌, ◌%◌, ◌≤◌}
use native.Mathlib.Omega.{arith}
use mathlib.Core.Path.{◌≡◌, sym, ap, ◌∙◌}
use mathlib.Core.Bool.{Bool, true, false}
use mathlib.Core.List.{List}
use lib.ListN.{get_or}
use borrow.Author.Tests.{eq-eqb, ne_eqb}
use Rattle.base_lists.specs.Count.{first}
use Rattle.base_refusal.specs.declared.Refusal.{Refusal}
use Rattle.base_refusal.specs.Refusals.{refusal, no_refusal}
use Rattle.header_check.specs.Refusing.{refusal_of}
use Rattle.tie_rules.specs.packed.Numbers.{packed}
use Rattle.tie_rules.specs.Definitions.{places, column_of, defined_at, definitions_of, place_of}
use Rattle.header_laws.proofs.Accepted.{printed}
use Rattle.tie_lookup.specs.declared.search.Found.{Found}
use Rattle.tie_lookup.specs.packed.Borne.{only_of, found_of, found_over}
use Rattle.tie_lookup.proofs.search.OnlyOne.{only-first}
use Rattle.tie_lookup.proofs.search.Defined.{definitions_counted, only_defined}
use Rattle.tie_lookup.specs.declared.questions.Key.{Key}
use Rattle.tie_lookup.specs.declared.questions.Defined.TheVariants.{None, Only, Several}
use Rattle.tie_lookup.specs.questions.Questions.{is_class, key_offered, defined_by, answer_by, key_answer}
use Rattle.std.specs.Prelude.{Ok, Err}

-- the numbers of what was found
abbrev number_of : Found → ℕ
number_of f = f.number

abbrev only_of_lem : Found → ℕ
only_of_lem f = f.only

-- what a number of definitions says
module _ (n : ℕ) (at : List ℕ) where
  pub by_none : n ≡ 0 → defined_by n at ≡ (Ok None)
  unfolding defined_by
  by_none z = rw (eq-eqb n 0 z)

  pub by_one : n ≡ 1 → defined_by n at ≡ Ok (Only (get_or at 0 0) (get_or at 1 0))
  unfolding defined_by
  by_one o = rw o

  pub by_several : 2 ≤ n → defined_by n at ≡ Ok (Several n)
  unfolding defined_by
  by_several l = rw (ne_eqb n 0 (λ e. omega arith), ne_eqb n 1 (λ e. omega arith))

module _ (h : List ℕ) (class : ℕ) (key : Key) (text : List ℕ) where
  abbrev offered : List ℕ
  offered = key_offered class key text

  -- a header that was refused
  pub told-refused : (r : Refusal) → refusal_of h ≡ Err r → Err r ≡ key_answer h class key text
  unfolding key_answer answer_by
  told-refused r e = rw e

  module _ (accepted : refusal_of h ≡ no_refusal) (t : Bool) (is : t ≡ is_class class) where
    -- a class that there is not
    pub told_no_class : t ≡ false → (r : Refusal) → r ≡ refusal 13 0 0 → Err r ≡ key_answer h class key text
    unfolding key_answer answer_by
    told_no_class e r q = rw (accepted, ← is, e, q)

    -- a class that there is
    module _ (there : t ≡ true) (k : ℕ) (packed-as : k ≡ packed class offered) (found : Found) (seen : found ≡ found_over h k) where
      times : found.number ≡ definitions_of h class offered
      unfolding found_over found_of
      times = ap number_of seen ∙ sym (definitions_counted h (printed h accepted) class offered k packed-as)

      place : found.only ≡ only_of (defined_at h class offered) (places h)
      unfolding found_over found_of
      place = ap only_of_lem seen ∙ sym (only_defined h (printed h accepted) class offered k packed-as)

      told : defined_by (definitions_of h class offered) (place_of h class offered) ≡ key_answer h class key text
      unfolding key_answer answer_by
      told = rw (accepted, ← is, there)

      pub told_none : found.number ≡ 0 → (Ok None) ≡ key_answer h class key text
      told_none z = sym (by_none (definitions_of h class offered) _ (sym times ∙ z)) ∙ told

      -- the place of the only one, counted from 1
      only_one : found.number ≡ 1 → found.only ≡ first (defined_at h class offered) (places h) + 1
      unfolding definitions_of
      only_one o = place ∙ only-first (defined_at h class offered) (places h) (sym times ∙ o)

      pub some-place : found.number ≡ 1 → 1 ≤ found.only
      some-place o = omega (arith, only_one o)

      pub told-only : found.number ≡ 1 → (p : ℕ) → p + 1 ≡ found.only → Ok (Only (p / 80 + 1) (p % 80 + 1)) ≡ key_answer h class key text
      unfolding place_of column_of
      told-only o p e =
          let f : p ≡ first (defined_at h class offered) (places h) = omega (arith, only_one o) in
          let one = sym times ∙ o in
          rw (f, ← told, by_one (definitions_of h class offered) (place_of h class offered) one, eq-eqb (definitions_of h class offered) 1 one)

      pub told_several : (found.number ≡ 0 → ⊥) → (found.number ≡ 1 → ⊥) → Ok (Several found.number) ≡ key_answer h class key text
      told_several some other =
          ap (λ (n : ℕ). Ok (Several n)) times ∙ sym (by_several (definitions_of h class offered) _ (omega (arith, times, some, other))) ∙ told
