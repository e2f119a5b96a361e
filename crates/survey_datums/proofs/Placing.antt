-- Numbers of datums, and numbers that stand in columns.
use Prim.Native.Nat.{ℕ, suc, ◌+◌, ◌-◌}
use native.Mathlib.Omega.{arith}
use mathlib.Core.Path.{◌≡◌, refl, sym, ap, ◌∙◌}
use mathlib.Core.List.{List, [], ◌∷◌}
use lib.ListN.{get_or}
use Rattle.header_check.specs.Refusing.{refusal_of}
use Rattle.header_laws.proofs.Accepted.{printed}
use Rattle.tie_rules.specs.packed.Numbers.{packed}
use Rattle.tie_rules.specs.packed.Rows.{marked}
use Rattle.tie_rules.specs.Offered.{whole_offered, is_whole}
use Rattle.tie_lookup.specs.declared.search.Found.{Found}
use Rattle.tie_lookup.specs.packed.Borne.{found_of, found_over}
use Rattle.tie_lookup.proofs.search.Defined.{definitions_counted}
use Rattle.survey_datums.specs.Datums.{times_defined}
use Rattle.base_refusal.specs.Refusals.{no_refusal}

-- a number that was counted from 1
unmarked : (l : List ℕ) → marked l - 1 ≡ get_or l 0 0
unfolding marked
unmarked [] = refl
unmarked (n ∷ ns) = let e : suc n - 1 ≡ n = omega arith in e

pub the_number : (l : List ℕ) (m : ℕ) → m ≡ marked l → m - 1 ≡ get_or l 0 0
the_number l m e = ap (λ k. k - 1) e ∙ unmarked l

-- how often a datum is found to be defined
abbrev times : Found → ℕ
times f = f.number

pub found_times : (h : List ℕ) → refusal_of h ≡ no_refusal → (a k : ℕ) → k ≡ packed 1 (whole_offered 1 ((a + 1) ∷ []))
    → (f : Found) → f ≡ found_over h k → f.number ≡ times_defined h a
unfolding found_over found_of times_defined whole_offered is_whole
found_times h accepted a k e f q =
    ap times q ∙ sym (definitions_counted h (printed h accepted) 1 ((a + 1) ∷ []) k e)
