-- Sixteen columns, one after the other.
use Prim.Native.Nat.{ℕ, ◌+◌, ◌/◌, ◌%◌, ◌^◌}
use mathlib.Core.Path.{◌≡◌, refl, ◌∙◌}
use mathlib.Core.List.{List}
use native.Mathlib.Numerals.{add-one}
use native.Mathlib.Nat.{zero-add, pow-suc, div-div-eq-div-mul}
use lib.ListN.{get_or}
use Rattle.card_screen.specs.Machine.{step, run_to}

pub roles_more : (roles rest i : ℕ) → rest ≡ roles / 16 ^ i → rest / 16 ≡ roles / 16 ^ (i + 1)
roles_more roles rest i e = rw (e, add-one i, pow-suc 16 i) (div-div-eq-div-mul roles (16 ^ i) 16)

pub run_none : (s : List ℕ) (from roles q : ℕ) → q ≡ run_to s from roles q 0
unfolding run_to
run_none s from roles q = refl

pub run_more : (s : List ℕ) (roles q rest i p r : ℕ) → rest ≡ roles / 16 ^ i → p ≡ run_to s 0 roles q i
    → r ≡ step (rest % 16) (get_or s i 0) p → r ≡ run_to s 0 roles q (i + 1)
unfolding run_to
run_more s roles q rest i p r e f g = g ∙ rw (e, f, add-one i, zero-add i)
