-- A number is decided by its spelling: it reads as itself, so two spellings are equal only of one number, and columns hold
-- some number's spelling exactly if they are the spelling of what stands there.
use Prim.Native.Nat.{ℕ, zero, suc, ◌+◌, ◌-◌, ◌%◌, ◌^◌, ◌≤◌, ◌<◌}
use native.Mathlib.Nat.{mod-eq_of_lt, zero-add, zero-mul}
use native.Mathlib.Omega.{arith}
use mathlib.Core.Path.{◌≡◌, refl, sym, ap, ◌∙◌}
use mathlib.Core.List.{List}
use lib.ListN.{length, replicate, length-append, length-replicate}
use Rattle.base_digits.specs.digits.Digits.{digits, size}
use Rattle.base_digits.specs.digits.Figures.{value_from}
use Rattle.base_digits.proofs.digits.Numbers.{digits_value, size_le, size_enough}
use Rattle.base_digits.proofs.digits.Walk.{value_append}
use Rattle.base_digits.proofs.digits.Spell.{digits-length}
use Rattle.volume_form.specs.Spelled.{spelled, standing}

blank_value : (k : ℕ) → value_from 0 (replicate k 32) ≡ 0
unfolding value_from
blank_value zero = refl
blank_value (suc k) = blank_value k

-- what was spelled reads as itself
pub standing-spelled : (w n : ℕ) → n < 10 ^ 20 → standing (spelled w n) ≡ n
unfolding standing spelled
standing-spelled w n h =
    value_append 0 (replicate (w - size n) 32) (digits (size n) n)
    ∙ ap (λ m. value_from m (digits (size n) n)) (blank_value (w - size n))
    ∙ digits_value 0 (size n) n
    ∙ ap (λ m. m + n % 10 ^ size n) (zero-mul (10 ^ size n))
    ∙ zero-add (n % 10 ^ size n)
    ∙ mod-eq_of_lt (size_enough 20 n h)

-- so a spelling is of one number only
pub spelled-once : (w m n : ℕ) → m < 10 ^ 20 → n < 10 ^ 20 → spelled w m ≡ spelled w n → m ≡ n
spelled-once w m n h k e = sym (standing-spelled w m h) ∙ ap standing e ∙ standing-spelled w n k

-- and columns that are a number's spelling are that of what stands there
pub spelled-standing : (w n : ℕ) (s : List ℕ) → n < 10 ^ 20 → s ≡ spelled w n → s ≡ spelled w (standing s)
spelled-standing w n s h e = e ∙ ap (spelled w) (sym (ap standing e ∙ standing-spelled w n h))

-- it takes its columns and no more
pub length-spelled : (w n : ℕ) → 1 ≤ w → n < 10 ^ w → length (spelled w n) ≡ w
unfolding spelled
length-spelled w n o h =
    let s : size n ≤ w = size_le 20 n w h o in
    rw (length-append, length-replicate, digits-length) (omega arith)
