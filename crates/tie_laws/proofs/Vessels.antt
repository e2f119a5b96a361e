-- The vessel digit in a card's code is a digit; 10 stands for none.
use Prim.Native.Nat.{ℕ, ◌+◌, ◌-◌, ◌≤◌, ◌<◌}
use native.Mathlib.Numerals.{one-add}
use native.Mathlib.Omega.{arith}
use mathlib.Core.Path.{◌≡◌, refl, ap, ◌∙◌, subst}
use mathlib.Core.Bool.{Bool, true, false, cond, not, ◌||◌, false≢true}
use mathlib.Core.List.{List, [], ◌∷◌}
use lib.Dec.{T, leb, leb→le, ltb}
use lib.ListN.{length, get_or, take}
use lib.Seq.{get_or-take}
use borrow.Author.Tests.{ltb-true}
use Rattle.format_layout.specs.Table.{layouts, passed_codes}
use Rattle.format_layout.proofs.Every.{every, at}
use Rattle.format_layout.proofs.Places.{layouts-count}
use Rattle.format_code.specs.declared.Code.TheVariants as code
use Rattle.format_code.specs.Codes.{fits_at, fits, codes, place_in, code_at, code_of}
use Rattle.format_code.proofs.Places.{codes-count}
use Rattle.format_code.proofs.Apart.{most, between, in_each}
use Rattle.header_check.specs.forms.Cards.{byte_in, number_of, layout_of}
use Rattle.tie_rules.specs.Ties.{has_vessel}
use Rattle.tie_rules.specs.Keys.{vessel_of}

-- a code fits the pattern that it is found at
found-fits : (ps : List (List ℕ)) (s : List ℕ) → place_in ps s < length ps → fits (get_or ps (place_in ps s) []) s ≡ true
unfolding place_in
found-fits [] s l = absurd (omega arith)
found-fits (p ∷ ps) s l = go (fits p s) refl l (found-fits ps s)
  where
    go : (b : Bool) → fits p s ≡ b → cond b 0 (1 + place_in ps s) < length (p ∷ ps)
        → (place_in ps s < length ps → fits (get_or ps (place_in ps s) []) s ≡ true)
        → fits (get_or (p ∷ ps) (cond b 0 (1 + place_in ps s)) []) s ≡ true
    go true e k ih = e
    go false e k ih = ap (λ j. fits (get_or (p ∷ ps) j []) s) (one-add (place_in ps s)) ∙ ih (omega (arith, k))

-- a pattern with a vessel takes only digits there
abbrev digit_there : ℕ → List ℕ → Bool
digit_there k p = not (has_vessel k) || leb (most (get_or p 3 0)) 57

all_digits_lem : T (every digit_there 0 codes)
unfolding codes layouts passed_codes has_vessel
all_digits_lem = tt

open_digit : (k b : ℕ) (p : List ℕ) → has_vessel k ≡ true → T (digit_there k p) → b ≤ most (get_or p 3 0) → b ≤ 57
open_digit k b p e t l =
    let u = subst (λ (x : Bool). T (not x || leb (most (get_or p 3 0)) 57)) e t in
    omega (arith, leb→le (most (get_or p 3 0)) 57 u, l)

digit_low : (s : List ℕ) → has_vessel (layout_of s) ≡ true → byte_in s 4 ≤ 57
unfolding layout_of code_of code_at byte_in fits_at has_vessel
digit_low s = go _ (ltb (place_in codes (take 5 s)) (length codes)) refl
  where
    n : ℕ
    n = place_in codes (take 5 s)

    go : (a b : Bool) → ltb n (length layouts) ≡ a
        → has_vessel (number_of (cond a (code.Read n) (cond b code.Passed code.Unknown))) ≡ true → get_or s 3 0 ≤ 57
    go true b q e =
        let l : n < length codes = omega (arith, ltb-true n (length layouts) q, layouts-count, codes-count) in
        let f = (in_each (get_or codes n []) (take 5 s) (found-fits codes (take 5 s) l)).fourth in
        let m = (between (get_or (get_or codes n []) 3 0) (get_or (take 5 s) 3 0) f).1 in
        open_digit n (get_or s 3 0) (get_or codes n []) e (at digit_there [] codes all_digits_lem n l)
        (subst (λ (x : ℕ). x ≤ most (get_or (get_or codes n []) 3 0)) (get_or-take 5 s 3 0 (omega arith)) m)
    go false true q e = absurd (false≢true e)
    go false false q e = absurd (false≢true e)

pub vessel_low : (s : List ℕ) → vessel_of s ≤ 10
unfolding vessel_of
vessel_low s = go (has_vessel (layout_of s)) refl
  where
    go : (b : Bool) → has_vessel (layout_of s) ≡ b → cond b (byte_in s 4 - 48) 10 ≤ 10
    go true e = omega (arith, digit_low s e)
    go false e = omega arith
