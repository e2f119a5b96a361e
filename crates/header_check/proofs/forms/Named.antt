-- The numbers of layouts that are written out in this code, by the table's codes.
use Prim.Native.Nat.{ℕ, zero, suc, ◌+◌, ◌<◌}
use native.Mathlib.Decide.{dec_lt}
use native.Mathlib.Nat.{not-suc-le-zero}
use native.Mathlib.Omega.{arith}
use mathlib.Core.Path.{◌≡◌, refl, sym, ap, ◌∙◌}
use mathlib.Core.Logic.{◌↔◌}
use mathlib.Core.Bool.{Bool, true, false, cond}
use mathlib.Core.List.{List, [], ◌∷◌, map}
use lib.ListN.{length, get_or, take}
use borrow.Author.Tests.{lt-ltb, le-ltb}
use Rattle.format_code.specs.declared.Code.{Code}
use Rattle.format_code.specs.declared.Code.TheVariants.{Read, Passed, Unknown}
use Rattle.format_layout.specs.Shape.{bytes}
use Rattle.format_layout.specs.Table.{layouts}
use Rattle.format_code.specs.Codes.{fits, codes, place_in, code_at, code_of}
use Rattle.format_layout.specs.Layouts.{layout_at}
use Rattle.format_layout.specs.packed.Rows.{layout_count}
use Rattle.format_code.proofs.Places.{codes-count, code_is}
use Rattle.format_code.proofs.Apart.{read_as}
use Rattle.header_check.specs.forms.Cards.{number_of, layout_of}
use Rattle.format_layout.specs.Names.{H00X8, H00X9, H0100, H0101, H5000}

-- H0000 to H0007, H00@8 and H00@9, whose digit may be 0, H0100 and H0101, and H5000
pub named : map (λ k. (layout_at k).code) (0 ∷ 1 ∷ 2 ∷ 3 ∷ 4 ∷ 5 ∷ 6 ∷ 7 ∷ H00X8 ∷ H00X9 ∷ H0100 ∷ H0101 ∷ H5000 ∷ [])
    ≡ bytes "H0000" ∷ bytes "H0001" ∷ bytes "H0002" ∷ bytes "H0003" ∷ bytes "H0004" ∷ bytes "H0005" ∷ bytes "H0006"
    ∷ bytes "H0007" ∷ bytes "H00#8" ∷ bytes "H00#9" ∷ bytes "H0100" ∷ bytes "H0101" ∷ bytes "H5000" ∷ []
unfolding layout_at layouts
named = refl

-- the pattern that the walk stops at fits
stops_at : (ps : List (List ℕ)) (s : List ℕ) (k : ℕ) → place_in ps s ≡ k → k < length ps → fits (get_or ps k []) s ≡ true
unfolding place_in
stops_at [] s k e h = absurd (not-suc-le-zero h)
stops_at (p ∷ ps) s k e h = go (fits p s) refl (λ j. stops_at ps s j) k e h
  where
    go : (b : Bool) → fits p s ≡ b → ((j : ℕ) → place_in ps s ≡ j → j < length ps → fits (get_or ps j []) s ≡ true)
        → (k : ℕ) → cond (fits p s) 0 (1 + place_in ps s) ≡ k → k < suc (length ps) → fits (get_or (p ∷ ps) k []) s ≡ true
    go true f ih zero e h = f
    go true f ih (suc k) e h = absurd (omega (arith, rw f at e))
    go false f ih zero e h = absurd (omega (arith, rw f at e))
    go false f ih (suc k) e h = ih k (omega (arith, rw f at e)) (omega arith)

read_number : (m n : ℕ) → Read m ≡ Read n → m ≡ n
read_number m n e = cc

not-passed : (n : ℕ) → Passed ≡ Read n → ⊥
not-passed n e = let z : ◌≡◌ {A = ℕ} 0 1 = cc in omega arith

not-unknown : (n : ℕ) → Unknown ≡ Read n → ⊥
not-unknown n e = let z : ◌≡◌ {A = ℕ} 0 1 = cc in omega arith

place_of : (n k : ℕ) → code_at n ≡ Read k → n ≡ k
unfolding code_at
place_of n k e = elim (dec_lt n (length layouts)) [
  | yes l ↦ read_number n k (rw (lt-ltb n (length layouts) l) at e)
  | no l ↦ elim (dec_lt n (length codes)) [
    | yes m ↦ absurd (not-passed k (rw (le-ltb n (length layouts) (omega arith), lt-ltb n (length codes) m) at e))
    | no m ↦ absurd (not-unknown k (rw (le-ltb n (length layouts) (omega arith), le-ltb n (length codes) (omega arith)) at e))
  ]
]

read_by : (c : Code) (k : ℕ) → k < layout_count → number_of c ≡ k → c ≡ Read k
read_by (Read n) k h e = ap Read e
read_by Passed k h e = absurd (omega arith)
read_by Unknown k h e = absurd (omega arith)

-- a card is read by a layout exactly where its code fits the one that the table prints; no layout has the number for none
pub coded_exactly : (s : List ℕ) (k : ℕ) → k < layout_count → (layout_of s ≡ k) ↔ (fits (layout_at k).code (take 5 s) ≡ true)
unfolding layout_of code_of
coded_exactly s k h = (λ e. fitting (read_by (code_of t) k h e), λ f. ap number_of (read_as t k h f))
  where
    t : List ℕ
    t = take 5 s

    fitting : code_of t ≡ Read k → fits (layout_at k).code t ≡ true
    fitting e =
        ap (λ (p : List ℕ). fits p t) (sym (code_is k h))
        ∙ stops_at codes t k (place_of (place_in codes t) k e) (omega (arith, codes-count))
