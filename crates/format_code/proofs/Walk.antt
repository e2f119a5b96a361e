-- The walk over the patterns: the first that fits is the one that the spec names.
use mathlib.Core.Path.{◌≡◌, refl, sym, ◌∙◌, ap, subst}
use mathlib.Core.Bool.{true, false, cond}
use mathlib.Core.List.{List, [], ◌∷◌}
use Prim.Native.Nat.{ℕ, ◌+◌, ◌<◌, ◌≤◌}
use native.Mathlib.Numerals.{add-one}
use native.Mathlib.Omega.{arith}
use borrow.Author.Tests.{ne_eqb, lt-ltb, le-ltb}
use lib.Dec.{eqb}
use lib.ListN.{length, get_or, drop, drop_of_length-le}
use lib.Seq.{drop-cons}
use Rattle.format_code.specs.declared.Code.TheVariants.{Read, Passed, Unknown}
use Rattle.format_layout.specs.Table.{layouts, passed_codes}
use Rattle.format_code.specs.Codes.{fits, codes, place_in, code_at, code_of}
use Rattle.format_layout.specs.packed.Rows.{layout_count}
use Rattle.format_code.specs.Codes.{passed_count, pattern_count}
use Rattle.format_code.proofs.Places.{codes-count, behind}
use Rattle.format_layout.proofs.Places.{layouts-count}

-- the walk

step : (ps : List (List ℕ)) (k : ℕ) (s : List ℕ) → k < length ps
    → place_in (drop k ps) s ≡ cond (fits (get_or ps k []) s) 0 (1 + place_in (drop (k + 1) ps) s)
unfolding place_in
step ps k s h = rw (add-one, drop-cons ps k [])

pub hit : (ps : List (List ℕ)) (k : ℕ) (s : List ℕ) → k < length ps → fits (get_or ps k []) s ≡ true
    → place_in ps s ≡ k + place_in (drop k ps) s → place_in ps s ≡ k
hit ps k s h f e =
    let z : place_in (drop k ps) s ≡ 0 = step ps k s h ∙ rw f in
    omega arith

pub on : (ps : List (List ℕ)) (k : ℕ) (s : List ℕ) → k < length ps → fits (get_or ps k []) s ≡ false
    → place_in ps s ≡ k + place_in (drop k ps) s → place_in ps s ≡ k + 1 + place_in (drop (k + 1) ps) s
on ps k s h f e =
    let z : place_in (drop k ps) s ≡ 1 + place_in (drop (k + 1) ps) s = step ps k s h ∙ rw f in
    omega arith

pub over : (ps : List (List ℕ)) (k : ℕ) (s : List ℕ) → length ps ≤ k → place_in ps s ≡ k + place_in (drop k ps) s → place_in ps s ≡ k
unfolding place_in
over ps k s h e =
    let z : place_in (drop k ps) s ≡ 0 = rw (drop_of_length-le ps h) in
    omega arith

-- from the pattern's number to what the code is

pub is_read_lem : (s : List ℕ) (n : ℕ) → n ≡ place_in codes s → n < layout_count → Read n ≡ code_of s
unfolding code_of code_at
is_read_lem s n e h = rw (← e, lt-ltb n (length layouts) (omega (arith, layouts-count)))

pub is-passed : (s : List ℕ) (n : ℕ) → n ≡ place_in codes s → layout_count ≤ n → n < pattern_count → Passed ≡ code_of s
unfolding code_of code_at
is-passed s n e h g =
    rw (← e, le-ltb n (length layouts) (omega (arith, layouts-count)), lt-ltb n (length codes) (omega (arith, codes-count)))

pub is-unknown : (s : List ℕ) (n : ℕ) → n ≡ place_in codes s → pattern_count ≤ n → Unknown ≡ code_of s
unfolding code_of code_at
is-unknown s n e h =
    rw (← e, le-ltb n (length layouts) (omega (arith, layouts-count)), le-ltb n (length codes) (omega (arith, codes-count)))

-- a code that no layout reads, by the walk over the passed codes

module _ (s : List ℕ) (n : ℕ) (e : place_in passed_codes s ≡ n) where
  pub end_passed : n < passed_count → Passed ≡ code_at (layout_count + place_in passed_codes s)
  unfolding code_at
  end_passed h =
      rw (e, le-ltb (layout_count + n) (length layouts) (omega (arith, layouts-count)), lt-ltb (layout_count + n) (length codes) (omega (arith, codes-count)))

  pub end_unknown : passed_count ≤ n → Unknown ≡ code_at (layout_count + place_in passed_codes s)
  unfolding code_at
  end_unknown h =
      rw (e, le-ltb (layout_count + n) (length layouts) (omega (arith, layouts-count)), le-ltb (layout_count + n) (length codes) (omega (arith, codes-count)))

pub unread : (s : List ℕ) (n : ℕ) → n ≡ layout_count → place_in codes s ≡ n + place_in (drop n codes) s
    → code_at (layout_count + place_in passed_codes s) ≡ code_of s
unfolding code_of
unread s n q e =
    let f : place_in codes s ≡ layout_count + place_in (drop layout_count codes) s =
    subst (λ (m : ℕ). place_in codes s ≡ m + place_in (drop m codes) s) q e in
    ap code_at (sym (f ∙ ap (λ (l : List (List ℕ)). layout_count + place_in l s) behind))

none-fits : (ps : List (List ℕ)) (s : List ℕ) → eqb (length s) 5 ≡ false → place_in ps s ≡ length ps
unfolding place_in fits
none-fits [] s h = refl
none-fits (p ∷ ps) s h = rw h (omega (arith, none-fits ps s h))

pub wrong_length : (s : List ℕ) → (length s ≡ 5 → ⊥) → Unknown ≡ code_of s
wrong_length s h =
    is-unknown s (length codes) (sym (none-fits codes s (ne_eqb (length s) 5 h))) (omega (arith, codes-count))
