-- A text of which the machine is sure: its first column is filled, or it is blank and need not be there.
use Prim.Native.Nat.{ℕ}
use mathlib.Core.Path.{◌≡◌, refl, sym, ◌∙◌}
use mathlib.Core.List.{List, [], ◌∷◌}
use mathlib.Core.Bool.{Bool, true, false, cond, ◌&&◌, true≢false}
use lib.Dec.{T, eqb, eqb-suc-zero}
use lib.ListN.{length, replicate}
use borrow.Author.Tests.{eq-eqb, ne_eqb}
use Rattle.value_text.specs.text.Texts.{text_end, leading_blank}
use Rattle.value_field.specs.spelling.Reading.{text_reading}
use Rattle.format_layout.specs.declared.Range.{Range}
use Rattle.card_screen.specs.Machine.{class_of, ends, first_by, later_by, step_by, step, runs}
use Rattle.card_screen.proofs.Steps.{unsure_never, blank_class, afresh}
use Rattle.card_screen.proofs.Whole.{fault_of}

line_blank : (t : List ℕ) → T (ends (runs (replicate (length t) 3) t 0)) → text_end t ≡ 0
unfolding runs step step_by later_by text_end
line_blank [] h = refl
line_blank (b ∷ t) h = go (eqb (class_of b) 0) refl (line_blank t) h
  where
    go : (v : Bool) → eqb (class_of b) 0 ≡ v → (T (ends (runs (replicate (length t) 3) t 0)) → text_end t ≡ 0)
        → T (ends (runs (replicate (length t) 3) t (cond v 0 56))) → text_end (b ∷ t) ≡ 0
    go true e on k = rw (on k, eq-eqb b 32 (blank_class b e))
    go false e on k = absurd (unsure_never (replicate (length t) 3) t k)

-- a text that begins in its first column
blank_is : (b : ℕ) → b ≡ 32 → eqb (class_of b) 0 ≡ true
unfolding class_of
blank_is b q = rw q refl

begins-there : (needed : Bool) (r : Range) (b : ℕ) (t : List ℕ) → eqb (class_of b) 0 ≡ false → fault_of needed r (text_reading false (b ∷ t)) ≡ 0
unfolding text_reading text_end leading_blank
begins-there needed r b t e =
    rw (ne_eqb b 32 (λ q. true≢false (sym (blank_is b q) ∙ e)), never (eqb (text_end t) 0), eqb-suc-zero (text_end t)) refl
  where
    never : (v : Bool) → (v && false) ≡ false
    never true = refl
    never false = refl

absent : (r : Range) (lead : Bool) (s : List ℕ) → text_end s ≡ 0 → fault_of false r (text_reading lead s) ≡ 0
unfolding text_reading
absent r lead s e = rw e refl

pub text_good : (r : Range) (b : ℕ) (t : List ℕ) (q : ℕ) → T (ends (runs (1 ∷ replicate (length t) 3) (b ∷ t) q))
    → T (ends q) × (fault_of false r (text_reading false (b ∷ t)) ≡ 0)
unfolding runs step step_by first_by text_end
text_good r b t q h =
    let m = afresh 1 (replicate (length t) 3) b t q refl h in
    (m.0, go (eqb (class_of b) 0) refl m.1)
  where
    go : (v : Bool) → eqb (class_of b) 0 ≡ v → T (ends (runs (replicate (length t) 3) t (cond v 0 24))) → fault_of false r (text_reading false (b ∷ t)) ≡ 0
    go true e k = absent r false (b ∷ t) (rw (line_blank t k, eq-eqb b 32 (blank_class b e)))
    go false e k = begins-there false r b t e

pub needed_good : (r : Range) (b : ℕ) (t : List ℕ) (q : ℕ) → T (ends (runs (2 ∷ replicate (length t) 3) (b ∷ t) q))
    → T (ends q) × (fault_of true r (text_reading false (b ∷ t)) ≡ 0)
unfolding runs step step_by first_by
needed_good r b t q h =
    let m = afresh 2 (replicate (length t) 3) b t q refl h in
    (m.0, go (eqb (class_of b) 0) refl m.1)
  where
    go : (v : Bool) → eqb (class_of b) 0 ≡ v → T (ends (runs (replicate (length t) 3) t (cond v 56 24))) → fault_of true r (text_reading false (b ∷ t)) ≡ 0
    go true e k = absurd (unsure_never (replicate (length t) 3) t k)
    go false e k = begins-there true r b t e
