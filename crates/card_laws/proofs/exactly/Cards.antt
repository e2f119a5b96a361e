-- Opening a card and judging one are refused exactly as their tables say.
use Prim.Native.Nat.{ℕ, zero, suc, ◌+◌, ◌≤◌}
use native.Mathlib.Omega.{arith}
use native.Mathlib.Numerals.{add-one}
use native.Mathlib.Decide.{ℕ_discrete}
use mathlib.Core.Path.{◌≡◌, refl, sym, ap, ap₂, ◌∙◌}
use mathlib.Core.List.{List}
use mathlib.Core.Logic.{◌↔◌}
use mathlib.Core.Bool.{Bool, true, false, cond, not}
use lib.ListN.{length, take}
use lib.Dec.{eqb, ltb}
use borrow.Author.Tests.{eq-eqb, ne_eqb, eqb-true}
use Rattle.value_text.specs.text.Texts.{printable}
use Rattle.value_field.proofs.spelling.Absence.{zero_one}
use Rattle.format_code.specs.declared.Code.{Code}
use Rattle.format_code.specs.declared.Code.TheVariants as code
use Rattle.format_code.specs.Codes.{code_of}
use Rattle.base_refusal.specs.declared.Refusal.{Refusal}
use Rattle.base_refusal.specs.Refusals.{refusal, no_refusal}
use Rattle.value_text.specs.printable.Bytes.{first_bad}
use Rattle.format_layout.specs.declared.Form.{Form}
use Rattle.card_put.specs.opening.Opening.{code_answer, opened_of}
use Rattle.card_check.specs.Judging.{offence_at, verdict_from, code_verdict, verdict_of}
use Rattle.card_check.proofs.Leftmost.{decides, passes, ends}
use Rattle.card_laws.specs.exactly.Rows.{given, Exactly}
use Rattle.card_laws.specs.exactly.Words.{is_unknown, is_read}
use Rattle.card_laws.specs.exactly.Tables.{column_rows, columns_from, open_rows, judge_rows, in_opening, card_of, in_verdict}
use Rattle.card_laws.proofs.exactly.Given.{or_else, given-append, exactly}
use Rattle.card_laws.proofs.exactly.Columns.{marked, column_rows_lem, not-read}
use Rattle.card_laws.proofs.exactly.Way.{bad-byte}
use Rattle.std.specs.Prelude.{Result, Ok, Err, ⊤, Option, None, Some}
use Rattle.card_check.specs.declared.Offence.{Offence}
use Rattle.card_check.specs.Verdicts.{offending}

-- opening a card

open_code : (c : Code) → in_opening (code_answer c) ≡ cond (is_unknown c) (Some (refusal 5 1 1)) None
unfolding code_answer
open_code code.Unknown = refl
open_code code.Passed = refl
open_code (code.Read k) = refl

-- the refusal in the answer to opening is the first that its table gives
pub opening_given : (text : List ℕ) (size : ℕ) → in_opening (opened_of text size) ≡ given (open_rows text size)
unfolding opened_of open_rows given
opening_given text size = go (eqb size 0) (eqb size 80)
  where
    go : (a b : Bool)
        → in_opening (cond a (Err (refusal 1 0 0))
        (cond (not b) (Err (refusal 2 0 0)) (code_answer (code_of text))))
        ≡ cond a (Some (refusal 1 0 0))
        (cond (not b) (Some (refusal 2 0 0)) (cond (is_unknown (code_of text)) (Some (refusal 5 1 1)) None))
    go true b = refl
    go false false = refl
    go false true = open_code (code_of text)

refused_as : (a : Result ⊤ Refusal) (r : Refusal) → (a ≡ Err r) ↔ (in_opening a ≡ Some r)
refused_as (Ok _) r = (λ e. absurd (zero_one cc), λ e. absurd (zero_one cc))
refused_as (Err q) r = (λ e. ap in_opening e, λ e. let x : q ≡ r = cc in ap Err x)

done_as : (a : Result ⊤ Refusal) → (a ≡ no_refusal) ↔ (in_opening a ≡ None)
done_as (Ok _) = (λ e. refl, λ e. refl)
done_as (Err q) = (λ e. absurd (zero_one cc), λ e. absurd (zero_one cc))

-- opening a card of so many bytes with a code
pub opening_exactly : (text : List ℕ) (size : ℕ)
    → Exactly (open_rows text size) (λ r. opened_of text size ≡ Err r) (opened_of text size ≡ no_refusal)
opening_exactly text size =
    let a = opened_of text size in
    exactly (open_rows text size) (in_opening a) (opening_given text size) (refused_as a) (done_as a)

-- judging a card

-- a passed or unknown code has no row for its columns
no_columns : (s : List ℕ) (form : Form) → is_read (code_of (take 5 s)) ≡ false → (m c : ℕ) → given (columns_from form s m c) ≡ None
unfolding columns_from given
no_columns s form h zero c = refl
no_columns s form h (suc m) c =
    given-append (column_rows form s c) (columns_from form s m (suc c))
    ∙ ap (λ o. or_else o (given (columns_from form s m (suc c)))) (not-read s form c h)
    ∙ no_columns s form h m (suc c)

-- the leftmost column with an offence is the first of the columns' rows
columns-given : (s : List ℕ) (form : Form) (k : ℕ) → code_of (take 5 s) ≡ code.Read k → (m c : ℕ) → 6 ≤ c → c + m ≡ 81
    → in_verdict (verdict_from (offence_at k form s) c) ≡ given (columns_from form s m c)
unfolding columns_from given
columns-given s form k q zero c l h =
    let e : c ≡ 81 = omega arith in
    ap (λ j. in_verdict (verdict_from (offence_at k form s) j)) e ∙ ap in_verdict (ends (offence_at k form s))
columns-given s form k q (suc m) c l h =
    first_of (offence_at k form s) (given (columns_from form s m (suc c))) c l (omega arith)
    (columns-given s form k q m (suc c) (omega arith) (omega arith))
    ∙ ap (λ o. or_else o (given (columns_from form s m (suc c)))) (sym (column_rows_lem s form k q c))
    ∙ sym (given-append (column_rows form s c) (columns_from form s m (suc c)))
  where
    placed : (n c : ℕ) → 6 ≤ c → in_verdict (Err (offending n c)) ≡ Some (refusal n 1 c)
    placed n zero a = absurd (omega arith)
    placed n (suc c) a = refl

    first_of : (offence : ℕ → ℕ) (o : Option Refusal) (c : ℕ) → 6 ≤ c → c ≤ 80 → in_verdict (verdict_from offence (suc c)) ≡ o
        → in_verdict (verdict_from offence c) ≡ or_else (marked (offence c) c) o
    first_of offence o c a b e = elim (ℕ_discrete (offence c) 0) [
      | yes z ↦ ap in_verdict (passes offence c b z) ∙ e ∙ rw (eq-eqb (offence c) 0 z)
      | no z ↦ ap in_verdict (decides offence c b z) ∙ placed (offence c) c a ∙ rw (ne_eqb (offence c) 0 z)
    ]

code-given : (s : List ℕ) (form : Form) (c : Code) → code_of (take 5 s) ≡ c
    → in_verdict (code_verdict c form s) ≡ cond (is_unknown c) (Some (refusal 5 1 1)) (given (columns_from form s 75 6))
unfolding code_verdict
code-given s form code.Unknown q = refl
code-given s form code.Passed q = sym (no_columns s form (ap is_read q) 75 6)
code-given s form (code.Read k) q = columns-given s form k q 75 6 (omega arith) refl

-- the refusal in a verdict is the first that the card's table gives
pub verdict_given : (s : List ℕ) (form : Form) → in_verdict (verdict_of s form) ≡ given (judge_rows s form)
unfolding verdict_of judge_rows given
verdict_given s form = none (eqb (length s) 0)
  where
    bytes : (p : Bool)
        → in_verdict (cond (not p) (Err (offending 4 (first_bad s + 1))) (code_verdict (code_of (take 5 s)) form s))
        ≡ cond (not p) (Some (refusal 4 1 (first_bad s + 1))) (cond (is_unknown (code_of (take 5 s))) (Some (refusal 5 1 1))
        (given (columns_from form s 75 6)))
    bytes true = code-given s form (code_of (take 5 s)) refl
    bytes false = rw (add-one (first_bad s))

    go : (b : Bool) → eqb (length s) 80 ≡ b
        → in_verdict (cond (not b) (Err (offending 2 0))
        (cond (ltb (first_bad s) 80) (Err (offending 4 (first_bad s + 1))) (code_verdict (code_of (take 5 s)) form s)))
        ≡ cond (not b) (Some (refusal 2 0 0))
        (cond (not (printable s)) (Some (refusal 4 1 (first_bad s + 1)))
        (cond (is_unknown (code_of (take 5 s))) (Some (refusal 5 1 1))
        (given (columns_from form s 75 6))))
    go false q = refl
    go true q = rw (bad-byte s (eqb-true (length s) 80 q)) (bytes (printable s))

    none : (b : Bool)
        → in_verdict (cond b (Err (offending 1 0)) (cond (not (eqb (length s) 80)) (Err (offending 2 0))
        (cond (ltb (first_bad s) 80) (Err (offending 4 (first_bad s + 1))) (code_verdict (code_of (take 5 s)) form s))))
        ≡ cond b (Some (refusal 1 0 0)) (cond (not (eqb (length s) 80)) (Some (refusal 2 0 0))
        (cond (not (printable s)) (Some (refusal 4 1 (first_bad s + 1)))
        (cond (is_unknown (code_of (take 5 s))) (Some (refusal 5 1 1))
        (given (columns_from form s 75 6)))))
    none true = refl
    none false = go (eqb (length s) 80) refl

offence_as : (v : Result ⊤ Offence) (r : Refusal)
    → ((v ≡ Err (offending r.number r.column)) × (r.card ≡ card_of r.column)) ↔ (in_verdict v ≡ Some r)
offence_as (Ok _) r = (λ e. absurd (zero_one cc), λ e. absurd (zero_one cc))
offence_as (Err o) r = (λ e. there o.number o.column e.0 e.1, λ e. back o.number o.column e)
  where
    there : (n c : ℕ) → ◌≡◌ {A = Result ⊤ Offence} (Err (offending n c)) (Err (offending r.number r.column)) → r.card ≡ card_of r.column
        → in_verdict (Err (offending n c)) ≡ Some r
    there n c e k = ap in_verdict e ∙ ap (λ x. Some (refusal r.number x r.column)) (sym k)

    back : (n c : ℕ) → in_verdict (Err (offending n c)) ≡ Some r → (◌≡◌ {A = Result ⊤ Offence} (Err (offending n c)) (Err (offending r.number r.column))) × (r.card ≡ card_of r.column)
    back n c e =
        let q : refusal n (card_of c) c ≡ r = cc in
        let x : n ≡ r.number = ap (λ (x : Refusal). x.number) q in
        let y : c ≡ r.column = ap (λ (x : Refusal). x.column) q in
        (ap₂ (λ m d. Err (offending m d)) x y, sym (ap (λ (x : Refusal). x.card) q) ∙ ap card_of y)

fine_as : (v : Result ⊤ Offence) → (v ≡ no_refusal) ↔ (in_verdict v ≡ None)
fine_as (Ok _) = (λ e. refl, λ e. refl)
fine_as (Err o) = (λ e. absurd (zero_one cc), λ e. absurd (zero_one cc))

-- judging a card by itself
pub verdict_exactly : (s : List ℕ) (form : Form)
    → Exactly (judge_rows s form)
    (λ r. (verdict_of s form ≡ Err (offending r.number r.column)) × (r.card ≡ card_of r.column))
    (verdict_of s form ≡ no_refusal)
verdict_exactly s form =
    let v = verdict_of s form in
    exactly (judge_rows s form) (in_verdict v) (verdict_given s form) (offence_as v) (fine_as v)
