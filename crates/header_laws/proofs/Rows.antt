-- The number that a card gets: 4, 5, 6, and then that of the leftmost column with an offence, each where none comes before it.
use Prim.Native.Nat.{ℕ, zero, suc, ◌+◌, ◌-◌, ◌≤◌, ◌<◌}
use native.Mathlib.Nat.{mul_comm}
use native.Mathlib.Decide.{dec_lt}
use native.Mathlib.Omega.{arith}
use mathlib.Core.Path.{◌≡◌, refl, sym, ap, ap₂, ◌∙◌}
use mathlib.Core.Logic.{◌↔◌}
use mathlib.Core.List.{List}
use mathlib.Core.Bool.{Bool, true, false, cond}
use lib.ListN.{length, take}
use borrow.Author.Tests.{lt-ltb, le-ltb}
use Rattle.base_lists.proofs.Parting.{part_length}
use Rattle.format_code.specs.declared.Code.{Code}
use Rattle.format_code.specs.declared.Code.TheVariants as code
use Rattle.format_code.specs.Codes.{code_of}
use Rattle.value_text.specs.printable.Bytes.{first_bad}
use Rattle.format_layout.specs.declared.Form.{Form}
use Rattle.card_check.specs.Judging.{offence_at, verdict_from, code_verdict}
use Rattle.card_check.proofs.Leftmost.{decides, passes, ends, skips}
use Rattle.card_check.proofs.Ways.{verdict_coded}
use Rattle.card_check.proofs.Verdicts.{same_number_lem, same_column, not_fine, First, first-offence, fine_everywhere}
use Rattle.header_check.specs.forms.Cards.{card_at, cards_in}
use Rattle.header_check.specs.forms.Forms.{form_of}
use Rattle.header_check.proofs.forms.Steps.{card_ends}
use Rattle.header_check.specs.Opening.{has_line, stands_at}
use Rattle.header_check.specs.Refusing.{is_unknown, readable, placed_verdict, end_verdict, verdict_at}
use Rattle.std.specs.Prelude.{Err, Result, ⊤}
use Rattle.base_refusal.specs.Refusals.{no_refusal}
use Rattle.card_check.specs.Verdicts.{offending}
use Rattle.card_check.specs.declared.Offence.{Offence}

-- what a card in its place or not is refused for
pub data Row (s : List ℕ) (form : Form) (placed : Bool) : ℕ → ℕ → Type 0 where
  unprintable : first_bad s < 80 → Row s form placed 4 (first_bad s + 1)
  unknown : 80 ≤ first_bad s → code_of (take 5 s) ≡ code.Unknown → Row s form placed 5 1
  misplaced : 80 ≤ first_bad s → (code_of (take 5 s) ≡ code.Unknown → ⊥) → placed ≡ false → Row s form placed 6 1
  column : {k n d : ℕ} → 80 ≤ first_bad s → code_of (take 5 s) ≡ code.Read k → placed ≡ true
      → First (offence_at k form s) 6 n d → Row s form placed n d

-- a card with nothing amiss: printable, with a code that is read or passed, in place, and no offence in any column
pub record Clean (s : List ℕ) (form : Form) (placed : Bool) : Type 0 where
  pub printable : 80 ≤ first_bad s
  pub known : code_of (take 5 s) ≡ code.Unknown → ⊥
  pub stands : placed ≡ true
  pub columns : (k : ℕ) → code_of (take 5 s) ≡ code.Read k → (j : ℕ) → 6 ≤ j → j ≤ 80 → offence_at k form s j ≡ 0

-- the first column with an offence decides
first_decides : (offence : ℕ → ℕ) (m c n d : ℕ) → c + m ≡ d → First offence c n d → verdict_from offence c ≡ Err (offending n d)
first_decides offence zero c n d e f =
    let q : c ≡ d = omega arith in
    decides offence c (omega (arith, f.on_card)) (λ z. f.some (sym f.number ∙ ap offence (sym q) ∙ z))
    ∙ ap₂ (λ (a b : ℕ). Err (offending a b)) (ap offence q ∙ f.number) q
first_decides offence (suc m) c n d e f =
    passes offence c (omega (arith, f.on_card)) (f.none_before c (omega arith) (omega arith))
    ∙ first_decides offence m (suc c) n d (omega arith) (record {
      from = omega arith;
      on_card = f.on_card;
      number = f.number;
      some = f.some;
      none_before = λ j a b. f.none_before j (omega arith) b;
    })

all_pass : (offence : ℕ → ℕ) → ((j : ℕ) → 6 ≤ j → j ≤ 80 → offence j ≡ 0) → verdict_from offence 6 ≡ no_refusal
all_pass offence f = skips offence 75 6 (omega arith) (λ j a b. f j a (omega arith)) ∙ ends offence

-- a code that is not read or passed is no other
known_passed : (k : Code) → k ≡ code.Passed → k ≡ code.Unknown → ⊥
known_passed k p q = let z : ◌≡◌ {A = ℕ} 0 1 = cc in omega arith

known_read : (k : Code) (n : ℕ) → k ≡ code.Read n → k ≡ code.Unknown → ⊥
known_read k n p q = let z : ◌≡◌ {A = ℕ} 0 1 = cc in omega arith

module _ (s : List ℕ) (form : Form) (placed : Bool) (whole : length s ≡ 80) where
  bad_way : first_bad s < 80 → placed_verdict s form placed ≡ Err (offending 4 (first_bad s + 1))
  unfolding placed_verdict readable
  bad_way l = rw (lt-ltb (first_bad s) 80 l)

  code_way : 80 ≤ first_bad s → (k : Code) → code_of (take 5 s) ≡ k
      → placed_verdict s form placed ≡ cond (is_unknown k) (Err (offending 5 1)) (cond placed (code_verdict k form s) (Err (offending 6 1)))
  unfolding placed_verdict readable
  code_way l k e = rw (le-ltb (first_bad s) 80 l, e, verdict_coded s form whole (first_bad s) refl l k e)

  as_row : {a b : ℕ} (n d : ℕ) → ◌≡◌ {A = Result ⊤ Offence} (Err (offending a b)) (Err (offending n d)) → Row s form placed a b → Row s form placed n d
  as_row {a} {b} n d e r =
      let p : a ≡ n = same_number_lem a n b d e in
      let q : b ≡ d = same_column a n b d e in
      rw (← p, ← q) r

  by_code : (n d : ℕ) → 80 ≤ first_bad s → (k : Code) → code_of (take 5 s) ≡ k → (b : Bool) → placed ≡ b
      → cond (is_unknown k) (Err (offending 5 1)) (cond b (code_verdict k form s) (Err (offending 6 1))) ≡ Err (offending n d) → Row s form placed n d
  unfolding code_verdict
  by_code n d l code.Unknown e b p v = as_row n d v (unknown l e)
  by_code n d l code.Passed e true p v = absurd (not_fine n d v)
  by_code n d l code.Passed e false p v = as_row n d v (misplaced l (known_passed (code_of (take 5 s)) e) p)
  by_code n d l (code.Read k) e true p v = column l e p (first-offence (offence_at k form s) 6 n d (omega arith) v)
  by_code n d l (code.Read k) e false p v = as_row n d v (misplaced l (known_read (code_of (take 5 s)) k e) p)

  to_row : (n d : ℕ) → placed_verdict s form placed ≡ Err (offending n d) → Row s form placed n d
  to_row n d v = elim (dec_lt (first_bad s) 80) [
    | yes l ↦ as_row n d (sym (bad_way l) ∙ v) (unprintable l)
    | no l ↦
        let m : 80 ≤ first_bad s = omega arith in
        by_code n d m (code_of (take 5 s)) refl placed refl (sym (code_way m (code_of (take 5 s)) refl) ∙ v)
  ]

  out_of_place : 80 ≤ first_bad s → placed ≡ false → (k : Code) → code_of (take 5 s) ≡ k → (k ≡ code.Unknown → ⊥)
      → placed_verdict s form placed ≡ Err (offending 6 1)
  out_of_place l p code.Unknown e u = absurd (u refl)
  out_of_place l p code.Passed e u = code_way l code.Passed e ∙ rw p
  out_of_place l p (code.Read k) e u = code_way l (code.Read k) e ∙ rw p

  of_row : {n d : ℕ} → Row s form placed n d → placed_verdict s form placed ≡ Err (offending n d)
  unfolding code_verdict
  of_row (unprintable l) = bad_way l
  of_row (unknown l e) = code_way l code.Unknown e
  of_row (misplaced l u p) = out_of_place l p (code_of (take 5 s)) refl u
  of_row (column {k} {n} {d} l e p f) =
      code_way l (code.Read k) e
      ∙ rw p (first_decides (offence_at k form s) (d - 6) 6 n d (omega (arith, f.from)) f)

  by_fine : 80 ≤ first_bad s → (k : Code) → code_of (take 5 s) ≡ k → (b : Bool) → placed ≡ b
      → cond (is_unknown k) (Err (offending 5 1)) (cond b (code_verdict k form s) (Err (offending 6 1))) ≡ no_refusal → Clean s form placed
  unfolding code_verdict
  by_fine l code.Unknown e b p v = absurd (not_fine 5 1 (sym v))
  by_fine l code.Passed e false p v = absurd (not_fine 6 1 (sym v))
  by_fine l (code.Read k) e false p v = absurd (not_fine 6 1 (sym v))
  by_fine l code.Passed e true p v = record {
    printable = l;
    known = known_passed (code_of (take 5 s)) e;
    stands = p;
    columns = λ k q. absurd (apart k (sym e ∙ q));
  }
    where
      apart : (k : ℕ) → code.Passed ≡ code.Read k → ⊥
      apart k q = let z : ◌≡◌ {A = ℕ} 0 1 = cc in omega arith
  by_fine l (code.Read k) e true p v = record {
    printable = l;
    known = known_read (code_of (take 5 s)) k e;
    stands = p;
    columns = λ i q j a b. rw (sym (alike i (sym e ∙ q))) (fine_everywhere (offence_at k form s) 6 (omega arith) v j a b);
  }
    where
      alike : (i : ℕ) → code.Read k ≡ code.Read i → k ≡ i
      alike i q = cc

  to_clean : placed_verdict s form placed ≡ no_refusal → Clean s form placed
  to_clean v = elim (dec_lt (first_bad s) 80) [
    | yes l ↦ absurd (not_fine 4 (first_bad s + 1) (sym v ∙ bad_way l))
    | no l ↦
        let m : 80 ≤ first_bad s = omega arith in
        by_fine m (code_of (take 5 s)) refl placed refl (sym (code_way m (code_of (take 5 s)) refl) ∙ v)
  ]

  of_clean : Clean s form placed → placed_verdict s form placed ≡ no_refusal
  unfolding code_verdict
  of_clean x = go (code_of (take 5 s)) refl
    where
      go : (k : Code) → code_of (take 5 s) ≡ k → placed_verdict s form placed ≡ no_refusal
      go code.Unknown e = absurd (x.known e)
      go code.Passed e = code_way x.printable code.Passed e ∙ rw x.stands
      go (code.Read k) e =
          code_way x.printable (code.Read k) e
          ∙ rw x.stands (all_pass (offence_at k form s) (λ j a b. x.columns k e j a b))

module _ (h : List ℕ) (c : ℕ) (l : c < cards_in h) where
  at_card : verdict_at h c ≡ placed_verdict (card_at h c) (form_of h (card_at h c)) (stands_at h c)
  unfolding verdict_at
  at_card = rw (lt-ltb c (cards_in h) l)

  pub eighty : length (card_at h c) ≡ 80
  unfolding card_at cards_in
  eighty = part_length 80 h c (omega (arith, card_ends h c l, mul_comm c 80))

  -- a card gets a number and a column exactly where their row says so and no row before it
  pub row_exactly : (n d : ℕ) → (verdict_at h c ≡ Err (offending n d)) ↔ Row (card_at h c) (form_of h (card_at h c)) (stands_at h c) n d
  row_exactly n d = (
    λ v. to_row (card_at h c) (form_of h (card_at h c)) (stands_at h c) eighty n d (sym at_card ∙ v),
    λ r. at_card ∙ of_row (card_at h c) (form_of h (card_at h c)) (stands_at h c) eighty r,
  )

  -- and is fine exactly where there is no row
  pub fine_exactly : (verdict_at h c ≡ no_refusal) ↔ Clean (card_at h c) (form_of h (card_at h c)) (stands_at h c)
  fine_exactly = (
    λ v. to_clean (card_at h c) (form_of h (card_at h c)) (stands_at h c) eighty (sym at_card ∙ v),
    λ x. at_card ∙ of_clean (card_at h c) (form_of h (card_at h c)) (stands_at h c) eighty x,
  )

module _ (h : List ℕ) where
  past : (b : Bool) → has_line h ≡ b → verdict_at h (cards_in h) ≡ cond b no_refusal (Err (offending 6 1))
  unfolding verdict_at end_verdict
  past b e = rw (le-ltb (cards_in h) (cards_in h) (omega arith), e)

  -- past the last card there is a 6 exactly where the opening block has no H00@8, and no other number
  pub past_exactly : (n d : ℕ) → (verdict_at h (cards_in h) ≡ Err (offending n d)) ↔ ((has_line h ≡ false) × (n ≡ 6) × (d ≡ 1))
  past_exactly n d = (λ v. there (has_line h) refl v, λ x. past false x.0 ∙ rw (x.1, x.2))
    where
      there : (b : Bool) → has_line h ≡ b → verdict_at h (cards_in h) ≡ Err (offending n d) → (b ≡ false) × (n ≡ 6) × (d ≡ 1)
      there true e v = absurd (not_fine n d (sym (past true e) ∙ v))
      there false e v =
          let q : ◌≡◌ {A = Result ⊤ Offence} (Err (offending 6 1)) (Err (offending n d)) = sym (past false e) ∙ v in
          (refl, sym (same_number_lem 6 n 1 d q), sym (same_column 6 n 1 d q))
