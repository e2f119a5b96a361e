-- A header's refusal is the first that its rows give.
use Prim.Native.Nat.{ℕ, zero, suc, ◌+◌, ◌%◌, ◌<◌}
use native.Mathlib.Omega.{arith}
use mathlib.Core.Path.{◌≡◌, refl, sym, ap, ap₂, ◌∙◌}
use mathlib.Core.Bool.{Bool, true, false, cond, not}
use mathlib.Core.Logic.{◌↔◌}
use mathlib.Core.List.{List, [], ◌∷◌, map}
use lib.Dec.{eqb, ltb}
use lib.ListN.{length, take}
use borrow.Author.Tests.{lt-ltb, le-ltb}
use Rattle.base_refusal.specs.declared.Refusal.{Refusal}
use Rattle.base_refusal.specs.Refusals.{refusal, no_refusal}
use Rattle.base_lists.specs.Count.{first, first_from}
use Rattle.value_text.specs.text.Texts.{printable}
use Rattle.value_text.specs.printable.Bytes.{first_bad}
use Rattle.value_field.proofs.spelling.Absence.{zero_one}
use Rattle.format_code.specs.declared.Code.{Code}
use Rattle.format_code.specs.declared.Code.TheVariants as code
use Rattle.format_code.specs.Codes.{code_of}
use Rattle.format_layout.specs.declared.Form.{Form}
use Rattle.card_check.specs.Judging.{verdict_of}
use Rattle.card_laws.specs.exactly.Rows.{Row, given, Exactly}
use Rattle.card_laws.specs.exactly.Words.{is_unknown}
use Rattle.card_laws.specs.exactly.Tables.{columns_from, judge_rows, in_verdict}
use Rattle.card_laws.proofs.exactly.Given.{or_else, given-append, exactly}
use Rattle.card_laws.proofs.exactly.Way.{bad-byte}
use Rattle.card_laws.proofs.exactly.Cards.{verdict_given}
use Rattle.header_check.specs.forms.Cards.{card_at, cards_in}
use Rattle.header_check.specs.forms.Forms.{form_of}
use Rattle.header_check.specs.Opening.{has_line, stands_at}
use Rattle.header_check.specs.Refusing.{largest, is_unknown as no_code, readable, placed_verdict, end_verdict, verdict_at, offends, answer_for, answer_at, cards_answer, refusal_of}
use Rattle.header_laws.proofs.Rows.{eighty}
use Rattle.promises.specs.Header.{on_card, card_rows, rows_from, header_rows, in_check}
use Rattle.std.specs.Prelude.{Result, Ok, Err, ⊤, Option, None, Some}
use Rattle.card_check.specs.declared.Offence.{Offence}
use Rattle.card_check.specs.Verdicts.{offending}

-- a refusal told of the card with a number
abbrev told : ℕ → Option Refusal → Option Refusal
told card None = None
told card (Some r) = Some (refusal r.number card r.column)

told_rows : (card : ℕ) (rows : List Row) → given (map (on_card card) rows) ≡ told card (given rows)
unfolding given
told_rows card [] = refl
told_rows card (r ∷ rows) = go r.test (told_rows card rows)
  where
    go : (b : Bool) → given (map (on_card card) rows) ≡ told card (given rows)
        → cond b (Some (refusal r.gives.number card r.gives.column)) (given (map (on_card card) rows))
        ≡ told card (cond b (Some r.gives) (given rows))
    go true e = refl
    go false e = e

told_verdict : (card : ℕ) (v : Result ⊤ Offence) → told card (in_verdict v) ≡ in_check (answer_for v card)
unfolding answer_for
told_verdict card (Ok _) = refl
told_verdict card (Err o) = refl

same_unknown : (c : Code) → no_code c ≡ is_unknown c
same_unknown code.Unknown = refl
same_unknown code.Passed = refl
same_unknown (code.Read k) = refl

-- the verdict on a card of 80 columns that is printable and has a known code is that of its columns
columns-given : (s : List ℕ) (form : Form) → length s ≡ 80 → printable s ≡ true → is_unknown (code_of (take 5 s)) ≡ false
    → in_verdict (verdict_of s form) ≡ given (columns_from form s 75 6)
unfolding judge_rows given
columns-given s form whole p u = verdict_given s form ∙ rw (whole, p, u)

-- an answer by the refusal in it
refused_as : (a : Result ⊤ Refusal) (r : Refusal) → (a ≡ Err r) ↔ (in_check a ≡ Some r)
refused_as (Ok _) r = (λ e. absurd (zero_one cc), λ e. absurd (zero_one cc))
refused_as (Err q) r = (λ e. ap in_check e, λ e. let x : q ≡ r = cc in ap Err x)

accepted_as : (a : Result ⊤ Refusal) → (a ≡ no_refusal) ↔ (in_check a ≡ None)
accepted_as (Ok _) = (λ e. refl, λ e. refl)
accepted_as (Err q) = (λ e. absurd (zero_one cc), λ e. absurd (zero_one cc))

module _ (h : List ℕ) where
  card_given : (c : ℕ) → c < cards_in h → given (card_rows h c) ≡ in_check (answer_at h c)
  unfolding card_rows given answer_at verdict_at placed_verdict readable answer_for
  card_given c l =
      let s : List ℕ = card_at h c in
      rw (lt-ltb c (cards_in h) l, bad-byte s (eighty h c l), same_unknown (code_of (take 5 s)))
      (go (printable s) refl (is_unknown (code_of (take 5 s))) refl (stands_at h c))
    where
      go : (p : Bool) → printable (card_at h c) ≡ p → (u : Bool) → is_unknown (code_of (take 5 (card_at h c))) ≡ u → (placed : Bool)
          → cond (not p) (Some (refusal 4 (c + 1) (first_bad (card_at h c) + 1))) (cond u (Some (refusal 5 (c + 1) 1))
          (cond (not placed) (Some (refusal 6 (c + 1) 1)) (given (map (on_card (c + 1)) (columns_from (form_of h (card_at h c)) (card_at h c) 75 6)))))
          ≡ in_check (answer_for (cond (not p) (Err (offending 4 (first_bad (card_at h c) + 1))) (cond u (Err (offending 5 1))
          (cond placed (verdict_of (card_at h c) (form_of h (card_at h c))) (Err (offending 6 1))))) (c + 1))
      go false p u e placed = refl
      go true p true e placed = refl
      go true p false e false = refl
      go true p false e true =
          told_rows (c + 1) (columns_from (form_of h (card_at h c)) (card_at h c) 75 6)
          ∙ ap (told (c + 1)) (sym (columns-given (card_at h c) (form_of h (card_at h c)) (eighty h c l) p e))
          ∙ told_verdict (c + 1) (verdict_of (card_at h c) (form_of h (card_at h c)))

  end_given : (c : ℕ) → c ≡ cards_in h → given (rows_from h 0 c) ≡ in_check (answer_at h c)
  unfolding rows_from given answer_at verdict_at end_verdict answer_for
  end_given c e = rw (le-ltb c (cards_in h) (omega arith)) (go (has_line h))
    where
      go : (b : Bool) → cond (not b) (Some (refusal 6 (c + 1) 1)) None ≡ in_check (answer_for (cond b no_refusal (Err (offending 6 1))) (c + 1))
      go true = refl
      go false = refl

  -- what a card answers, or what those behind it do
  decided : (c n : ℕ) (v : Result ⊤ Offence) → verdict_at h c ≡ v
      → or_else (in_check (answer_at h c)) (in_check (answer_at h (first_from (offends h) n (suc c))))
      ≡ in_check (answer_at h (cond (offends h c) c (first_from (offends h) n (suc c))))
  unfolding offends answer_at answer_for
  decided c n (Ok _) e = rw e
  decided c n (Err o) e = rw (e, e)

  -- from a card on, the first offence decides
  from-given : (n c : ℕ) → c + n ≡ cards_in h → given (rows_from h n c) ≡ in_check (answer_at h (first_from (offends h) n c))
  unfolding rows_from first_from
  from-given zero c e = end_given c (omega arith)
  from-given (suc n) c e =
      given-append (card_rows h c) (rows_from h n (suc c))
      ∙ ap₂ or_else (card_given c (omega arith)) (from-given n (suc c) (omega arith))
      ∙ decided c n (verdict_at h c) refl

  -- a header's refusal is the first that its rows give
  pub header-given : given (header_rows h) ≡ in_check (refusal_of h)
  unfolding header_rows given refusal_of cards_answer first
  header-given = go (eqb (length h) 0) (not (eqb (length h % 80) 0)) (ltb largest (cards_in h))
    where
      go : (a b d : Bool)
          → cond a (Some (refusal 1 0 0)) (cond b (Some (refusal 2 0 0)) (cond d (Some (refusal 3 0 0)) (given (rows_from h (cards_in h) 0))))
          ≡ in_check (cond a (Err (refusal 1 0 0)) (cond b (Err (refusal 2 0 0)) (cond d (Err (refusal 3 0 0))
          (answer_at h (first_from (offends h) (cards_in h) 0)))))
      go true b d = refl
      go false true d = refl
      go false false true = refl
      go false false false = from-given (cards_in h) 0 (omega arith)

  -- so it is refused exactly as they say
  pub header_exactly : Exactly (header_rows h) (λ r. refusal_of h ≡ Err r) (refusal_of h ≡ no_refusal)
  header_exactly =
      exactly (header_rows h) (in_check (refusal_of h)) (sym header-given) (refused_as (refusal_of h)) (accepted_as (refusal_of h))
