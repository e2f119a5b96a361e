-- What a verdict says of the columns: an offence is the first there is, and on a fine card there is none.
use Prim.Native.Nat.{ℕ, zero, suc, ◌+◌, ◌-◌, ◌≤◌, ◌<◌}
use native.Mathlib.Omega.{arith}
use native.Mathlib.Decide.{ℕ_discrete}
use mathlib.Core.Path.{◌≡◌, sym, ap, ◌∙◌}
use Rattle.value_field.proofs.spelling.Absence.{zero_one}
use Rattle.card_check.specs.Judging.{verdict_from}
use Rattle.card_check.proofs.Leftmost.{decides, passes, ends}
use Rattle.std.specs.Prelude.{Err, Result, ⊤}
use Rattle.base_refusal.specs.Refusals.{no_refusal}
use Rattle.card_check.specs.Verdicts.{offending}
use Rattle.card_check.specs.declared.Offence.{Offence}

-- the number and the column of an offence
same_offence : (a b : Offence) → ◌≡◌ {A = Result ⊤ Offence} (Err a) (Err b) → a ≡ b
same_offence a b e = cc

pub same_number_lem : (m n c d : ℕ) → ◌≡◌ {A = Result ⊤ Offence} (Err (offending m c)) (Err (offending n d)) → m ≡ n
same_number_lem m n c d e = ap (λ (o : Offence). o.number) (same_offence (offending m c) (offending n d) e)

pub same_column : (m n c d : ℕ) → ◌≡◌ {A = Result ⊤ Offence} (Err (offending m c)) (Err (offending n d)) → c ≡ d
same_column m n c d e = ap (λ (o : Offence). o.column) (same_offence (offending m c) (offending n d) e)

pub not_fine : (n d : ℕ) → ◌≡◌ {A = Result ⊤ Offence} no_refusal (Err (offending n d)) → ⊥
not_fine n d e = zero_one cc

module _ (offence : ℕ → ℕ) where
  -- from column c on, column d is the first with an offence, and its number is n
  pub record First (c n d : ℕ) : Type 0 where
    pub from : c ≤ d
    pub on_card : d ≤ 80
    pub number : offence d ≡ n
    pub some : n ≡ 0 → ⊥
    pub none_before : (j : ℕ) → c ≤ j → j < d → offence j ≡ 0

  first_of : (m c : ℕ) → c + m ≡ 81 → (n d : ℕ) → verdict_from offence c ≡ Err (offending n d) → First c n d
  first_of zero c h n d e =
      let q : c ≡ 81 = omega arith in
      absurd (not_fine n d (sym (ends offence) ∙ ap (verdict_from offence) (sym q) ∙ e))
  first_of (suc m) c h n d e = elim (ℕ_discrete (offence c) 0) [
    | yes z ↦
        let f : First (suc c) n d = first_of m (suc c) (omega arith) n d (sym (passes offence c (omega arith) z) ∙ e) in
        record {
          from = omega (arith, f.from);
          on_card = f.on_card;
          number = f.number;
          some = f.some;
          none_before = λ j a b. elim (ℕ_discrete c j) [ yes q ↦ ap offence (sym q) ∙ z | no q ↦ f.none_before j (omega arith) b ];
        }
    | no z ↦
        let o : ◌≡◌ {A = Result ⊤ Offence} (Err (offending (offence c) c)) (Err (offending n d)) = sym (decides offence c (omega arith) z) ∙ e in
        let q : offence c ≡ n = same_number_lem (offence c) n c d o in
        let r : c ≡ d = same_column (offence c) n c d o in
        record {
          from = omega arith;
          on_card = omega arith;
          number = ap offence (sym r) ∙ q;
          some = λ y. z (q ∙ y);
          none_before = λ j a b. absurd (omega arith);
        }
  ]

  pub first-offence : (c n d : ℕ) → c ≤ 81 → verdict_from offence c ≡ Err (offending n d) → First c n d
  first-offence c n d h e = first_of (81 - c) c (omega arith) n d e

  fine_of : (m c : ℕ) → c + m ≡ 81 → verdict_from offence c ≡ no_refusal → (j : ℕ) → c ≤ j → j ≤ 80 → offence j ≡ 0
  fine_of zero c h e j a b = absurd (omega arith)
  fine_of (suc m) c h e j a b = elim (ℕ_discrete (offence c) 0) [
    | yes z ↦ elim (ℕ_discrete c j) [
      | yes q ↦ ap offence (sym q) ∙ z
      | no q ↦ fine_of m (suc c) (omega arith) (sym (passes offence c (omega arith) z) ∙ e) j (omega arith) b
    ]
    | no z ↦ absurd (not_fine (offence c) c (sym e ∙ decides offence c (omega arith) z))
  ]

  -- a fine card has no column with an offence
  pub fine_everywhere : (c : ℕ) → c ≤ 81 → verdict_from offence c ≡ no_refusal → (j : ℕ) → c ≤ j → j ≤ 80 → offence j ≡ 0
  fine_everywhere c h e j a b = fine_of (81 - c) c (omega arith) e j a b
