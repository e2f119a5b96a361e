-- The numbers of each table in their order, and a number that stands in one row only.
use Prim.Native.Nat.{ℕ}
use native.Mathlib.Omega.{arith}
use native.Mathlib.Decide.{dec_lt}
use mathlib.Core.Path.{◌≡◌, refl, sym, subst, ◌∙◌}
use mathlib.Core.List.{List, [], ◌∷◌}
use mathlib.Core.Logic.{◌↔◌}
use mathlib.Core.Bool.{Bool, false, not, ◌&&◌, ◌||◌}
use lib.ListN.{length, get_or, take, get_or-map, get_or-eq_default}
use lib.Dec.{T, eqb, eqb→eq}
use borrow.Author.Tests.{eq-eqb}
use Rattle.format_layout.proofs.Every.{every, at, and_left, and_right}
use Rattle.format_layout.specs.declared.Form.{Form}
use Rattle.base_value.specs.declared.Value.{Value}
use Rattle.base_refusal.specs.declared.Refusal.{Refusal}
use Rattle.card_laws.specs.exactly.Rows.{Row, row, row_at, numbers_of, Decides, Exactly}
use Rattle.card_laws.specs.exactly.Tables.{way_rows, field_rows, value_rows, text_rows, read_rows, put_rows, put_text_rows, open_rows, judge_rows}

-- the paper's order for each operation
pub read-order : (s : List ℕ) (n form : ℕ) → numbers_of (read_rows s n form) ≡ 1 ∷ 2 ∷ 4 ∷ 5 ∷ 13 ∷ 10 ∷ 11 ∷ 9 ∷ 10 ∷ []
unfolding read_rows way_rows field_rows
read-order s n form = refl

pub put_order : (s : List ℕ) (n form : ℕ) (v : Value)
    → numbers_of (put_rows s n form v) ≡ 1 ∷ 2 ∷ 4 ∷ 5 ∷ 13 ∷ 10 ∷ 12 ∷ 11 ∷ 10 ∷ 14 ∷ []
unfolding put_rows way_rows value_rows
put_order s n form v = refl

pub put_text-order : (s : List ℕ) (n form : ℕ) (t : List ℕ)
    → numbers_of (put_text_rows s n form t) ≡ 1 ∷ 2 ∷ 4 ∷ 5 ∷ 13 ∷ 10 ∷ 12 ∷ 4 ∷ 9 ∷ 14 ∷ []
unfolding put_text_rows way_rows text_rows
put_text-order s n form t = refl

pub open_order : (text : List ℕ) (size : ℕ) → numbers_of (open_rows text size) ≡ 1 ∷ 2 ∷ 5 ∷ []
unfolding open_rows
open_order text size = refl

-- judging: these four, and then the columns
pub judge_order : (s : List ℕ) (form : Form) → take 4 (numbers_of (judge_rows s form)) ≡ 1 ∷ 2 ∷ 4 ∷ 5 ∷ []
unfolding judge_rows
judge_order s form = refl

-- a number stands in place i of a list and nowhere else
abbrev pub once : ℕ → ℕ → List ℕ → Bool
once m i ns = eqb (get_or ns i 0) m && every (λ (j n : ℕ). not (eqb n m) || eqb j i) 0 ns

-- a number that stands in one row only is the answer's exactly when that row decides
pub by_place : {Refused : Refusal → Type 0} {Done : Type 0} (rows : List Row) → Exactly rows Refused Done
    → (m i : ℕ) → (m ≡ 0 → ⊥) → T (once m i (numbers_of rows)) → ((r : Refusal) × Refused r × (r.number ≡ m)) ↔ Decides rows i
unfolding row_at
by_place rows x m i some t = (λ a. to ((x.numbered m).0 a), λ d. (x.numbered m).1 (i, d, here))
  where
    number : (j : ℕ) → (row_at rows j).gives.number ≡ get_or (numbers_of rows) j 0
    number j = sym (get_or-map (λ (r : Row). r.gives.number) rows j (row 0 0 0 false))

    here : (row_at rows i).gives.number ≡ m
    here = number i ∙ eqb→eq (get_or (numbers_of rows) i 0) m
        (and_left (eqb (get_or (numbers_of rows) i 0) m) (every (λ (j n : ℕ). not (eqb n m) || eqb j i) 0 (numbers_of rows)) t)

    same : (j : ℕ) → get_or (numbers_of rows) j 0 ≡ m → T (not (eqb (get_or (numbers_of rows) j 0) m) || eqb j i) → j ≡ i
    same j e k = eqb→eq j i (subst (λ b. T (not b || eqb j i)) (eq-eqb (get_or (numbers_of rows) j 0) m e) k)

    only : (j : ℕ) → get_or (numbers_of rows) j 0 ≡ m → j ≡ i
    only j e = elim (dec_lt j (length (numbers_of rows))) [
      | yes h ↦
          same j e
          (at (λ (j n : ℕ). not (eqb n m) || eqb j i) 0 (numbers_of rows)
          (and_right (eqb (get_or (numbers_of rows) i 0) m)
          (every (λ (j n : ℕ). not (eqb n m) || eqb j i) 0 (numbers_of rows)) t) j h)
      | no h ↦ absurd (some (sym e ∙ get_or-eq_default (numbers_of rows) 0 (omega arith)))
    ]

    to : ((j : ℕ) × Decides rows j × ((row_at rows j).gives.number ≡ m)) → Decides rows i
    to f = subst (Decides rows) (only f.0 (sym (number f.0) ∙ f.2)) f.1
