-- A table of refusals: its rows in the order in which they are judged, each a test with the refusal that it gives.
use Rattle.std.specs.Prelude.{ℕ, ◌<◌, ◌≡◌, List, [], ◌∷◌, map, Bool, true, false, cond, ◌↔◌, get_or, Option, None, Some}
use Rattle.base_refusal.specs.declared.Refusal.{Refusal}
use Rattle.base_refusal.specs.Refusals.{refusal}

pub record Row : Type 0 where
  pub test : Bool
  pub gives : Refusal

-- a row by its number, card and column, and its test
abbrev pub row : ℕ → ℕ → ℕ → Bool → Row
row n card column test = record { test = test; gives = refusal n card column }

-- the refusal of the first row whose test holds
unfoldable pub given : List Row → Option Refusal
given [] = None
given (r ∷ rows) = cond r.test (Some r.gives) (given rows)

-- the row in a place, counted from 0; behind the last one a row that never holds
unfoldable pub row_at : List Row → ℕ → Row
row_at rows i = get_or rows i (row 0 0 0 false)

-- the numbers of the rows, in their order
abbrev pub numbers_of : List Row → List ℕ
numbers_of rows = map (λ (r : Row). r.gives.number) rows

-- a row decides: its test holds, and that of no earlier row
pub record Decides (rows : List Row) (i : ℕ) : Type 0 where
  pub holds : (row_at rows i).test ≡ true
  pub none_before : (j : ℕ) → j < i → (row_at rows j).test ≡ false

-- an operation and its table: `Refused r` says that it answers with the refusal r, `Done` that it answers with none
pub record Exactly (rows : List Row) (Refused : Refusal → Type 0) (Done : Type 0) : Type 0 where
  -- it answers with a refusal exactly when a row decides that gives it
  pub refused : (r : Refusal) → Refused r ↔ ((i : ℕ) × Decides rows i × ((row_at rows i).gives ≡ r))
  -- with a number exactly when a row decides that has it
  pub numbered : (n : ℕ)
      → ((r : Refusal) × Refused r × (r.number ≡ n)) ↔ ((i : ℕ) × Decides rows i × ((row_at rows i).gives.number ≡ n))
  -- and with none exactly when no test holds
  pub done : Done ↔ ((i : ℕ) → (row_at rows i).test ≡ false)
