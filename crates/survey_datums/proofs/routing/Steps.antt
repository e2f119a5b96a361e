-- What the search for the next datum finds; and one datum's shifts at one level.
-- Assumes nothing.
use Prim.Native.Nat.{ℕ, ◌+◌, ◌≤◌, ◌<◌}
use native.Mathlib.Omega.{arith}
use mathlib.Core.Path.{◌≡◌, sym}
use mathlib.Core.Bool.{Bool, true, false, cond, ◌&&◌}
use mathlib.Core.List.{List}
use lib.Dec.{eqb, ltb}
use lib.ListN.{get_or}
use borrow.Author.Tests.{eq-eqb, ne_eqb, lt-ltb, le-ltb}
use Rattle.std.specs.Option.{MatchOption, IfSome, is_some, unwrap_or}
use Rattle.std.specs.Prelude.{Option, Some, None}
use Rattle.base_lists.proofs.Finding.{first_unique, first-none}
use Rattle.survey_datums.specs.routing.Tables.{next_in, further_by}

module _ (row shifts : List ℕ) (n : ℕ) where
  abbrev pub fits : ℕ → Bool
  fits b = ltb 0 (get_or row b 0) && eqb (get_or shifts b 0) n

  -- what a search of the nine finds
  pub next_found : (r : Option ℕ)
      → MatchOption r ((k : ℕ) → 0 ≤ k → k < 9 → fits k ≡ false)
      (λ i. (0 ≤ i) × (i < 9) × (fits i ≡ true) × ((k : ℕ) → 0 ≤ k → k < i → fits k ≡ false))
      → unwrap_or r 9 ≡ next_in row shifts n
  unfolding next_in
  next_found None none = sym (first-none fits 9 (λ k l. none k (omega arith) l))
  next_found (Some i) h = sym (first_unique fits 9 i h.1 h.2 (λ k l. h.3 k (omega arith) l))

  pub further_as : (old : ℕ) (r : Option ℕ) → unwrap_or r 9 ≡ next_in row shifts n → IfSome r (λ b. b < 9)
      → further_by row shifts n old ≡ cond (eqb old 9 && is_some r) (1 + n) old
  unfolding further_by
  further_as old None e h = rw (← e)
  further_as old (Some b) e h = rw (← e, lt-ltb b 9 h)

  module _ (old : ℕ) where
    pub known_stays : (old ≡ 9 → ⊥) → old ≡ further_by row shifts n old
    unfolding further_by
    known_stays h = rw (ne_eqb old 9 h)

    pub now_known : (b : ℕ) → b ≡ next_in row shifts n → old ≡ 9 → b < 9 → 1 + n ≡ further_by row shifts n old
    unfolding further_by
    now_known b e h l = rw (eq-eqb old 9 h, ← e, lt-ltb b 9 l)

    pub not_yet : (b : ℕ) → b ≡ next_in row shifts n → (b < 9 → ⊥) → old ≡ 9 → old ≡ further_by row shifts n old
    unfolding further_by
    not_yet b e l h = rw (eq-eqb old 9 h, ← e, le-ltb b 9 (omega arith))
