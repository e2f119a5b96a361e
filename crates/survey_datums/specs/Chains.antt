-- Chains of cards from a datum to datum 1, of any length. Datums are counted from 0, cards from 1.
use Rattle.std.specs.Prelude.{ℕ, ◌-◌, ◌≤◌, ◌<◌, ◌≡◌, true, List, [], ◌∷◌}
use Rattle.header_check.specs.forms.Cards.{cards_in}
use Rattle.survey_datums.specs.Datums.{joins}

-- a card of the header joins two datums, either way
pub record Joined (h : List ℕ) (card a b : ℕ) : Type 0 where
  pub first_card : 1 ≤ card
  pub last_card : card ≤ cards_in h
  pub next_datum : b < 9
  pub joins_them : joins h a b (card - 1) ≡ true

-- the cards lead from a datum to datum 1, each joining the datum that was come to with the next
abbrev pub Chain : List ℕ → ℕ → List ℕ → Type 0
Chain h a [] = a ≡ 0
Chain h a (c ∷ cs) = (b : ℕ) × Joined h c a b × Chain h b cs
