-- Which headers the program refuses for their cards, and which it leaves to the check.
use Prim.Native.Nat.{ℕ, ◌%◌, ◌≤◌, ◌<◌}
use mathlib.Core.Path.{◌≡◌, refl}
use mathlib.Core.Bool.{Bool, true, false, ◌&&◌}
use mathlib.Core.List.{List}
use lib.Dec.{eqb}
use lib.ListN.{length}
use borrow.Author.Tests.{eq-eqb, lt-ltb, le-ltb}
use Rattle.base_refusal.specs.Refusals.{refusal}
use Rattle.header_check.specs.forms.Cards.{cards_in}
use Rattle.header_check.specs.Refusing.{refusal_of}
use Rattle.crew_answer.specs.Answer.{most_cards, too_many, program_refusal}
use Rattle.std.specs.Prelude.{Err}

module _ (h : List ℕ) where
  pub refused-there : too_many h ≡ true → program_refusal h ≡ Err (refusal 3 0 0)
  unfolding program_refusal
  refused-there e = rw e

  pub taken_there : too_many h ≡ false → program_refusal h ≡ refusal_of h
  unfolding program_refusal
  taken_there e = rw e

  -- up to 800 cards it says what the check says
  pub few_taken : cards_in h ≤ most_cards → program_refusal h ≡ refusal_of h
  unfolding too_many
  few_taken few = taken_there (rw (le-ltb most_cards (cards_in h) few) (go (eqb (length h % 80) 0)))
    where
      go : (b : Bool) → (b && false) ≡ false
      go true = refl
      go false = refl

  -- more whole cards are refused, whatever they hold
  pub many_refused : length h % 80 ≡ 0 → most_cards < cards_in h → program_refusal h ≡ Err (refusal 3 0 0)
  unfolding too_many
  many_refused whole many =
      refused-there (rw (eq-eqb (length h % 80) 0 whole, lt-ltb most_cards (cards_in h) many))
