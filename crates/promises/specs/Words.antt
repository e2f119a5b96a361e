-- The words in which the promises speak of cards that were written, of lists of faults, and of cards that change places or are taken
-- away.
use Rattle.std.specs.Prelude.{ℕ, ◌+◌, ◌-◌, ◌<◌, ◌≡◌, Bool, true, false, not, ◌||◌, ◌⊎◌, leb, length, get_or, take, drop, Result, ⊤}
use mathlib.Core.List.{List, [], ◌∷◌, map, flat_map}
use Rattle.base_lists.specs.Count.{count, Rearranged}
use Rattle.base_lists.specs.Parts.{kept, up_to, alike}
use Rattle.base_value.specs.declared.Value.{Value}
use Rattle.format_layout.specs.declared.Field.{Field}
use Rattle.format_layout.specs.Shape.{bytes}
use Rattle.format_layout.specs.Names.{H00X9}
use Rattle.format_code.specs.declared.Code.{Code}
use Rattle.format_code.specs.declared.Code.TheVariants as code
use Rattle.format_code.specs.Codes.{code_of}
use Rattle.card_put.specs.Putting.{answer_of, left_by, putting_of, putting_text_of}
use Rattle.header_check.specs.forms.Cards.{card_at, cards_in, layout_of}
use Rattle.tie_rules.specs.Faults.{faults, entry_of}
use Rattle.base_refusal.specs.declared.Refusal.{Refusal}

-- what putting a value into a field answers, and the card then
abbrev pub put_answer : List ℕ → ℕ → ℕ → Value → Result ⊤ Refusal
put_answer s n form v = answer_of (putting_of s n form v)

abbrev pub put_card : List ℕ → ℕ → ℕ → Value → List ℕ
put_card s n form v = left_by (putting_of s n form v) s

-- the same of a text
abbrev pub text_answer : List ℕ → ℕ → ℕ → List ℕ → Result ⊤ Refusal
text_answer s n form t = answer_of (putting_text_of s n form t)

abbrev pub text_card : List ℕ → ℕ → ℕ → List ℕ → List ℕ
text_card s n form t = left_by (putting_text_of s n form t) s

-- two cards are the same outside a field's columns
pub record AlikeOutside (f : Field) (s t : List ℕ) : Type 0 where
  pub before : take (f.first - 1) t ≡ take (f.first - 1) s
  pub behind : drop f.last t ≡ drop f.last s
  pub as_long : length t ≡ length s

-- the list of a header's faults: an entry is the card, counted from 1, the column, the kind, the vessel
abbrev pub list_of : List ℕ → List (List ℕ)
list_of h = map (entry_of h) (faults h)

-- one entry comes before another: by card, then by column, then by kind
abbrev pub Before : List ℕ → List ℕ → Type 0
Before a b =
    (get_or a 0 0 < get_or b 0 0)
    ⊎ ((get_or a 0 0 ≡ get_or b 0 0)
    × ((get_or a 1 0 < get_or b 1 0) ⊎ ((get_or a 1 0 ≡ get_or b 1 0) × (get_or a 2 0 < get_or b 2 0))))

-- a card of the opening block, by its code: H0000 to H0007, H00@8, H00@9
unfoldable pub opens : List ℕ → Bool
opens s = leb (layout_of s) H00X9

-- h' is h with its cards in another order, the opening cards where they were
pub record Moved (h h' : List ℕ) : Type 0 where
  pub order : Rearranged (cards_in h)
  pub same_length : length h' ≡ length h
  pub same_card : (c : ℕ) → c < cards_in h → card_at h' (order.to c) ≡ card_at h c
  pub block_stays : (c : ℕ) → c < cards_in h → opens (card_at h c) ≡ true → order.to c ≡ c

-- a card that a reader may skip: its code is passed, or it is a comment, C0001 or C0002
abbrev pub is_passed : Code → Bool
is_passed code.Passed = true
is_passed code.Unknown = false
is_passed (code.Read k) = false

unfoldable pub may_skip : List ℕ → Bool
may_skip s = is_passed (code_of (take 5 s)) || (alike (take 5 s) (bytes "C0001") || alike (take 5 s) (bytes "C0002"))

-- a choice of cards, by their numbers from 0, among those that a reader may skip: none, some or all of them
abbrev pub Skipped : (ℕ → Bool) → List ℕ → Type 0
Skipped away h = (c : ℕ) → c < cards_in h → away c ≡ true → may_skip (card_at h c) ≡ true

-- h with these cards taken away: the others, one after the other
unfoldable pub without : (ℕ → Bool) → List ℕ → List ℕ
without away h = flat_map (card_at h) (kept (λ c. not (away c)) (up_to (cards_in h)))

-- the new number of a card, from 0: moved down by as many as are taken away before it
unfoldable pub new_number : (ℕ → Bool) → ℕ → ℕ
new_number away c = c - count away c

-- an entry of the list with the number of its card, from 1, moved down, and else as it was
unfoldable pub moved_down : (ℕ → Bool) → List ℕ → List ℕ
moved_down away [] = []
moved_down away (card ∷ rest) = (new_number away (card - 1) + 1) ∷ rest
