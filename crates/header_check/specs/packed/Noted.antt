-- What is noted of each card of a header. No promise to a caller cites this.
use Rattle.std.specs.Prelude.{ℕ, zero, suc, ◌+◌, ◌*◌, ◌%◌, ◌<◌, ◌≡◌, Bool, cond, not, List, eqb, leb, ltb, length, get_or, set}
use Rattle.base_lists.specs.Count.{bit}
use Rattle.card_screen.specs.Roles.{sure}
use Rattle.header_check.specs.forms.Cards.{card_at, cards_in, layout_of}
use Rattle.header_check.specs.Refusing.{largest}

-- a card's note: the number of its layout, and 128 more where the screen is sure of it
unfoldable pub card_note : List ℕ → ℕ
card_note s = layout_of s + 128 * bit (sure (layout_of s) s)

-- what a note tells
abbrev pub layout_in : ℕ → ℕ
layout_in note = note % 64

abbrev pub is_sure : ℕ → Bool
is_sure note = leb 128 note

-- between the two there is room for a flag
unfoldable pub is_flagged : ℕ → Bool
is_flagged note = leb 64 (note % 128)

unfoldable pub with_flag : ℕ → ℕ
with_flag note = cond (is_flagged note) note (note + 64)

-- an array with the notes of the first n cards put into it, as far as it has room; the rest of it is as it was
unfoldable pub noted_to : List ℕ → List ℕ → ℕ → List ℕ
noted_to h old zero = old
noted_to h old (suc c) = set (noted_to h old c) c (card_note (card_at h c))

-- with those of all cards after a check; as it was where the length alone refuses the header
unfoldable pub noted_for : List ℕ → List ℕ → List ℕ
noted_for h old =
    cond (eqb (length h) 0) old
    (cond (not (eqb (length h % 80) 0)) old (cond (ltb largest (cards_in h)) old (noted_to h old (cards_in h))))

-- an array with a flag at a card
unfoldable pub flagged : List ℕ → ℕ → List ℕ
flagged cards c = set cards c (with_flag (get_or cards c 0))

-- an array tells the layouts of the first n cards, and of which the screen is sure; a flag does not matter
pub record Noted (h : List ℕ) (n : ℕ) (cards : List ℕ) : Type 0 where
  pub room : length cards ≡ largest
  pub layouts_are : (c : ℕ) → c < n → layout_in (get_or cards c 0) ≡ layout_of (card_at h c)
  pub sures_are : (c : ℕ) → c < n → is_sure (get_or cards c 0) ≡ sure (layout_of (card_at h c)) (card_at h c)
