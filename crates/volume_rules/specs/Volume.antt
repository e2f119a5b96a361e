-- What a volume is: the cards of its headers, a directory card for each, and the trailer.
use Rattle.std.specs.Prelude.{ℕ, ◌+◌, ◌*◌, ◌≤◌, ◌≡◌, List, [], ◌∷◌, ◌++◌, length, take}
use Rattle.header_check.specs.forms.Cards.{cards_in}
use Rattle.volume_form.specs.Rows.{Row}
use Rattle.volume_form.specs.Marked.{entry_card, trailer_card}

-- the cards of some headers, one after the other
unfoldable pub joined : List (List ℕ) → List ℕ
joined [] = []
joined (h ∷ hs) = h ++ joined hs

-- how many cards stand before the header at a place, from 0
unfoldable pub before : List (List ℕ) → ℕ → ℕ
before hs p = cards_in (joined (take p hs))

-- a directory card for each, the first card of the first having the number `at`
unfoldable pub directory : Row → ℕ → List (List ℕ) → List ℕ
directory f at [] = []
directory f at (h ∷ hs) = entry_card f h at (cards_in h) ++ directory f (at + cards_in h) hs

-- the volume of some headers
unfoldable pub volume_of : Row → List (List ℕ) → List ℕ
volume_of f hs = joined hs ++ (directory f 1 hs ++ trailer_card f (1 + cards_in (joined hs)) (length hs))

-- headers of whole cards, and none of them empty
pub record Whole (h : List ℕ) : Type 0 where
  pub some : 1 ≤ cards_in h
  pub whole : length h ≡ 80 * cards_in h

abbrev pub Wholes : List (List ℕ) → Type 0
Wholes [] = Unit {0}
Wholes (h ∷ hs) = Whole h × Wholes hs
