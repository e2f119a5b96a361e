-- The cards of a header with the corrections of a compass.
use Rattle.std.specs.Prelude.{ℕ, List, Bool, ◌&&◌, eqb}
use Rattle.base_lists.specs.Count.{count, first}
use Rattle.base_lists.specs.Parts.{alike}
use Rattle.value_text.specs.text.Texts.{text_of}
use Rattle.format_layout.specs.Names.{H23X0}
use Rattle.header_check.specs.forms.Cards.{card_at, cards_in, layout_of}
use Rattle.tie_rules.specs.Keys.{between}

-- an H23@0 card is for a serial, whatever its @ is
unfoldable pub is_for : List ℕ → List ℕ → Bool
is_for serial s = eqb (layout_of s) H23X0 && alike (text_of (between 7 14 s)) serial

unfoldable pub is_for_at : List ℕ → List ℕ → ℕ → Bool
is_for_at h serial c = is_for serial (card_at h c)

-- how many there are, and the first of them
unfoldable pub cards_for : List ℕ → List ℕ → ℕ
cards_for h serial = count (is_for_at h serial) (cards_in h)

unfoldable pub place_for : List ℕ → List ℕ → ℕ
place_for h serial = first (is_for_at h serial) (cards_in h)

unfoldable pub card_for : List ℕ → List ℕ → List ℕ
card_for h serial = card_at h (place_for h serial)
