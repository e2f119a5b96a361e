-- The form of a card's coordinates: its own, or the one that exactly one other card of the header states.
use Rattle.std.specs.Prelude.{ℕ, List, Bool, cond, ◌&&◌, eqb}
use Rattle.base_lists.specs.Count.{count, first}
use Rattle.format_layout.specs.declared.Form.{Form}
use Rattle.format_layout.specs.declared.Form.TheVariants.{Angles, Grid, Unknown}
use Rattle.header_check.specs.forms.Cards.{card_at, cards_in, byte_in, layout_of}
use Rattle.format_layout.specs.Names.{H00X8, H00X9, H0100, H0101, H5000}

-- what the byte in a form column says: the character 0, the character 1, or nothing
unfoldable pub form_said : ℕ → Form
form_said b = cond (eqb b 48) Angles (cond (eqb b 49) Grid Unknown)

-- of n cards, the form that the only one that passes says in its form column; unknown where none or several pass
unfoldable pub only_form : (ℕ → Bool) → (ℕ → ℕ) → ℕ → Form
only_form p byte n = cond (eqb (count p n) 1) (form_said (byte (first p n))) Unknown

-- a card has the code H00@8, and the vessel v in column 30
unfoldable pub states_line : List ℕ → ℕ → ℕ → Bool
states_line h v c = eqb (layout_of (card_at h c)) H00X8 && eqb (byte_in (card_at h c) 30) v

-- a card has the code H0100
unfoldable pub states_grid : List ℕ → ℕ → Bool
states_grid h c = eqb (layout_of (card_at h c)) H0100

-- the form that a vessel's line parameters state, whatever else is the matter with the card
unfoldable pub line_form : List ℕ → ℕ → Form
line_form h v = only_form (states_line h v) (λ c. byte_in (card_at h c) 32) (cards_in h)

-- the form that the grid of magnetic variation states
unfoldable pub grid_form : List ℕ → Form
grid_form h = only_form (states_grid h) (λ c. byte_in (card_at h c) 21) (cards_in h)

-- the form of a card: H00@8 and H5000 by themselves, H00@9 by its vessel in column 7, H0101 by the grid, no other has
-- coordinates
unfoldable pub form_of : List ℕ → List ℕ → Form
form_of h s =
    cond (eqb (layout_of s) H00X8) (form_said (byte_in s 32))
    (cond (eqb (layout_of s) H00X9) (line_form h (byte_in s 7))
    (cond (eqb (layout_of s) H0101) (grid_form h)
    (cond (eqb (layout_of s) H5000) (form_said (byte_in s 29)) Unknown)))
