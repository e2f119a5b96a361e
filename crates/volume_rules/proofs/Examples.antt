-- Cards as the paper shows them.
use Prim.Native.Nat.{ℕ}
use mathlib.Core.Path.{◌≡◌, refl}
use mathlib.Core.List.{List, [], ◌++◌}
use lib.ListN.{replicate}
use Rattle.base_digits.specs.digits.Digits.{digits, size_up_to}
use Rattle.format_layout.specs.Shape.{bytes}
use Rattle.header_check.specs.forms.Cards.{cards_in}
use Rattle.volume_form.specs.declared.Form.TheVariants.{Old}
use Rattle.volume_form.specs.Spelled.{spelled}
use Rattle.volume_form.specs.Rows.{row_of}
use Rattle.volume_form.specs.Marked.{name_of, sequence_of, fielded, padded, entry_card, trailer_card}
use Rattle.volume_rules.specs.Volume.{joined, directory, volume_of}

-- the empty volume: a trailer with 1 and 0
pub empty_old : volume_of (row_of Old) [] ≡ bytes "X0009   1   0" ++ replicate 67 32
unfolding row_of spelled digits size_up_to cards_in fielded padded trailer_card joined directory volume_of
empty_old = refl

-- the first card of a line, and its directory card where it begins a volume and has twelve cards
pub first_card : List ℕ
first_card = bytes "H0000Line Name:             LINE 1            017" ++ replicate 31 32

pub entry_old : entry_card (row_of Old) first_card 1 12 ≡ bytes "X0001 LINE 1            017   1  12" ++ replicate 45 32
unfolding first_card row_of spelled digits size_up_to name_of sequence_of fielded padded entry_card
entry_old = refl
