-- Whether a field of a card is needed: its columns, the second set, the need as the card stands and once the field is blank.
use Rattle.std.specs.Prelude.{ℕ, suc, ◌-◌, List, [], ◌∷◌, Bool, false, ◌&&◌, ◌||◌, not, take, drop, eqb, Option, Some, None}
use Rattle.value_text.specs.text.Texts.{text_end}
use Rattle.format_layout.specs.declared.Field.{Field}
use Rattle.format_layout.specs.Layouts.{fields_of}

-- a field's columns
unfoldable pub columns_of : Field → List ℕ → List ℕ
columns_of f s = take (f.last - (f.first - 1)) (drop (f.first - 1) s)

unfoldable pub is_blank : List ℕ → Bool
is_blank t = eqb (text_end t) 0

-- a field of the second set that is not blank
abbrev pub second_at : List ℕ → Field → Bool
second_at s f = f.second && not (is_blank (columns_of f s))

unfoldable pub second_by : List ℕ → Option Field → Bool
second_by s None = false
second_by s (Some f) = second_at s f

unfoldable pub any_second : List ℕ → List Field → Bool
any_second s [] = false
any_second s (f ∷ fs) = second_at s f || any_second s fs

-- a field is needed: of a second set only where that set is present
unfoldable pub needed_on : ℕ → List ℕ → Field → Bool
needed_on k s f = f.needed && (not f.second || any_second s (fields_of k))

-- a field of the second set that is not blank, other than the one with number n, the first of the list having number m
unfoldable pub other_second : List ℕ → ℕ → ℕ → List Field → Bool
other_second s n m [] = false
other_second s n m (f ∷ fs) = (not (eqb m n) && second_at s f) || other_second s n (suc m) fs

-- a field is needed on the card as it stands once the field is blank
unfoldable pub needed_after : ℕ → List ℕ → ℕ → Field → Bool
needed_after k s n f = f.needed && (not f.second || other_second s n 1 (fields_of k))
