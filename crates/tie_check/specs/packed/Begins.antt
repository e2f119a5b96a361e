-- The columns of a card where a fault can stand: the last of its code, which can define a datum, and those where its fields begin.
use Rattle.std.specs.Prelude.{ℕ, List, [], ◌∷◌, map, Bool, false, cond, ◌||◌}
use Rattle.format_layout.specs.declared.Field.{Field}
use Rattle.format_layout.specs.declared.Form.TheVariants.{Angles}
use Rattle.format_layout.specs.Layouts.{fields_of}
use Rattle.card_field.specs.judging.Fields.{misplaced_on}
use Rattle.tie_rules.specs.Ties.{tie_columns}

-- all of them, in rising order
unfoldable pub begins : ℕ → List ℕ
begins k = 5 ∷ map (λ (f : Field). f.first) (fields_of k)

-- the columns that are walked over: these on a card with a misplaced number, those that can carry a tie on any other
unfoldable pub walked : Bool → ℕ → List ℕ
walked left k = cond left (begins k) (tie_columns k)

-- one of some fields has a misplaced number
unfoldable pub any_left : List ℕ → List Field → Bool
any_left s [] = false
any_left s (f ∷ fs) = misplaced_on s f Angles || any_left s fs
