-- What is missing on a card that holds its code and label and is blank otherwise.
use Rattle.std.specs.Prelude.{ℕ, ◌<◌, ◌≡◌, List, [], ◌∷◌, true, false, cond, ◌&&◌, not, length, get_or, eqb}
use Rattle.format_layout.specs.declared.Field.{Field}
use Rattle.format_layout.specs.Layouts.{no_field}

-- 11 for a field that may never be blank: a second set is absent on a new card
abbrev pub missing : Field → ℕ
missing f = cond (f.needed && not f.second) 11 0

-- the offence of a column: that of the field which begins there
unfoldable pub missing_at : List Field → ℕ → ℕ
missing_at [] c = 0
missing_at (f ∷ fs) c = cond (eqb c f.first) (missing f) (missing_at fs c)

-- a needed field of the first set begins in column d
pub record Missing (fs : List Field) (d : ℕ) : Type 0 where
  pub place : ℕ
  pub there : place < length fs
  pub needed : (get_or fs place no_field).needed ≡ true
  pub first-set : (get_or fs place no_field).second ≡ false
  pub begins : (get_or fs place no_field).first ≡ d
