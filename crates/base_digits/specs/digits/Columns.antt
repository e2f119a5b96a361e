-- What writing leaves in some columns: a text of just their width, or all of them as they were.
use Rattle.std.specs.Prelude.{ℕ, ◌-◌, List, ◌++◌, Bool, true, false, cond, length, replicate, leb, Option, None, Some, Result, Err, ⊤}
use Rattle.base_refusal.specs.declared.Unwritten.TheVariants.{NoRoom}
use Rattle.base_refusal.specs.declared.Unwritten.{Unwritten}
use Rattle.base_refusal.specs.Refusals.{no_refusal}

-- right adjusted in w columns, where it fits
unfoldable pub right_adjusted : ℕ → List ℕ → Option (List ℕ)
right_adjusted w t = cond (leb (length t) w) (Some (replicate (w - length t) 32 ++ t)) None

-- the first that there is
abbrev pub or_else : Option (List ℕ) → Option (List ℕ) → Option (List ℕ)
or_else (Some t) other = Some t
or_else None other = other

abbrev pub fits : Option (List ℕ) → Bool
fits (Some t) = true
fits None = false

-- the columns, once the text is written or there is none to write
abbrev pub written : Option (List ℕ) → List ℕ → List ℕ
written (Some t) old = t
written None old = old

-- what there is to write, or why there is nothing
pub data Entry : Type 0 where
  agreed : List ℕ → Entry
  refused : Unwritten → Entry

abbrev pub answer_of : Entry → Result ⊤ Unwritten
answer_of (agreed t) = no_refusal
answer_of (refused why) = Err why

-- the columns, once the entry is made or refused
abbrev pub entered_in : Entry → List ℕ → List ℕ
entered_in (agreed t) old = t
entered_in (refused why) old = old

-- a text for which there may be no room
abbrev pub room_of : Option (List ℕ) → Entry
room_of (Some t) = agreed t
room_of None = refused NoRoom
