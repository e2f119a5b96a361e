-- A column that does no more than define refers to no key, and states nothing.
use mathlib.Core.Path.{◌≡◌}
use mathlib.Core.Bool.{false}
use mathlib.Core.List.{List, []}
use Prim.Native.Nat.{ℕ}
use Rattle.header_check.specs.forms.Cards.{layout_of}
use Rattle.tie_rules.specs.Ties.{refers, states_count, states_own}
use Rattle.tie_rules.specs.Keys.{key_at}

pub record Defining (s : List ℕ) (column : ℕ) : Type 0 where
  pub key : key_at refers s column ≡ []
  pub count : states_count (layout_of s) column ≡ false
  pub own : states_own (layout_of s) column ≡ false
