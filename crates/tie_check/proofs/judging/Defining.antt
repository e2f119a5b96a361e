-- A column that refers to nothing, and states neither a count nor the card's own vessel, has no fault but a key defined twice.
use Prim.Native.Nat.{ℕ}
use mathlib.Core.Path.{◌≡◌, refl, sym}
use mathlib.Core.Bool.{Bool, true, false, false≢true, cond, ◌&&◌, ◌||◌}
use mathlib.Core.List.{List}
use lib.Dec.{eqb}
use Rattle.header_check.specs.forms.Cards.{layout_of}
use Rattle.tie_rules.specs.Ties.{refers}
use Rattle.tie_rules.specs.Keys.{is_none, holds_key}
use Rattle.tie_rules.specs.Ties.{states_count}
use Rattle.tie_rules.proofs.columns.Defining.{Defining}
use Rattle.tie_rules.specs.Faults.{undefined, ambiguous, contradicted, miscounted}

module _ (h s : List ℕ) (column : ℕ) (d : Defining s column) where
  no_reference : holds_key refers s column ≡ false
  unfolding holds_key is_none
  no_reference = rw d.key

  pub not-undefined : undefined h s column ≡ false
  unfolding undefined
  not-undefined = rw no_reference

  pub not-ambiguous : ambiguous h s column ≡ false
  unfolding ambiguous
  not-ambiguous = rw no_reference

  pub not-contradicted : contradicted h s column ≡ false
  unfolding contradicted
  not-contradicted = rw (d.own, no_reference)

  pub not-miscounted : miscounted h s column ≡ false
  unfolding miscounted states_count
  not-miscounted = go (eqb (layout_of s) 8 && eqb column 79) (eqb (layout_of s) 12) (eqb column 16) _ _ d.count
    where
      go : (t u v a b : Bool) → (t || (u && v)) ≡ false → cond t a (u && v && b) ≡ false
      go true u v a b q = absurd (false≢true (sym q))
      go false true true a b q = absurd (false≢true (sym q))
      go false true false a b q = refl
      go false false v a b q = refl
