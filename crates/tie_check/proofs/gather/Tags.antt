-- A tag tells the vessel digit and the card that it was made of.
use Prim.Native.Nat.{ℕ}
use native.Mathlib.Omega.{arith}
use mathlib.Core.Path.{◌≡◌}
use mathlib.Core.List.{List}
use Rattle.tie_rules.specs.Keys.{vessel_of}
use Rattle.tie_laws.proofs.Vessels.{vessel_low}
use Rattle.tie_check.specs.packed.Numbers.{tag_for, vessel_told, card_told}

module _ (s : List ℕ) (c : ℕ) where
  pub vessel_told_lem : vessel_told (tag_for s c) ≡ vessel_of s
  unfolding tag_for
  vessel_told_lem = omega (arith, vessel_low s)

  pub card_told_lem : card_told (tag_for s c) ≡ c
  unfolding tag_for
  card_told_lem = omega (arith, vessel_low s)
