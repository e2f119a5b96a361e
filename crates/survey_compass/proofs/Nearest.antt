-- The nearest listed direction: the least rank, and the pair that has it.
use Prim.Native.Nat.{ℕ, zero, suc, ◌+◌, ◌-◌, ◌*◌, ◌≤◌, ◌<◌, min}
use native.Mathlib.Decide.{dec_le}
use native.Mathlib.Nat.{mod-lt}
use native.Mathlib.Omega.{arith}
use mathlib.Core.Path.{◌≡◌, refl, sym, ◌∙◌}
use mathlib.Core.Bool.{true}
use mathlib.Core.List.{List, [], ◌∷◌}
use mathlib.Core.Logic.{◌⊎◌, inl, inr}
use borrow.Author.Tests.{eq-eqb, ne_eqb}
use Rattle.base_lists.proofs.Finding.{first-least}
use Rattle.survey_compass.specs.Directions.{mark_of, apart, unlisted, rank_of, rank_at, least_to, least_rank, is_nearest, nearest}

-- a direction is one of 360
pub mark_low : (l : List ℕ) → mark_of l ≤ 360
unfolding mark_of
mark_low [] = omega arith
mark_low (d ∷ ds) = omega (arith, mod-lt d {m = 360} (omega arith))

-- how far two directions lie apart
pub apart_low : (a b : ℕ) → apart a b < 360
unfolding apart
apart_low a b = omega (arith, mod-lt (a + 360 - b) {m = 360} (omega arith))

-- the rank of a direction
pub rank_none : (asked mark : ℕ) → mark ≡ 0 → unlisted ≡ rank_of asked mark
unfolding rank_of
rank_none asked mark z = rw (eq-eqb mark 0 z)

pub rank_some : (asked mark far : ℕ) → (mark ≡ 0 → ⊥) → far ≡ apart asked (mark - 1) → 360 * far + (mark - 1) ≡ rank_of asked mark
unfolding rank_of
rank_some asked mark far h e = rw (ne_eqb mark 0 h, e)

module _ (s : List ℕ) (asked : ℕ) where
  -- a pair has it, unless no direction is listed
  abbrev Had : ℕ → ℕ → Type 0
  Had n l = (l ≡ unlisted) ⊎ ((i : ℕ) × (i < n) × (rank_at s asked i ≡ l))

  had_more : (n l r : ℕ) → rank_at s asked n ≡ r → Had n l → Had (suc n) (min l r)
  had_more n l r q (inl e) = elim (dec_le r l) [
    | yes h ↦ inr (n, omega arith, omega (arith, q, h))
    | no h ↦ inl (omega (arith, e, h))
  ]
  had_more n l r q (inr w) = elim (dec_le r l) [
    | yes h ↦ inr (n, omega arith, omega (arith, q, h))
    | no h ↦ inr (w.0, omega (arith, w.1), omega (arith, w.2, h))
  ]

  pub least_had : (n : ℕ) → Had n (least_to s asked n)
  unfolding least_to
  least_had zero = inl refl
  least_had (suc n) = had_more n (least_to s asked n) (rank_at s asked n) refl (least_had n)

  -- a pair that has it is the nearest
  pub nearest-is : (i r least : ℕ) → r ≡ rank_at s asked i → least ≡ least_rank s asked → r ≡ least → is_nearest s asked i ≡ true
  unfolding is_nearest
  nearest-is i r least e q h = eq-eqb (rank_at s asked i) (least_rank s asked) (sym e ∙ h ∙ q)

  pub nearest_below : (least_rank s asked ≡ unlisted → ⊥) → nearest s asked < 8
  unfolding nearest least_rank
  nearest_below h = go (least_had 8)
    where
      go : Had 8 (least_to s asked 8) → nearest s asked < 8
      go (inl e) = absurd (h e)
      go (inr w) = omega (arith, w.1, first-least (is_nearest s asked) 8 w.0 (nearest-is w.0 (rank_at s asked w.0) (least_to s asked 8) refl refl w.2))
