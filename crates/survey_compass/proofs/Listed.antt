-- The steps of counting: cards for a serial, pairs that list a direction.
use Prim.Native.Nat.{ℕ, ◌+◌, ◌*◌, ◌-◌, ◌%◌, ◌≤◌}
use native.Mathlib.Omega.{arith}
use mathlib.Core.Path.{◌≡◌, refl, sym, ap, ◌∙◌}
use mathlib.Core.Bool.{Bool}
use mathlib.Core.List.{List, [], ◌∷◌}
use lib.Dec.{eqb}
use lib.ListN.{length, take, drop, length-drop}
use lib.Seq.{length-take-le}
use borrow.Author.Tests.{eq-eqb, ne_eqb}
use Rattle.base_lists.specs.Parts.{alike}
use Rattle.value_text.specs.text.Texts.{text_of}
use Rattle.header_check.specs.forms.Cards.{layout_of}
use Rattle.tie_rules.specs.Keys.{between}
use Rattle.tie_rules.specs.packed.Rows.{marked}
use Rattle.survey_compass.specs.Serials.{is_for}
use Rattle.survey_compass.specs.Directions.{mark_of}

-- a card is for a serial
module _ (serial s : List ℕ) (k : ℕ) (is : k ≡ layout_of s) where
  pub for_none : (k ≡ 24 → ⊥) → eqb k 24 ≡ is_for serial s
  unfolding is_for
  for_none h = rw (← is, ne_eqb k 24 h)

  pub for_some : k ≡ 24 → (t : List ℕ) → t ≡ text_of (between 7 14 s) → (r : Bool) → r ≡ alike t serial → r ≡ is_for serial s
  unfolding is_for
  for_some h t e r q = rw (← is, eq-eqb k 24 h, ← e) q

-- a direction by the number that was read, counted from 1
module _ (l : List ℕ) (n : ℕ) (read : n ≡ marked l) where
  pub mark-none : n ≡ 0 → 0 ≡ mark_of l
  unfolding marked mark_of
  mark-none z = go l (sym read ∙ z)
    where
      go : (l : List ℕ) → marked l ≡ 0 → 0 ≡ mark_of l
      go [] e = refl
      go (d ∷ ds) e = absurd (omega (arith, e))

  pub mark-some : (n ≡ 0 → ⊥) → (n - 1) % 360 + 1 ≡ mark_of l
  unfolding marked mark_of
  mark-some h = go l read
    where
      go : (l : List ℕ) → n ≡ marked l → (n - 1) % 360 + 1 ≡ mark_of l
      go [] e = absurd (h e)
      go (d ∷ ds) e = let k : n - 1 ≡ d = omega (arith, e) in ap (λ m. m % 360 + 1) k

-- a card of a header, as the code takes it out
pub length_part : (h : List ℕ) (c : ℕ) → c * 80 + 80 ≤ length h → length (take (c * 80 + 80 - c * 80) (drop (c * 80) h)) ≡ 80
length_part h c l =
    let e : c * 80 + 80 - c * 80 ≡ 80 = omega arith in
    rw e (length-take-le 80 (drop (c * 80) h) (rw length-drop (omega (arith, l))))
