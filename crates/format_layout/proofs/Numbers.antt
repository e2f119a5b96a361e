-- What is known of a field that was found by its number.
use mathlib.Core.Path.{◌≡◌, refl, sym, ◌∙◌, subst}
use mathlib.Core.Bool.{Bool, true, false, cond, ◌&&◌}
use Prim.Native.Nat.{ℕ, ◌+◌, ◌-◌, ◌<◌, ◌≤◌}
use native.Mathlib.Omega.{arith}
use borrow.Author.Tests.{leb-true, le-leb}
use lib.Dec.{T, leb}
use lib.ListN.{length, get_or}
use Rattle.format_layout.specs.declared.Field.{Field}
use Rattle.format_layout.specs.Layouts.{fields_of, label_of, field_of, no_field}
use Rattle.format_layout.proofs.Columns.{Lies, after_label, ends-before, wide, whole-only}
use Rattle.format_layout.specs.Columns.{width, wide_as, ranged}
use Rattle.std.specs.Prelude.{Some, None}

-- the field with a number is the one in that place of the layout
pub record Numbered (k n : ℕ) (f : Field) : Type 0 where
  pub counted : 1 ≤ n
  pub within : n ≤ length (fields_of k)
  pub is : get_or (fields_of k) (n - 1) no_field ≡ f

pub numbered : (k n : ℕ) (f : Field) → field_of k n ≡ Some f → Numbered k n f
unfolding field_of
numbered k n f e = go (leb 1 n) (leb n (length (fields_of k))) refl refl e
  where
    go : (a b : Bool) → leb 1 n ≡ a → leb n (length (fields_of k)) ≡ b
        → cond (a && b) (Some (get_or (fields_of k) (n - 1) no_field)) None ≡ Some f → Numbered k n f
    go true true p q e = record { counted = leb-true 1 n p; within = leb-true n (length (fields_of k)) q; is = cc }
    go true false p q e = absurd (let z : ◌≡◌ {A = ℕ} 0 1 = cc in omega arith)
    go false b p q e = absurd (let z : ◌≡◌ {A = ℕ} 0 1 = cc in omega arith)

module _ (k n : ℕ) (f : Field) (e : field_of k n ≡ Some f) where
  there : n - 1 < length (fields_of k)
  there = omega (arith, (numbered k n f e).counted, (numbered k n f e).within)

  -- it stands on the card, after the label
  pub found_lies : Lies (6 + length (label_of k)) f
  found_lies = subst (λ (g : Field). Lies (6 + length (label_of k)) g) (numbered k n f e).is (after_label k (n - 1) there)

  -- its width is one of its kind
  pub found_wide : T (wide_as f.kind (width f))
  found_wide = subst (λ (g : Field). T (wide_as g.kind (width g))) (numbered k n f e).is (wide k (n - 1) there)

  -- a range other than any is one of a whole number
  pub found-ranged : T (ranged f.kind f.range)
  found-ranged = subst (λ (g : Field). T (ranged g.kind g.range)) (numbered k n f e).is (whole-only k (n - 1) there)

-- a number below the count names a field
pub never_nothing : (k n : ℕ) → n < length (fields_of k) → field_of k (n + 1) ≡ None → ⊥
unfolding field_of
never_nothing k n h e = apart (sym there ∙ e)
  where
    there : field_of k (n + 1) ≡ Some (get_or (fields_of k) (n + 1 - 1) no_field)
    there = rw (le-leb 1 (n + 1) (omega arith), le-leb (n + 1) (length (fields_of k)) (omega arith))

    apart : {f : Field} → Some f ≡ None → ⊥
    apart q = let z : ◌≡◌ {A = ℕ} 0 1 = cc in omega arith

-- a field ends before one with a higher number begins
pub found-apart : (k m n : ℕ) (f g : Field) → field_of k m ≡ Some f → field_of k n ≡ Some g → m < n → f.last < g.first
found-apart k m n f g e d h =
    subst (λ (x : Field). x.last < g.first) (numbered k m f e).is
    (subst (λ (x : Field). (get_or (fields_of k) (m - 1) no_field).last < x.first) (numbered k n g d).is
    (ends-before k (m - 1) (n - 1) (omega (arith, (numbered k m f e).counted)) (there k n g d)))
