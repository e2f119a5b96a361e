-- Each name is the number of its code in the table.
use mathlib.Core.Path.{◌≡◌, refl}
use mathlib.Core.List.{[], ◌∷◌, map}
use Rattle.format_layout.specs.Shape.{bytes}
use Rattle.format_layout.specs.Table.{layouts}
use Rattle.format_layout.specs.Layouts.{layout_at}
use Rattle.format_layout.specs.Names.{
  H00X8,
  H00X9,
  H0100,
  H0101,
  H011X,
  H0120,
  H17X0,
  H17X1,
  H21X0,
  H21X1,
  H21X2,
  H21X3,
  H22X0,
  H23X0,
  H16X1,
  H5000,
  H51X0,
  H52XX,
  H54XX,
}

pub named : map (λ k. (layout_at k).code)
    (H00X8 ∷ H00X9 ∷ H0100 ∷ H0101 ∷ H011X ∷ H0120 ∷ H17X0 ∷ H17X1 ∷ H21X0 ∷ H21X1 ∷ H21X2 ∷ H21X3 ∷ H22X0 ∷ H23X0 ∷
    H16X1 ∷ H5000 ∷ H51X0 ∷ H52XX ∷ H54XX ∷ [])
    ≡ bytes "H00#8" ∷ bytes "H00#9" ∷ bytes "H0100" ∷ bytes "H0101" ∷ bytes "H011@" ∷ bytes "H0120" ∷ bytes "H17@0" ∷
    bytes "H17@1" ∷ bytes "H21@0" ∷ bytes "H21@1" ∷ bytes "H21@2" ∷ bytes "H21@3" ∷ bytes "H22@0" ∷ bytes "H23@0" ∷
    bytes "H16@1" ∷ bytes "H5000" ∷ bytes "H51#0" ∷ bytes "H52##" ∷ bytes "H54##" ∷ []
unfolding layout_at layouts
named = refl
