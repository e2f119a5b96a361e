-- Codes at the edge of the lists, as one statement.
use mathlib.Core.Path.{◌≡◌, refl}
use mathlib.Core.List.{List, [], ◌∷◌}
use Prim.Native.String.{String}
use Rattle.format_code.specs.declared.Code.{Code}
use Rattle.format_code.specs.declared.Code.TheVariants.{Read, Passed, Unknown}
use Rattle.format_layout.specs.Shape.{bytes}
use Rattle.format_layout.specs.Table.{layouts, passed_codes}
use Rattle.format_code.specs.Codes.{byte_fits, fits_at, fits, codes, place_in, code_at, code_of}

abbrev kinds : List String → List Code
kinds [] = []
kinds (s ∷ ss) = code_of (bytes s) ∷ kinds ss

-- the vessel digit 0 is read on the line parameters, waypoints and network nodes only
pub vessel_digits : kinds ("H0008" ∷ "H0009" ∷ "H0018" ∷ "H0110" ∷ "H0111" ∷ "H1601" ∷ "H1700" ∷ "H2100" ∷ "H2200" ∷ "H2210" ∷ "H5100" ∷ [])
    ≡ Read 8 ∷ Read 9 ∷ Read 8 ∷ Unknown ∷ Read 14 ∷ Unknown ∷ Unknown ∷ Unknown ∷ Unknown ∷ Read 22 ∷ Read 28 ∷ []
unfolding byte_fits fits_at fits codes place_in code_at code_of layouts passed_codes
vessel_digits = refl

-- the passed codes are the ones printed in the list of codes
pub as_printed : kinds ("H0210" ∷ "H0211" ∷ "H1410" ∷ "H6101" ∷ "H5306" ∷ "H1612" ∷ "H5600" ∷ "H6700" ∷ "H2300" ∷ "H2301" ∷ "H2310" ∷ "H2311" ∷ [])
    ≡ Passed ∷ Unknown ∷ Passed ∷ Passed ∷ Passed ∷ Passed ∷ Unknown ∷ Unknown ∷ Read 23 ∷ Read 25 ∷ Read 24 ∷ Passed ∷ []
unfolding byte_fits fits_at fits codes place_in code_at code_of layouts passed_codes
as_printed = refl

-- the cards of the network
pub of_networks : kinds ("H1611" ∷ "H5000" ∷ "H5001" ∷ "H5110" ∷ "H5200" ∷ "H5299" ∷ "H5306" ∷ "H5406" ∷ "H5500" ∷ [])
    ≡ Read 26 ∷ Read 27 ∷ Unknown ∷ Read 28 ∷ Read 29 ∷ Read 29 ∷ Passed ∷ Read 30 ∷ Passed ∷ []
unfolding byte_fits fits_at fits codes place_in code_at code_of layouts passed_codes
of_networks = refl

-- a wild card is no digit; comments of events, event cards and texts of another length are unknown
pub unknown_texts : kinds ("H00#8" ∷ "H22@0" ∷ "C0002" ∷ "C0003" ∷ "E1000" ∷ "T14@0" ∷ "H000" ∷ "H00000" ∷ "" ∷ "     " ∷ [])
    ≡ Unknown ∷ Unknown ∷ Read 11 ∷ Unknown ∷ Unknown ∷ Unknown ∷ Unknown ∷ Unknown ∷ Unknown ∷ Unknown ∷ []
unfolding byte_fits fits_at fits codes place_in code_at code_of layouts passed_codes
unknown_texts = refl
