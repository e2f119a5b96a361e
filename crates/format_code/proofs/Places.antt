-- Where a pattern stands among all: those of the layouts come first, and then the passed ones.
use mathlib.Core.Path.{◌≡◌, refl, ◌∙◌}
use mathlib.Core.List.{List, [], map}
use Prim.Native.Nat.{ℕ, ◌+◌, ◌<◌}
use native.Mathlib.Omega.{arith}
use lib.ListN.{length, get_or, drop, length-map, get_or-append, get_or-map}
use lib.Seq.{get_or-append-add}
use Rattle.format_layout.specs.Shape.{Layout}
use Rattle.format_layout.specs.Table.{layouts, passed_codes}
use Rattle.format_layout.specs.Layouts.{layout_at}
use Rattle.format_layout.specs.packed.Rows.{layout_count}
use Rattle.format_layout.proofs.Places.{empty, layouts-count}
use Rattle.format_code.specs.Codes.{codes, passed_count, pattern_count}

pub codes-count : length codes ≡ pattern_count
unfolding codes layouts passed_codes
codes-count = refl

pub passed-count : length passed_codes ≡ passed_count
unfolding passed_codes
passed-count = refl

abbrev pub code_in : Layout → List ℕ
code_in l = l.code

pub code_is : (k : ℕ) → k < layout_count → get_or codes k [] ≡ (layout_at k).code
unfolding codes layout_at
code_is k h =
    get_or-append (map code_in layouts) passed_codes [] k (omega (arith, length-map layouts code_in, layouts-count))
    ∙ get_or-map code_in layouts k empty

pub passed_is : (i : ℕ) → get_or codes (layout_count + i) [] ≡ get_or passed_codes i []
unfolding codes layouts
passed_is i = get_or-append-add (map code_in layouts) passed_codes i []

pub behind : drop layout_count codes ≡ passed_codes
unfolding codes layouts passed_codes
behind = refl
