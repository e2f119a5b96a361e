-- `card_check::offences::whole_offence` meets its contract: a size tells the number, or why there is none.
use mathlib.Core.Path.{ap, ◌∙◌}
use native.Mathlib.Omega.{arith}
use Prim.Native.Nat.{◌-◌}
use mathlib.Core.Bool.{cond}
use lib.IntN.{ℤ}
use mir.ValLaws.{to_z_pos}
use mir.Syntax.{w64}
use Rattle.format_layout.specs.packed.Rows.{unpack}
use Rattle.format_layout.specs.ranges.Ranges.{in_range}
use Rattle.card_check.proofs.offences.Sizes.{size_number, size_blank, size_odd, size_large, size_below}
use Rattle.card_check.proofs.offences.whole_offence.Goals as goal

pub returns-then-size-ge-ZERO : goal.returns-then-size-ge-ZERO
returns-then-size-ge-ZERO c s e =
    let a = c.args in
    c.range_offence.ensures
    ∙ ap (λ (z : ℤ). cond (in_range (unpack a.row).range z) 0 10) (to_z_pos w64 (a.size - 4) (omega (arith, c.requires)))
    ∙ size_number (unpack a.row) a.size s e c.if-size-ge-ZERO.true

pub returns-then-size-eq-BLANK : goal.returns-then-size-eq-BLANK
returns-then-size-eq-BLANK c s e = size_blank (unpack c.args.row) _ s e c.if-size-eq-BLANK.true

pub returns-then-size-eq-ODD : goal.returns-then-size-eq-ODD
returns-then-size-eq-ODD c s e = size_odd (unpack c.args.row) _ s e c.if-size-eq-ODD.true

pub returns-then-size-eq-LARGE : goal.returns-then-size-eq-LARGE
returns-then-size-eq-LARGE c s e = size_large (unpack c.args.row) _ s e c.if-size-eq-LARGE.true

pub returns : goal.returns
returns c s e =
    let a = c.args in
    c.range_offence-2.ensures ∙ size_below (unpack a.row) a.size s e (omega arith)
