-- `tie_rules::packing::packed_columns` meets its contract.
use mathlib.Core.Path.{sym, ap, ◌∙◌}
use lib.ListN.{length}
use Rattle.value_text.specs.text.Texts.{text_end}
use native.Mathlib.Omega.{arith}
use Rattle.tie_rules.proofs.packing.Steps.{told, text_long, text-none, text-packed, end_of_text}
use Rattle.tie_rules.proofs.packing.Bits.{bits_fit}
use Rattle.tie_rules.proofs.packing.packed_columns.Goals as goal

pub returns-then-t-gt-LONGEST : goal.returns-then-t-gt-LONGEST
returns-then-t-gt-LONGEST c =
    let t = c.stretch-t.result.now in
    told c.args.columns.now t c.stretch-t.ensures (text_long t (omega arith))

pub returns-then-bits-eq0 : goal.returns-then-bits-eq0
returns-then-bits-eq0 c =
    told c.args.columns.now _ c.stretch-t.ensures
    (text-none _ (sym c.bits_in-bits.ensures.bits ∙ c.if-bits-eq0.true))

pub overflow_add-result : goal.overflow_add-result
overflow_add-result c =
    let t = c.stretch-t.result.now in
    omega (arith, bits_fit t c.if-t-gt-LONGEST.false, c.bits_in-bits.ensures.bits)

pub returns : goal.returns
returns c =
    let s = c.args.columns.now in
    let t = c.stretch-t.result.now in
    let is = c.stretch-t.ensures in
    told s t is
    (text-packed t _ c.if-t-gt-LONGEST.false (ap text_end is ∙ end_of_text s ∙ sym (ap length is))
    c.bits_in-bits.ensures.bits c.if-bits-eq0.false)
