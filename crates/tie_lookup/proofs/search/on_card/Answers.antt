-- `tie_lookup::search::on_card` meets its contract.
use mathlib.Core.Path.{◌≡◌, refl, ◌∙◌}
use mathlib.Core.Bool.{Bool, true, false}
use mir.Val.{bool_byte}
use native.Mathlib.Omega.{arith}
use Rattle.base_lists.specs.Count.{bit}
use Rattle.base_lists.proofs.Counting.{bit_le}
use Rattle.tie_lookup.proofs.search.OnCard.{bears-row, column_at_lem, no_times, times_more, held_first, held_more, all_found}
use Rattle.tie_lookup.proofs.search.on_card.Goals as goal

bool_bit : (b : Bool) → bool_byte b ≡ bit b
bool_bit true = refl
bool_bit false = refl

pub loop-slot-init : goal.loop-slot-init
loop-slot-init c = (omega arith, no_times _ _, held_first _ _)

pub loop-slot-preserved : goal.loop-slot-preserved
loop-slot-preserved c =
    let b = c.loop-slot in
    let s = c.args in
    let w = c.with-found.ensures in
    let m = c.from-more.ensures ∙ bool_bit c.bears_key.result in
    let e = bears-row s.card.now s.number b.slot _ _ _ c.layout_of-layout.ensures c.tie_of-row.ensures c.bears_key.ensures in
    let q = column_at_lem s.card.now s.number b.slot _ _ _ c.layout_of-layout.ensures c.tie_of-row.ensures c.column_of.ensures in
    let n = times_more s.card.now s.number b.slot _ _ _ b.invariant.1 e m in
    rw w.number (
      omega (arith, b.invariant.0, m, bit_le c.bears_key.result),
      n,
      held_more s.card.now s.number b.slot _ _ _ _ _ _ q e m w.only b.invariant.2,
    )

pub returns : goal.returns
returns c =
    let b = c.loop-slot in
    let s = c.args in
    let q : b.slot ≡ 5 = omega (arith, c.loop-slot-test.false, b.auto.slot-end) in (
      all_found s.card.now s.number b.slot _ _ q b.invariant.1 b.invariant.2,
      omega (arith, q, b.invariant.0),
      b.invariant.2.low,
    )
