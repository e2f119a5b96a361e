-- `volume_edit::write` meets its contract.
use mathlib.Core.Path.{refl, sym}
use Rattle.volume_edit.proofs.Appends.{may_held, may_cards, may_count, first-within, may_fit, left_is}
use native.Mathlib.Omega.{arith}
use Rattle.volume_edit.proofs.write.Goals as goal

pub overflow_mul-cards : goal.overflow_mul-cards
overflow_mul-cards c =
    omega (arith, may_held c.args.form c.args.cards c.args.buffer.now c.args.header.now c.requires)

pub slice_bounds-first_of-end : goal.slice_bounds-first_of-end
slice_bounds-first_of-end c =
    omega (arith, may_held c.args.form c.args.cards c.args.buffer.now c.args.header.now c.requires)

pub slice_bounds-first_of-end-2 : goal.slice_bounds-first_of-end-2
slice_bounds-first_of-end-2 c =
    sym (may_cards c.args.form c.args.cards c.args.buffer.now c.args.header.now c.requires).whole

pub first_of-first-requires : goal.first_of-first-requires
first_of-first-requires c = may_cards c.args.form c.args.cards c.args.buffer.now c.args.header.now c.requires

pub overflow_sub-cards : goal.overflow_sub-cards
overflow_sub-cards c =
    omega (arith, c.first_of-first.ensures, first-within c.args.form c.args.cards c.args.buffer.now c.args.header.now c.requires)

pub lay_header-requires : goal.lay_header-requires
lay_header-requires c =
    may_fit c.args.form c.args.cards c.args.buffer.now c.args.header.now c.requires _ c.first_of-first.ensures

pub overflow_add-result : goal.overflow_add-result
overflow_add-result c =
    omega (arith, may_count c.args.form c.args.cards c.args.buffer.now c.args.header.now c.requires)

pub overflow_add-result-2 : goal.overflow_add-result-2
overflow_add-result-2 c =
    omega (arith, may_count c.args.form c.args.cards c.args.buffer.now c.args.header.now c.requires)

pub returns : goal.returns
returns c =
    record {
      number = refl;
      buffer = left_is c.args.form c.args.cards c.args.buffer.now c.args.header.now c.requires _ c.first_of-first.ensures _ c.lay_header.ensures;
    }
