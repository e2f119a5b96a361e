-- `format_code::passed_by` meets its contract: the walk keeps: what the spec finds is what it finds from the present passed code on.
use mathlib.Core.Path.{refl, sym, ◌∙◌}
use native.Mathlib.Omega.{arith}
use borrow.Author.Rules.{rules}
use Rattle.format_layout.specs.Table.{passed_codes}
use Rattle.format_layout.specs.packed.Rows.{head_of}
use Rattle.format_code.proofs.Places.{passed-count}
use Rattle.format_code.proofs.Walk.{hit, on, over, end_passed, end_unknown}
use Rattle.format_code.proofs.Worded.{passed-inside, passed_past, fits-passed}
use Rattle.format_code.proofs.passed_by.Goals as goal

pub loop-head-init : goal.loop-head-init
unfolding head_of
loop-head-init c =
    let h = c.head_of-head.ensures in (
      omega arith,
      record {
        five = search rules;
        head-is = h.0;
        fourth_is = refl;
        fifth_is = refl;
        first_byte = h.1;
        second-byte = h.2;
        third_byte = h.3;
      },
      omega arith,
    )

pub returns-then-word-eq0 : goal.returns-then-word-eq0
returns-then-word-eq0 c =
    let b = c.loop-head in
    let p = passed_past b.number _ c.passed-word.ensures c.if-word-eq0.true in
    end_unknown _ b.number (over passed_codes b.number _ (omega (arith, passed-count)) b.invariant.2) p

pub returns-then-fits_word : goal.returns-then-fits_word
returns-then-fits_word c =
    let b = c.loop-head in
    let w = c.passed-word.ensures in
    let i = passed-inside b.number _ w c.if-word-eq0.false in
    let f = fits-passed b.number _ w _ _ _ _ b.invariant.1 i in
    let h = hit passed_codes b.number _ (omega (arith, passed-count)) (sym f ∙ sym c.fits_word.ensures ∙ c.if-fits_word.true) b.invariant.2 in
    end_passed _ b.number h i

pub overflow_add-number : goal.overflow_add-number
overflow_add-number c =
    let b = c.loop-head in
    let w = c.passed-word.ensures in
    let i = passed-inside b.number _ w c.if-word-eq0.false in
    omega arith

pub loop-head-smaller : goal.loop-head-smaller
loop-head-smaller c =
    let b = c.loop-head in
    let w = c.passed-word.ensures in
    let i = passed-inside b.number _ w c.if-word-eq0.false in
    omega arith

pub loop-head-preserved : goal.loop-head-preserved
loop-head-preserved c =
    let b = c.loop-head in
    let w = c.passed-word.ensures in
    let i = passed-inside b.number _ w c.if-word-eq0.false in
    let f = fits-passed b.number _ w _ _ _ _ b.invariant.1 i in (
      omega arith,
      b.invariant.1,
      on passed_codes b.number _ (omega (arith, passed-count)) (sym f ∙ sym c.fits_word.ensures ∙ c.if-fits_word.false) b.invariant.2,
    )
