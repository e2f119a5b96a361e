-- `format_code::read_by` meets its contract: the walk keeps: what the spec finds is what it finds from the present layout on.
use mathlib.Core.Path.{refl, sym, ◌∙◌}
use native.Mathlib.Omega.{arith}
use borrow.Author.Rules.{rules}
use Rattle.format_layout.specs.packed.Rows.{head_of, word_of}
use Rattle.format_code.specs.Codes.{codes}
use Rattle.format_code.proofs.Places.{codes-count}
use Rattle.format_code.proofs.Walk.{hit, on, is_read_lem, unread}
use Rattle.format_code.proofs.Worded.{read-inside, read_past, fits_read}
use Rattle.format_code.proofs.read_by.Goals as goal

pub word_of-requires : goal.word_of-requires
word_of-requires c =
    let h = c.head_of-head.ensures in
    omega arith

pub loop-head-init : goal.loop-head-init
unfolding head_of word_of
loop-head-init c =
    let h = c.head_of-head.ensures in (
      c.start_of-number.ensures.0,
      record {
        five = search rules;
        head-is = h.0;
        fourth_is = refl;
        fifth_is = refl;
        first_byte = h.1;
        second-byte = h.2;
        third_byte = h.3;
      },
      c.start_of-number.ensures.1 _ (omega (arith, c.word_of.ensures, h.0)),
    )

pub returns-then-word-eq0 : goal.returns-then-word-eq0
returns-then-word-eq0 c =
    let b = c.loop-head in
    let p = read_past b.number _ c.row_of-word.ensures c.if-word-eq0.true in
    c.passed_by.ensures ∙ unread _ b.number (omega (arith, b.invariant.0)) b.invariant.2

pub returns-then-fits_word : goal.returns-then-fits_word
returns-then-fits_word c =
    let b = c.loop-head in
    let w = c.row_of-word.ensures in
    let i = read-inside b.number _ w c.if-word-eq0.false in
    let f = fits_read b.number _ w _ _ _ _ b.invariant.1 i in
    let h = hit codes b.number _ (omega (arith, codes-count)) (sym f ∙ sym c.fits_word.ensures ∙ c.if-fits_word.true) b.invariant.2 in
    is_read_lem _ b.number (sym h) i

pub overflow_add-number : goal.overflow_add-number
overflow_add-number c =
    let b = c.loop-head in
    let w = c.row_of-word.ensures in
    let i = read-inside b.number _ w c.if-word-eq0.false in
    omega arith

pub loop-head-smaller : goal.loop-head-smaller
loop-head-smaller c =
    let b = c.loop-head in
    let w = c.row_of-word.ensures in
    let i = read-inside b.number _ w c.if-word-eq0.false in
    omega arith

pub loop-head-preserved : goal.loop-head-preserved
loop-head-preserved c =
    let b = c.loop-head in
    let w = c.row_of-word.ensures in
    let i = read-inside b.number _ w c.if-word-eq0.false in
    let f = fits_read b.number _ w _ _ _ _ b.invariant.1 i in (
      omega arith,
      b.invariant.1,
      on codes b.number _ (omega (arith, codes-count)) (sym f ∙ sym c.fits_word.ensures ∙ c.if-fits_word.false) b.invariant.2,
    )
