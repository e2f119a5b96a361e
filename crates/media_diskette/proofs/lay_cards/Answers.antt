-- `media_diskette::lay_cards` meets its contract: what was laid, and what is left of the file.
use Prim.Native.Nat.{ℕ, ◌+◌, ◌-◌, ◌≤◌, ◌<◌}
use mathlib.Core.Path.{◌≡◌, sym, ap, ◌∙◌}
use mathlib.Core.List.{List}
use lib.ListN.{length, take, drop}
use native.Mathlib.Omega.{arith}
use borrow.Author.Rules.{rules}
use Rattle.media_diskette.specs.Lines.{line_length, lines_in}
use Rattle.media_diskette.proofs.Filing.{filed, Filed, rest_is, laid_file, front_left, lines_left, end_left, next_card, cards-over, part_wide}
use Rattle.media_diskette.proofs.lay_cards.Goals as goal

pub loop-i-init : goal.loop-i-init
loop-i-init c =
    let f = c.args.file.now in
    let p = c.requires in
    (search rules, search rules, filed f p.0, omega (arith, p.1), laid_file f c.args.out.now p.0)

pub slice_bounds-lay_card-count : goal.slice_bounds-lay_card-count
slice_bounds-lay_card-count c =
    let l = c.loop-i in
    let f = c.args.file.now in
    omega (arith, l.invariant.3, lines_left f l.i c.loop-i-test.true l.invariant.2)

pub slice_bounds-lay_card-start : goal.slice_bounds-lay_card-start
slice_bounds-lay_card-start c =
    let l = c.loop-i in
    let f = c.args.file.now in
    omega (arith, l.invariant.3, lines_left f l.i c.loop-i-test.true l.invariant.2)

pub slice_bounds-lay_card-end : goal.slice_bounds-lay_card-end
slice_bounds-lay_card-end c =
    let l = c.loop-i in
    let f = c.args.file.now in
    omega (arith, l.invariant.3, lines_left f l.i c.loop-i-test.true l.invariant.2)

pub lay_card-i-requires : goal.lay_card-i-requires
lay_card-i-requires c =
    let l = c.loop-i in
    let f = c.args.file.now in
    let line = front_left f l.i c.loop-i-test.true l.invariant.2 in (
      omega (arith, ap line_length (rest_is f l.i), line.short),
      part_wide l.out l.at (omega (arith, l.invariant.3, lines_left f l.i c.loop-i-test.true l.invariant.2)),
    )

-- the line that is laid, and that it ends within the file
steps : (f : List ℕ) (i r : ℕ) → r ≡ line_length (take (length f - i) (drop i f)) + 2 → r ≡ line_length (drop i f) + 2
steps f i r e = e ∙ ap (λ (s : List ℕ). line_length s + 2) (rest_is f i)

ends : (f : List ℕ) (i r : ℕ) → i < length f → Filed (drop i f) (lines_in (drop i f))
    → r ≡ line_length (take (length f - i) (drop i f)) + 2 → i + r ≤ length f
ends f i r more filed e = omega (arith, steps f i r e, end_left f i more filed)

pub overflow_add-i : goal.overflow_add-i
overflow_add-i c =
    let l = c.loop-i in
    omega (arith, ends c.args.file.now l.i _ c.loop-i-test.true l.invariant.2 c.lay_card-i.ensures.size)

pub overflow_add-at : goal.overflow_add-at
overflow_add-at c =
    let l = c.loop-i in
    let f = c.args.file.now in
    omega (arith, l.invariant.3, lines_left f l.i c.loop-i-test.true l.invariant.2, l.invariant.1)

pub loop-i-smaller : goal.loop-i-smaller
loop-i-smaller c =
    let l = c.loop-i in
    let f = c.args.file.now in
    let size = c.lay_card-i.ensures.size in
    omega (arith, ends f l.i _ c.loop-i-test.true l.invariant.2 size, steps f l.i _ size)

pub loop-i-preserved : goal.loop-i-preserved
loop-i-preserved c =
    let l = c.loop-i in
    let f = c.args.file.now in
    let r = c.lay_card-i in
    let x = next_card f l.i c.loop-i-test.true l.invariant.2 l.out r.new.out l.at r.result l.invariant.3 r.ensures.size r.ensures.out in
    (ends f l.i _ c.loop-i-test.true l.invariant.2 r.ensures.size, x.0 ∙ l.invariant.1, x.1, x.2, x.3 ∙ l.invariant.4)

pub shape_of-out : goal.shape_of-out
shape_of-out c = c.loop-i.invariant.1

pub returns : goal.returns
returns c =
    let l = c.loop-i in
    sym (cards-over c.args.file.now l.out l.i l.at c.loop-i-test.false) ∙ l.invariant.4
