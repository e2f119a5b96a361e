-- `media_diskette::measure` meets its contract: the answer for the cards that are left stays the same.
use Rattle.std.proofs.Common.{◌≡◌, ℕ, ◌+◌, ◌/◌, length, ap, sym, ◌∙◌, arith}
use mathlib.Core.List.{List}
use Rattle.std.specs.Slice.Iter.{chunks_exact_rest}
use Rattle.std.specs.Iterator.Adapters.{enumerate_source, enumerate_count}
use Rattle.base_refusal.specs.Refusals.{refusal}
use Rattle.media_diskette.proofs.Judging.{measured, measured_begins, measured_over, one_more, card_bad, card_good}
use Rattle.media_diskette.proofs.measure.Goals as goal
use Rattle.std.specs.Prelude.{Err}

pub loop-place-init : goal.loop-place-init
loop-place-init c =
    let e : chunks_exact_rest (enumerate_source c.into_iter-place-iterator.result) ≡ c.args.cards.now = cc in
    let z : enumerate_count c.into_iter-place-iterator.result ≡ 0 = cc in
    record {
      each = cc;
      few = rw (e, z) (omega arith);
      small = omega arith;
      same = rw (e, z) (measured_begins (length c.args.cards.now / 80) c.args.cards.now);
    }

pub returns-then-bad-lt-CARD : goal.returns-then-bad-lt-CARD
returns-then-bad-lt-CARD c =
    let l = c.loop-place in
    let s = c.in-Some.ensures.steps in
    let card = c.in-Some.card.now in
    ap Err c.refuse.ensures
    ∙ ap (λ n. Err (refusal 4 (n + 1) (c.first_bad-bad.result + 1))) s.1
    ∙ card_bad card (chunks_exact_rest (enumerate_source c.next.new.self)) (s.0.1.1 ∙ l.invariant.each) (enumerate_count l.place-iterator) l.size
    c.first_bad-bad.result c.first_bad-bad.ensures c.if-bad-lt-CARD.true
    ∙ ap (λ (h : List ℕ). measured (enumerate_count l.place-iterator) (length h / 80) l.size h) (sym s.0.1.0)
    ∙ sym l.invariant.same

pub loop-place-preserved : goal.loop-place-preserved
loop-place-preserved c =
    let l = c.loop-place in
    let s = c.in-Some.ensures.steps in
    let card = c.in-Some.card.now in
    let rest = chunks_exact_rest (enumerate_source c.next.new.self) in
    let count = enumerate_count l.place-iterator in
    let long : length card ≡ 80 = s.0.1.1 ∙ l.invariant.each in
    let more = one_more card rest long count l.size in
    record {
      each = s.0.0 ∙ l.invariant.each;
      few = omega (arith, more, s.2, l.invariant.few, ap (λ (h : List ℕ). length h / 80) s.0.1.0);
      small = omega (arith, c.text_end.ensures.within, long, s.2, l.invariant.small);
      same = l.invariant.same ∙ ap (λ (h : List ℕ). measured count (length h / 80) l.size h) s.0.1.0
          ∙ card_good card rest long count l.size c.first_bad-bad.result c.text_end.result c.first_bad-bad.ensures c.if-bad-lt-CARD.false
          c.text_end.ensures.found
          ∙ ap (λ n. measured n (length rest / 80) (l.size + (c.text_end.result + 2)) rest) (sym s.2);
    }

pub returns : goal.returns
returns c =
    let l = c.loop-place in
    let s = c.in-None.ensures.steps in
    measured_over (chunks_exact_rest (enumerate_source l.place-iterator)) (enumerate_count l.place-iterator) l.size
    (omega (arith, s.0.1.0, l.invariant.each))
    ∙ sym l.invariant.same
