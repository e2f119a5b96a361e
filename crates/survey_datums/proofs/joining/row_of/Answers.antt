-- `survey_datums::joining::row_of` meets its contract.
use native.Mathlib.Omega.{arith}
use mathlib.Core.Path.{◌≡◌, refl, ◌∙◌}
use lib.ListN.{get_or-replicate}
use Rattle.std.specs.Iterator.Adapters.{enumerate_count}
use Rattle.header_check.specs.forms.Cards.{cards_in}
use Rattle.header_laws.proofs.Accepted.{few-cards}
use Rattle.survey_datums.proofs.Noting.{
  none_yet,
  none_ever,
  reading_begins,
  reading_more,
  reading_over,
  filled_more,
  filled_same,
  row_told,
}
use Rattle.survey_datums.proofs.joining.row_of.Goals as goal

pub returns-then-times-datum-eq0 : goal.returns-then-times-datum-eq0
returns-then-times-datum-eq0 c = none_ever c.args.header.now c.args.times c.requires.counted c.args.datum
    c.requires.there c.if-times-datum-eq0.true

pub loop-place-init : goal.loop-place-init
loop-place-init c =
    let z : enumerate_count c.into_iter-place-iterator.result ≡ 0 = cc in
    record {
      reading = reading_begins _ _ _ _ (cc) (cc) z;
      long = refl;
      filled = rw z (λ b l. get_or-replicate 9 b 0 0 l ∙ none_yet c.args.header.now c.args.datum b);
    }

pub overflow_cast-place : goal.overflow_cast-place
unfolding cards_in
overflow_cast-place c =
    let s = c.in-Some.ensures.steps in
    omega (
      arith,
      s.1,
      (reading_more _ _ _ _ c.loop-place.invariant.reading _ _ s.0.1.0 s.0.1.1).1,
      few-cards
          c.args.header.now c.requires.accepted,
    )

pub overflow_add-place : goal.overflow_add-place
unfolding cards_in
overflow_add-place c =
    let s = c.in-Some.ensures.steps in
    omega (
      arith,
      s.1,
      (reading_more _ _ _ _ c.loop-place.invariant.reading _ _ s.0.1.0 s.0.1.1).1,
      few-cards
          c.args.header.now c.requires.accepted,
    )

pub loop-place-preserved-in-Some-far_end : goal.loop-place-preserved-in-Some-far_end
loop-place-preserved-in-Some-far_end c =
    let a = c.args in
    let b = c.loop-place in
    let s = c.in-Some.ensures.steps in
    let more = reading_more _ _ _ _ b.invariant.reading _ _ s.0.1.0 s.0.1.1 in
    rw (s.0.0, s.2) (record {
      reading = more.2;
      long = c.note.array_long;
      filled = filled_more a.header.now a.times c.requires.counted a.datum c.requires.there c.if-times-datum-eq0.false
          b.row _ b.invariant.filled
          c.in-Some.card.now more.0 c.far_end.result c.far_end.ensures.value c.in-Some-far_end.end
          c.in-Some-far_end.is c.note.new.row
          (rw s.1 at c.note.ensures);
    })

pub loop-place-preserved : goal.loop-place-preserved
loop-place-preserved c =
    let a = c.args in
    let b = c.loop-place in
    let s = c.in-Some.ensures.steps in
    let more = reading_more _ _ _ _ b.invariant.reading _ _ s.0.1.0 s.0.1.1 in
    rw (s.0.0, s.2) (record {
      reading = more.2;
      long = b.invariant.long;
      filled = filled_same a.header.now a.times c.requires.counted a.datum c.requires.there c.if-times-datum-eq0.false
          b.row _ b.invariant.filled
          c.in-Some.card.now more.0 c.far_end.result c.far_end.ensures.value c.in_default.not-Some;
    })

pub returns : goal.returns
unfolding cards_in
returns c =
    let b = c.loop-place in
    let s = c.in-None.ensures.steps in
    let all = reading_over _ _ _ _ b.invariant.reading s.0.1.0 in
    row_told c.args.header.now c.args.datum b.row b.invariant.long (rw all at b.invariant.filled)
