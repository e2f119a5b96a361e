-- `survey_datums::routing::card_of` meets its contract.
use Prim.Native.Nat.{◌-◌, ◌≤◌}
use native.Mathlib.Omega.{arith}
use mathlib.Core.Path.{◌≡◌, refl, ◌∙◌}
use Rattle.std.specs.Iterator.Adapters.{enumerate_count, enumerate_source, rev_source}
use Rattle.survey_datums.proofs.routing.Walking.{walk_begins, walk_goes, walk_here, walk_on, walk_ends}
use Rattle.survey_datums.proofs.routing.card_of.Goals as goal

pub loop-step-init : goal.loop-step-init
loop-step-init c =
    let a = c.args in
    let none : enumerate_count c.into_iter-step-iterator.result ≡ 0 = cc in
    let lefts : rev_source (enumerate_source c.into_iter-step-iterator.result) ≡ record
    { start = 0; end = c.length_from.result } = cc in
    let all : a.place - 0 ≡ a.place = omega arith in
    rw (none, lefts, all) (record {
      from_none = refl;
      not_behind = omega arith;
      walk = walk_begins a.table a.shifts c.requires.0 a.from a.place c.requires.1 c.length_from.result
          c.length_from.ensures;
    })

pub unwrap-next-requires : goal.unwrap-next-requires
unwrap-next-requires c =
    let s = c.in-Some.ensures.steps in
    walk_goes c.args.table c.args.shifts c.requires.0 _ _ _ _ c.loop-step.invariant.walk c.in-Some.left
    (omega (arith, s.0.1.1, s.0.1.2))
    c.next_datum.result c.next_datum.ensures.value

pub returns-then-step-place : goal.returns-then-step-place
returns-then-step-place c =
    let s = c.in-Some.ensures.steps in
    walk_here c.args.table c.args.shifts c.requires.0 _ _ _ _ c.loop-step.invariant.walk c.in-Some.left
    (omega (arith, s.0.1.1, s.0.1.2))
    c.next_datum.result c.next_datum.ensures.value c.unwrap-next.result c.unwrap-next.ensures
    (omega (arith, c.if-step-place.true, s.1))

pub loop-step-preserved : goal.loop-step-preserved
loop-step-preserved c =
    let b = c.loop-step in
    let s = c.in-Some.ensures.steps in
    let further : enumerate_count c.next.new.self ≤ c.args.place = omega
    (arith, b.invariant.not_behind, c.if-step-place.false, s.1, s.2) in
    record {
      from_none = s.0.0 ∙ b.invariant.from_none;
      not_behind = further;
      walk = rw s.0.1.1 at (walk_on c.args.table c.args.shifts c.requires.0 _ _ _ _ b.invariant.walk c.in-Some.left
          (omega (arith, s.0.1.1, s.0.1.2))
          c.next_datum.result c.next_datum.ensures.value c.unwrap-next.result c.unwrap-next.ensures
          (c.args.place - enumerate_count c.next.new.self) (omega (arith, further, s.2)));
    }

pub returns : goal.returns
returns c =
    let b = c.loop-step in
    let s = c.in-None.ensures.steps in
    walk_ends c.args.table c.args.shifts c.requires.0 _ _ _ _ b.invariant.walk
    (omega (arith, s.0.1.0, b.invariant.from_none))
