-- `push_line` meets its contract: its numbers, the end of the line.
use native.Mathlib.Omega.{arith}
use Rattle.crew_answer.specs.lines.Text.{numeral, spaced, newline, entry_text}
use Rattle.crew_answer.proofs.lines.Pushing.{Put, then}
use Rattle.crew_answer.proofs.lines.push_line.Goals as goal

pub returns : goal.returns
unfolding entry_text
returns c =
    let small = c.requires.card_bound in
    let a : Put c.args.out.now c.args.at (numeral c.args.card) c.push_number-first.new.out c.push_number-first.result = record { out = c.push_number-first.ensures.out; place = c.push_number-first.ensures.next } in
    let b : Put c.push_number-first.new.out c.push_number-first.result (spaced c.args.column) c.push_spaced-second.new.out c.push_spaced-second.result = record { out = c.push_spaced-second.ensures.out; place = c.push_spaced-second.ensures.next } in
    let d : Put c.push_spaced-second.new.out c.push_spaced-second.result (spaced c.args.kind) c.push_spaced-third.new.out c.push_spaced-third.result = record { out = c.push_spaced-third.ensures.out; place = c.push_spaced-third.ensures.next } in
    let e : Put c.push_spaced-third.new.out c.push_spaced-third.result (spaced c.args.vessel) c.push_spaced-fourth.new.out c.push_spaced-fourth.result = record { out = c.push_spaced-fourth.ensures.out; place = c.push_spaced-fourth.ensures.next } in
    let f : Put c.push_spaced-fourth.new.out c.push_spaced-fourth.result newline c.push.new.out c.push.result = record { out = c.push.ensures.out; place = c.push.ensures.next } in
    let t = then (then (then (then a b) d) e) f in record {
      out = t.out;
      next = t.place;
      within = omega (
        arith,
        c.push_number-first.ensures.short small.0,
        c.push_spaced-second.ensures.short small.1,
        c.push_spaced-third.ensures.short small.2,
        c.push_spaced-fourth.ensures.short small.3,
        c.push.ensures.next,
      );
    }
