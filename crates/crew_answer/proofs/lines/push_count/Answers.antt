-- `push_count` meets its contract: the word, the number, the end of the line.
use native.Mathlib.Omega.{arith}
use Rattle.crew_answer.specs.lines.Text.{bytes, spaced, newline, count_text}
use Rattle.crew_answer.proofs.lines.Pushing.{Put, then}
use Rattle.crew_answer.proofs.lines.push_count.Goals as goal

pub returns : goal.returns
unfolding count_text
returns c =
    let args = c.args in
    let w = c.push_all-word in
    let p = c.push_spaced-number in
    let q = c.push in
    let a : Put args.out.now 0 (bytes "broken") w.new.out w.result = record { out = w.ensures.out; place = w.ensures.next } in
    let b : Put w.new.out w.result (spaced args.n) p.new.out p.result = record { out = p.ensures.out; place = p.ensures.next } in
    let d : Put p.new.out p.result newline q.new.out q.result = record { out = q.ensures.out; place = q.ensures.next } in
    let t = then (then a b) d in record {
      out = t.out;
      next = omega (arith, t.place);
      within = omega (arith, w.ensures.next, p.ensures.within, q.ensures.next);
    }
