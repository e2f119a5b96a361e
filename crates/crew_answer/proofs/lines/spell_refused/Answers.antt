-- `spell_refused` meets its contract: the word, three numbers, the end of the line.
use native.Mathlib.Omega.{arith}
use Rattle.crew_answer.specs.lines.Text.{bytes, spaced, newline, refused_text}
use Rattle.crew_answer.proofs.lines.Pushing.{Put, then, laid_put}
use Rattle.crew_answer.proofs.lines.spell_refused.Goals as goal

pub returns : goal.returns
unfolding refused_text
returns c =
    let args = c.args in
    let w = c.push_all-word in
    let x = c.push_spaced-a in
    let y = c.push_spaced-b in
    let z = c.push_spaced-c in
    let q = c.push in
    let a : Put args.out.now 0 (bytes "refused") w.new.out w.result = record { out = w.ensures.out; place = w.ensures.next } in
    let b : Put w.new.out w.result (spaced args.number) x.new.out x.result = record { out = x.ensures.out; place = x.ensures.next } in
    let d : Put x.new.out x.result (spaced args.card) y.new.out y.result = record { out = y.ensures.out; place = y.ensures.next } in
    let e : Put y.new.out y.result (spaced args.column) z.new.out z.result = record { out = z.ensures.out; place = z.ensures.next } in
    let f : Put z.new.out z.result newline q.new.out q.result = record { out = q.ensures.out; place = q.ensures.next } in
    let t : Put args.out.now 0 (refused_text args.number args.card args.column) q.new.out q.result = then (then (then (then a b) d) e) f in
    let l = laid_put t in record {
      bytes = l.0;
      size = l.1;
      within = omega (arith, w.ensures.next, x.ensures.within, y.ensures.within, z.ensures.within, q.ensures.next);
    }
