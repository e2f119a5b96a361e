-- `push_spaced` meets its contract: a space, then the number.
use mathlib.Core.List.{[], ◌∷◌}
use native.Mathlib.Omega.{arith}
use Rattle.crew_answer.specs.lines.Text.{numeral, spaced}
use Rattle.crew_answer.proofs.lines.Pushing.{Put, then}
use Rattle.crew_answer.proofs.lines.push_spaced.Goals as goal

pub returns : goal.returns
unfolding spaced
returns c =
    let args = c.args in
    let p = c.push-next in
    let q = c.push_number in
    let a : Put args.out.now args.at (32 ∷ []) p.new.out p.result = record { out = p.ensures.out; place = p.ensures.next } in
    let b : Put p.new.out p.result (numeral args.n) q.new.out q.result = record { out = q.ensures.out; place = q.ensures.next } in
    let t = then a b in record {
      out = t.out;
      next = t.place;
      within = omega (arith, p.ensures.next, q.ensures.within);
      short = λ h. omega (arith, p.ensures.next, q.ensures.short h);
    }
