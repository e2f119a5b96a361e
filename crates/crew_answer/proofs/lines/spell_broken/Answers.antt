-- `spell_broken` meets its contract: how much is broken, then the entries.
use mathlib.Core.Path.{◌≡◌, ◌∙◌}
use native.Mathlib.Omega.{arith}
use Rattle.crew_answer.specs.lines.Text.{count_text, entries_text, told, broken_text}
use Rattle.crew_answer.proofs.lines.Pushing.{Put, then, laid_put}
use Rattle.crew_answer.proofs.lines.spell_broken.Goals as goal

pub returns : goal.returns
unfolding broken_text told
returns c =
    let args = c.args in
    let w = c.push_count-counted in
    let p = c.push_entries in
    let k : c.min-k.result ≡ told args.n args.list.now = c.min-k.ensures ∙ rw c.min.ensures in
    let a : Put args.out.now 0 (count_text args.n) w.new.out w.result = record { out = w.ensures.out; place = omega (arith, w.ensures.next) } in
    let b : Put w.new.out w.result (entries_text args.list.now (told args.n args.list.now)) p.new.out p.result = record { out = rw (← k) p.ensures.out; place = rw (← k) p.ensures.next } in
    let l = laid_put (then a b) in
    record {
      bytes = l.0;
      size = l.1;
      within = p.ensures.within;
    }
