-- `push_entries` meets its contract: one entry more behind those that stand.
use mathlib.Core.Path.{refl}
use native.Mathlib.Numerals.{add-one}
use native.Mathlib.Omega.{arith}
use borrow.Author.Rules.{rules}
use Rattle.crew_answer.specs.lines.Text.{entry_at, entries_text}
use Rattle.crew_answer.proofs.lines.Pushing.{Put, then}
use Rattle.crew_answer.proofs.lines.push_entries.Goals as goal

pub loop-i-init : goal.loop-i-init
unfolding entries_text
loop-i-init c = (refl, refl, search rules, search rules)

pub loop-i-preserved : goal.loop-i-preserved
unfolding entries_text
loop-i-preserved c =
    let args = c.args in
    let b = c.loop-i in
    let p = c.push_entry-end in
    let a : Put args.out.now args.at (entries_text args.list.now b.i) b.out b.end = record { out = b.invariant.1; place = b.invariant.2 } in
    let d : Put b.out b.end (entry_at args.list.now b.i) p.new.out p.result = record { out = p.ensures.out; place = p.ensures.next } in
    let t = then a d in (
      search rules,
      rw (add-one b.i) t.out,
      rw (add-one b.i) t.place,
      omega (arith, b.invariant.3, p.ensures.within),
    )
