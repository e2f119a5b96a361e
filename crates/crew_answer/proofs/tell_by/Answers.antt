-- `tell_by` meets its contract: what the check answers is spelled.
use native.Mathlib.Omega.{arith}
use mathlib.Core.Path.{◌∙◌, ap}
use lib.ListN.{length}
use Rattle.base_lists.specs.Laid.{laid}
use Rattle.crew_answer.proofs.Listed.{told-found, told-refused}
use Rattle.crew_answer.proofs.tell_by.Goals as goal

pub returns-in-Ok : goal.returns-in-Ok
returns-in-Ok c =
    let args = c.args in
    let k = c.check-ties in
    let p = c.spell_broken in
    let e = told-found args.header.now k.result k.ensures.answer c.in-Ok.n args.list.now k.new.list c.requires k.ensures.list c.in-Ok.is in record {
      bytes = p.ensures.bytes ∙ ap (laid 1 args.out.now) e;
      size = p.ensures.size ∙ ap length e;
      within = p.ensures.within;
    }

pub returns-in-Err : goal.returns-in-Err
returns-in-Err c =
    let args = c.args in
    let k = c.check-ties in
    let p = c.spell_refused in
    let e = told-refused args.header.now k.result k.ensures.answer c.in-Err.r c.in-Err.is in record {
      bytes = p.ensures.bytes ∙ ap (laid 1 args.out.now) e;
      size = p.ensures.size ∙ ap length e;
      within = omega (arith, p.ensures.within);
    }
