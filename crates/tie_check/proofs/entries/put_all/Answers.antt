-- `tie_check::entries::put_all` meets its contract.
use native.Mathlib.Omega.{arith}
use Rattle.tie_check.proofs.entries.Stored.{all_kinds}
use Rattle.tie_check.proofs.entries.put_all.Goals as goal

pub returns : goal.returns
returns c =
    let all = all_kinds c.args.broken c.args.misplaced c.args.card c.args.column c.args.vessel c.args.found _ _ _ _ _ _ _ _ _ _ _ _ _
    c.put_if-a.ensures.list c.put_if-a.ensures.number c.put_if-b.ensures.list c.put_if-b.ensures.number
    c.put_if-c.ensures.list c.put_if-c.ensures.number c.put_if-d.ensures.list c.put_if-d.ensures.number
    c.put_if-e.ensures.list c.put_if-e.ensures.number c.put_if.ensures.list c.put_if.ensures.number in record {
      list = all.0;
      number = all.1;
      few = omega (
        arith,
        c.put_if-a.ensures.few,
        c.put_if-b.ensures.few,
        c.put_if-c.ensures.few,
        c.put_if-d.ensures.few,
        c.put_if-e.ensures.few,
        c.put_if.ensures.few,
      );
    }
