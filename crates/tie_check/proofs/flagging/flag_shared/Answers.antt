-- `tie_check::flagging::flag_shared` meets its contract: one entry after the other.
use mathlib.Core.Path.{◌≡◌, ap, ◌∙◌}
use lib.ListN.{length}
use native.Mathlib.Omega.{arith}
use Rattle.tie_check.specs.packed.Shared.{flagged_to}
use Rattle.tie_check.proofs.flagging.Kept.{length_to, none-to, more_to}
use Rattle.tie_check.proofs.flagging.flag_shared.Goals as goal

pub loop-i-init : goal.loop-i-init
loop-i-init c = none-to c.args.keys.now c.args.links.now c.args.cards.now

pub flag_entry-requires : goal.flag_entry-requires
flag_entry-requires c =
    let b = c.loop-i in
    record {
      cards_len = ap length b.invariant ∙ length_to c.args.keys.now c.args.links.now c.args.cards.now b.i ∙ c.requires.cards_len;
      linked = c.requires.linked;
      i_bound = omega (arith, c.loop-i-test.true, c.entries_in-i-end.ensures);
    }

pub loop-i-preserved : goal.loop-i-preserved
loop-i-preserved c =
    let b = c.loop-i in
    more_to c.args.keys.now c.args.links.now c.args.cards.now _ _ b.i b.invariant c.flag_entry.ensures

pub returns : goal.returns
returns c =
    let b = c.loop-i in
    let q : b.i ≡ c.entries_in-i-end.result = omega (arith, c.loop-i-test.false) in
    b.invariant ∙ ap (flagged_to c.args.cards.now c.args.keys.now c.args.links.now) (q ∙ c.entries_in-i-end.ensures)
