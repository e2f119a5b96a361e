-- `tie_check::flagging::flag_entry` meets its contract.
use mathlib.Core.Path.{sym, ap, ◌∙◌}
use lib.ListN.{length, get_or}
use native.Mathlib.Omega.{arith}
use Rattle.header_check.proofs.forms.Flags.{length-flagged}
use Rattle.tie_store.specs.Store.{holds}
use Rattle.tie_store.proofs.Walking.{last_le}
use Rattle.tie_check.proofs.flagging.Kept.{by_none, both_by}
use Rattle.tie_check.proofs.flagging.flag_entry.Goals as goal

pub returns-then-before-eq0 : goal.returns-then-before-eq0
returns-then-before-eq0 c =
    by_none c.args.keys.now c.args.links.now c.args.cards.now c.args.i (sym c.find_before-before.ensures ∙ c.if-before-eq0.true)

pub tag_of-requires : goal.tag_of-requires
tag_of-requires c = omega (arith, c.requires.i_bound, c.requires.linked.within)

pub tag_of-requires-2 : goal.tag_of-requires-2
tag_of-requires-2 c =
    let keys = c.args.keys.now in
    let i = c.args.i in
    omega (arith, c.find_before-before.ensures, last_le (holds keys (get_or keys i 0)) i, c.requires.i_bound, c.requires.linked.within)

pub flag-requires-2 : goal.flag-requires-2
flag-requires-2 c = ap length c.flag.ensures ∙ length-flagged _ _ ∙ c.requires.cards_len

pub returns : goal.returns
returns c =
    both_by c.args.keys.now c.args.links.now c.args.cards.now c.args.i _ _ _ _ _ c.find_before-before.ensures c.if-before-eq0.false
    c.tag_of.ensures c.flag.ensures c.tag_of-2.ensures c.flag-2.ensures
