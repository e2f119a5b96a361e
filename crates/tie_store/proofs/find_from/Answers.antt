-- `find_from` meets its contract: what lies behind the link has another key.
-- Assumes nothing.
use mathlib.Core.Path.{refl}
use native.Mathlib.Omega.{arith}
use Rattle.tie_store.specs.Store.{next_at}
use Rattle.tie_store.proofs.Walking.{falls, goes, found, not_found}
use Rattle.tie_store.proofs.find_from.Goals as goal

pub loop-link-init : goal.loop-link-init
loop-link-init c = (c.requires.on, refl)

pub bounds-keys-link : goal.bounds-keys-link
bounds-keys-link c = omega (arith, c.loop-link.invariant.0.upto, c.requires.linked.within)

pub returns-then-keys-link : goal.returns-then-keys-link
returns-then-keys-link c =
    found _ c.args.key c.loop-link.link _ (omega arith) (omega (arith, c.if-keys-link.true)) c.loop-link.invariant.1

pub overflow_add-link : goal.overflow_add-link
overflow_add-link c = omega (arith, c.loop-link.invariant.0.upto, c.requires.linked.within)

pub at-link-requires : goal.at-link-requires
at-link-requires c = omega (arith, c.loop-link.invariant.0.upto, c.requires.linked.within)

pub loop-link-smaller : goal.loop-link-smaller
unfolding next_at
loop-link-smaller c =
    rw c.at-link.ensures (falls c.requires.linked c.args.key c.loop-link.link (omega arith) c.loop-link.invariant.0)

pub loop-link-preserved : goal.loop-link-preserved
unfolding next_at
loop-link-preserved c =
    rw c.at-link.ensures (goes c.requires.linked c.args.key c.loop-link.link (omega arith) c.loop-link.invariant.0
    c.if-keys-link.false _ c.loop-link.invariant.1)

pub returns : goal.returns
returns c = not_found _ c.loop-link.link _ (omega arith) c.loop-link.invariant.1
