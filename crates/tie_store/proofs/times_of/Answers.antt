-- `times_of` meets its contract: the times of the entry found.
-- Assumes nothing.
use Prim.Native.Nat.{◌-◌, ◌<◌}
use native.Mathlib.Omega.{arith}
use Rattle.tie_store.specs.Store.{room, times_at, holds, count_in}
use Rattle.tie_store.proofs.Walking.{last_le}
use Rattle.tie_store.proofs.Only.{none-counted, times_found}
use Rattle.tie_store.proofs.times_of.Goals as goal

pub returns-then-link-eq0 : goal.returns-then-link-eq0
returns-then-link-eq0 c = none-counted _ _ _ c.find-link.ensures c.if-link-eq0.true

pub overflow_add-link : goal.overflow_add-link
overflow_add-link c =
    let below : c.find-link.result - 1 < room = (let n = count_in c.args.links.now in
    omega (arith, last_le (holds c.args.keys.now c.args.key) n, c.find-link.ensures, c.requires.within)) in
    omega (arith, below)

pub at-requires : goal.at-requires
at-requires c =
    let below : c.find-link.result - 1 < room = (let n = count_in c.args.links.now in
    omega (arith, last_le (holds c.args.keys.now c.args.key) n, c.find-link.ensures, c.requires.within)) in
    omega (arith, below)

pub returns : goal.returns
unfolding times_at
returns c =
    let times = times_found _ _ c.requires c.args.key _ c.find-link.ensures c.if-link-eq0.false in
    omega (arith, c.at.ensures, times)
