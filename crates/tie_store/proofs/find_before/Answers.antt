-- `find_before` meets its contract: it begins at the entry before in the chain.
-- Assumes nothing.
-- the entry is one
use mathlib.Core.Path.{refl, ap, ◌∙◌}
use Prim.Native.Nat.{◌<◌}
use lib.ListN.{get_or}
use native.Mathlib.Omega.{arith}
use Rattle.tie_store.specs.Store.{room, times_at, next_at, holds, last}
use Rattle.tie_store.proofs.Before.{none_before}
use Rattle.tie_store.proofs.Walking.{begins-before}
use Rattle.tie_store.proofs.find_before.Goals as goal

pub overflow_add-i : goal.overflow_add-i
overflow_add-i c =
    let below : c.args.i < room = (omega (arith, c.requires.i_bound, c.requires.linked.within)) in
    omega (arith, below)

pub at-requires : goal.at-requires
at-requires c =
    let below : c.args.i < room = (omega (arith, c.requires.i_bound, c.requires.linked.within)) in
    omega (arith, below)

pub returns-then-at-lt2 : goal.returns-then-at-lt2
unfolding times_at
returns-then-at-lt2 c =
    none_before c.args.keys.now c.args.links.now c.requires.linked c.args.i c.requires.i_bound (omega (arith, c.at.ensures, c.if-at-lt2.true))

pub overflow_add-i-2 : goal.overflow_add-i-2
overflow_add-i-2 c =
    let below : c.args.i < room = (omega (arith, c.requires.i_bound, c.requires.linked.within)) in
    omega (arith, below)

pub at-next-requires : goal.at-next-requires
at-next-requires c =
    let below : c.args.i < room = (omega (arith, c.requires.i_bound, c.requires.linked.within)) in
    omega (arith, below)

pub offset_bounds-keys-i : goal.offset_bounds-keys-i
offset_bounds-keys-i c =
    let below : c.args.i < room = (omega (arith, c.requires.i_bound, c.requires.linked.within)) in
    omega (arith, below)

pub bounds-keys-i : goal.bounds-keys-i
bounds-keys-i c =
    let below : c.args.i < room = (omega (arith, c.requires.i_bound, c.requires.linked.within)) in
    omega (arith, below)

pub find_from-requires : goal.find_from-requires
unfolding next_at
find_from-requires c =
    record {
      linked = c.requires.linked;
      on = rw c.at-next.ensures (begins-before c.requires.linked _ c.args.i c.requires.i_bound refl).0;
    }

pub returns : goal.returns
unfolding next_at
returns c =
    let keys = c.args.keys.now in
    c.find_from.ensures
    ∙ ap (last (holds keys (get_or keys c.args.i 0))) c.at-next.ensures
    ∙ (begins-before c.requires.linked _ c.args.i c.requires.i_bound refl).1
