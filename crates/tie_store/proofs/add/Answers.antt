-- `add` meets its contract: the entry is linked behind the last of its bucket, and counted.
use native.Mathlib.Omega.{arith}
use Rattle.base_lists.proofs.Counting.{count_le}
use Rattle.tie_store.specs.Store.{count_in, holds}
use Rattle.tie_store.proofs.Adding.{added}
use Rattle.tie_store.proofs.add.Goals as goal

pub narrow-times-requires : goal.narrow-times-requires
narrow-times-requires c =
    let n = count_in c.args.links.now in
    omega (arith, count_le (holds c.args.keys.now c.args.key) n, c.times_of.ensures, c.requires.links_bound)

pub returns : goal.returns
returns c =
    record {
      keys = (added c.args.keys.now c.args.links.now c.args.key c.args.tag _ _ _ _ _ _ c.entries_in-n.ensures
          c.bucket_of-b.ensures.0 c.times_of.ensures c.narrow-times.ensures c.lay_entry.ensures c.lay_head.ensures).0;
      links = (added c.args.keys.now c.args.links.now c.args.key c.args.tag _ _ _ _ _ _ c.entries_in-n.ensures
          c.bucket_of-b.ensures.0 c.times_of.ensures c.narrow-times.ensures c.lay_entry.ensures c.lay_head.ensures).1;
    }
