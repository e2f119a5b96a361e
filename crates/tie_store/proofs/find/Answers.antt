-- `find` meets its contract: it begins at the last entry of the bucket.
-- Assumes nothing.
use mathlib.Core.Path.{◌≡◌, ap, ◌∙◌}
use Prim.Native.Nat.{◌+◌}
use lib.ListN.{get_or}
use native.Mathlib.Omega.{arith}
use Rattle.tie_store.specs.Store.{heads_from, head_at, bucket, holds, last}
use Rattle.tie_store.proofs.Walking.{begins}
use Rattle.tie_store.proofs.find.Goals as goal

pub overflow_add-bucket_of : goal.overflow_add-bucket_of
overflow_add-bucket_of c = omega (arith, c.bucket_of.ensures.1)

pub at-head-requires : goal.at-head-requires
at-head-requires c = omega (arith, c.bucket_of.ensures.1)

pub find_from-requires : goal.find_from-requires
unfolding head_at
find_from-requires c =
    let head-is : c.at-head.result ≡ head_at c.args.links.now (bucket c.args.key) = (c.at-head.ensures ∙ ap (λ j. get_or c.args.links.now (heads_from + j) 0) c.bucket_of.ensures.0) in
    record {
      linked = c.requires;
      on = rw (head-is) (begins c.requires c.args.key).0;
    }

pub returns : goal.returns
unfolding head_at
returns c =
    let head-is : c.at-head.result ≡ head_at c.args.links.now (bucket c.args.key) = (c.at-head.ensures ∙ ap (λ j. get_or c.args.links.now (heads_from + j) 0) c.bucket_of.ensures.0) in
    c.find_from.ensures ∙ ap (last (holds c.args.keys.now c.args.key)) (head-is) ∙ (begins c.requires c.args.key).1
