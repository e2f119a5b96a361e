-- `find_from` meets its contract: what lies behind the link has another key.
-- Assumes nothing.
use mathlib.Core.Path.{◌≡◌}
use Rattle.tie_store.specs.Store.{count_in, bucket, holds, last, On}
use Rattle.tie_store.proofs.find_from.Given as goal

abbrev pub invariant-loop-link : goal.invariant-loop-link
invariant-loop-link l = On l.keys (bucket l.key) (count_in l.links) l.link × (last (holds l.keys l.key) l.link ≡ last (holds l.keys l.key) l.from)

abbrev pub decreases-loop-link : goal.decreases-loop-link
decreases-loop-link l = l.link
