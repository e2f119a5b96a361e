-- `volume_edit::compact::is_superseded` meets its contract.
use Prim.Native.Nat.{◌/◌}
use mathlib.Core.Path.{◌∙◌}
use lib.ListN.{length}
use Rattle.std.proofs.Common.{rules, tests}
use Rattle.std.proofs.lemmas.Iterator.Search.{any_from_yields_List}
use Rattle.volume_rules.specs.SameLine.{same_on}
use Rattle.volume_check.proofs.Chunks.{YieldsList-from_cards}
use Rattle.volume_edit.proofs.compact.Ways.{later_any}
use Rattle.volume_edit.proofs.compact.is_superseded.Goals as goal

pub returns : goal.returns
returns c =
    any_from_yields_List (λ other. same_on c.args.card.now other) _ _ _ c.any.ensures.ran
    (YieldsList-from_cards c.args.later.now c.chunks_exact.ensures.rest c.chunks_exact.ensures.size) (λ x b q k. search (rules, tests))
    ∙ later_any c.args.card.now (length c.args.later.now / 80) c.args.later.now
