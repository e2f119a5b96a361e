-- `tie_check::begins::row_for` meets its contract.
use mathlib.Core.Path.{refl, ap, ◌∙◌}
use lib.Dec.{eqb}
use native.Mathlib.Omega.{arith}
use Rattle.std.specs.Prelude.{unwrap_or}
use Rattle.std.proofs.Common.{rules}
use Rattle.std.proofs.lemmas.Iterator.{YieldsList-from_range, YieldsList-from_map}
use Rattle.std.proofs.lemmas.Iterator.Search.{find_from_yields_List}
use Rattle.tie_rules.specs.packed.Rows.{column_in}
use Rattle.tie_check.proofs.begins.Found.{same_option, slot_row, found_from}
use Rattle.tie_check.proofs.begins.row_for.Goals as goal

pub returns : goal.returns
returns c =
    let k = c.args.layout in
    let x = c.args.column in
    c.unwrap_or.ensures
    ∙ ap (λ r. unwrap_or r x) (same_option _ ∙ find_from_yields_List (λ r. eqb (column_in r) x) _ _ _ c.find.ensures.ran
    (YieldsList-from_map _ (slot_row k x c.requires) (YieldsList-from_range 0 5 5 (cc) refl) c.map.ensures.closure (λ i r q h. search rules))
    (λ r b q h. search rules))
    ∙ found_from k x c.requires 5 0 refl (λ j l. omega arith)
