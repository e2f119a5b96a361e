-- `volume_edit::convert::are_few` meets its contract.
use Prim.Native.Nat.{◌/◌}
use mathlib.Core.Path.{◌∙◌}
use lib.Dec.{leb}
use lib.ListN.{length}
use Rattle.std.proofs.Common.{rules, tests}
use Rattle.std.proofs.lemmas.Iterator.Search.{all_from_yields_List}
use Rattle.volume_form.specs.Rows.{row_of}
use Rattle.volume_form.specs.Marked.{count_on}
use Rattle.volume_check.proofs.Chunks.{YieldsList-from_cards}
use Rattle.volume_edit.proofs.convert.Steps.{few_all}
use Rattle.volume_edit.proofs.convert.are_few.Goals as goal

pub returns : goal.returns
returns c =
    all_from_yields_List (λ card. leb (count_on (row_of c.args.form) card) c.args.most) _ _ _ c.all.ensures.ran
    (YieldsList-from_cards c.args.directory.now c.chunks_exact.ensures.rest c.chunks_exact.ensures.size) (λ x b q k. search (rules, tests))
    ∙ few_all (row_of c.args.form) c.args.most (length c.args.directory.now / 80) c.args.directory.now
