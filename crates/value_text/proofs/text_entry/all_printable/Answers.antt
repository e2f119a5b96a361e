-- `value_text::text_entry::all_printable` meets its contract.
use Rattle.std.proofs.Common.{rules, tests, leb, ◌&&◌, ◌∙◌}
use Rattle.std.proofs.lemmas.Iterator.{YieldsList-from_slice}
use Rattle.std.proofs.lemmas.Iterator.Search.{all_from_yields_List}
use Rattle.value_text.proofs.text.Ends.{printable_is}
use Rattle.value_text.proofs.text_entry.all_printable.Goals as goal

pub returns : goal.returns
returns c =
    let s = c.args.s.now in
    all_from_yields_List (λ b. leb 32 b && leb b 126) _ _ _ c.all.ensures.ran (YieldsList-from_slice s cc) (λ x b q k. search (rules, tests))
    ∙ printable_is s
