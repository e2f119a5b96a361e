-- `value_text::text::text_end` meets its contract.
use Rattle.std.proofs.Common.{rules, tests, length, eqb, ◌-◌, ap, ◌∙◌}
use mathlib.Core.List.{reverse}
use Rattle.std.proofs.lemmas.Iterator.Adapters.{YieldsList-from_rev_slice}
use Rattle.std.proofs.lemmas.Iterator.Consumers.{count_from_yields_List}
use Rattle.std.proofs.lemmas.Iterator.Search.{YieldsList-from_take_while}
use Rattle.std.proofs.lemmas.List.Folds.{length-prefix_len}
use Rattle.value_text.proofs.text.Ends.{end_is}
use Rattle.value_text.proofs.text.text_end.Goals as goal

pub returns-clause-found : goal.returns-clause-found
returns-clause-found c =
    let s = c.args.s.now in
    ap (λ k. length s - k)
    (count_from_yields_List _ _ c.count.ensures.ran (YieldsList-from_take_while _ (λ b. eqb b 32) (YieldsList-from_rev_slice s cc) c.take_while.ensures.closure c.take_while.ensures.done (λ x b q k. search (rules, tests)))
    ∙ length-prefix_len (λ b. eqb b 32) (reverse s))
    ∙ end_is s
