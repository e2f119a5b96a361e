-- `value_number::shapes::run_of` meets its contract.
use Rattle.std.proofs.Common.{rules, tests, ◌∙◌}
use Rattle.std.proofs.lemmas.Iterator.{YieldsList-from_slice}
use Rattle.std.proofs.lemmas.Iterator.Consumers.{count_from_yields_List}
use Rattle.std.proofs.lemmas.Iterator.Search.{YieldsList-from_take_while}
use Rattle.std.proofs.lemmas.List.Folds.{length-prefix_len}
use Rattle.base_digits.specs.digits.Figures.{is_digit}
use Rattle.value_number.proofs.shapes.Leading.{leading_are}
use Rattle.value_number.proofs.shapes.run_of.Goals as goal

pub returns-clause-found : goal.returns-clause-found
returns-clause-found c =
    let t = c.args.t.now in
    count_from_yields_List _ _ c.count.ensures.ran (YieldsList-from_take_while _ is_digit (YieldsList-from_slice t cc) c.take_while.ensures.closure c.take_while.ensures.done (λ x b q k. search (rules, tests)))
    ∙ length-prefix_len is_digit t
    ∙ leading_are t
