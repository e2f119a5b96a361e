-- `card_put::opening::lay_passed` meets its contract.
use mathlib.Core.List.{[]}
use mathlib.Core.Path.{sym, ◌∙◌}
use Rattle.card_put.proofs.opening.Laying.{laid-behind, no_label-behind}
use Rattle.card_put.proofs.opening.lay_passed.Goals as goal

pub returns : goal.returns
returns c =
    laid-behind c.args.code.now c.args.card.now c.lay_code.new.card c.fill_blanks.new.columns [] c.requires.1 c.requires.0 c.lay_code.ensures (c.fill_blanks.ensures ∙ sym (no_label-behind _))
