-- `card_put::opening::lay_read` meets its contract.
use Rattle.format_layout.specs.Layouts.{label_of}
use Rattle.base_digits.proofs.digits.Parts.{rest_length}
use Rattle.card_put.proofs.opening.Laying.{laid-behind}
use Rattle.format_layout.proofs.Labels.{label-fits}
use native.Mathlib.Omega.{arith}
use Rattle.card_put.proofs.opening.lay_read.Goals as goal

pub lay_label-requires : goal.lay_label-requires
lay_label-requires c = omega (arith, label-fits c.args.layout, rest_length 5 c.lay_code.new.card, c.requires)

pub returns : goal.returns
returns c =
    laid-behind c.args.code.now c.args.card.now c.lay_code.new.card c.lay_label.new.columns (label_of c.args.layout) c.requires.1 c.requires.0 c.lay_code.ensures c.lay_label.ensures
