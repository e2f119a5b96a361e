-- `card_put::opening::lay_label` meets its contract.
use mathlib.Core.Path.{◌≡◌}
use mathlib.Core.List.{◌++◌}
use lib.ListN.{length, take, drop}
use Rattle.format_layout.specs.Layouts.{label_of}
use Rattle.card_put.specs.opening.Opening.{labelled}
use Rattle.card_put.proofs.opening.lay_label.Given as goal

abbrev pub invariant-loop-i : goal.invariant-loop-i
invariant-loop-i l = l.columns ≡ take l.i (labelled (label_of l.layout) (length l.initial.columns)) ++ drop l.i l.initial.columns
