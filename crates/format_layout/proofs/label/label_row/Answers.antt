-- `format_layout::label::label_row` meets its contract: each line is the label of the table, by a computation.
use Rattle.format_layout.specs.Table.{layouts}
use Rattle.format_layout.specs.Layouts.{layout_at, label_of}
use Rattle.format_layout.specs.packed.Rows.{label_row}
use Rattle.format_layout.proofs.label.Lines.{same_label, no_label-row}
use borrow.Author.Rules.{rules}
use Rattle.format_layout.proofs.label.label_row.Goals as goal

pub words-requires : goal.words-requires
unfolding label_row label_of layout_at layouts
words-requires c = search rules

pub words-requires-in-1 : goal.words-requires-in-1
unfolding label_row label_of layout_at layouts
words-requires-in-1 c = search rules

pub words-requires-in-2 : goal.words-requires-in-2
unfolding label_row label_of layout_at layouts
words-requires-in-2 c = search rules

pub words-requires-in-3 : goal.words-requires-in-3
unfolding label_row label_of layout_at layouts
words-requires-in-3 c = search rules

pub words-requires-in-4 : goal.words-requires-in-4
unfolding label_row label_of layout_at layouts
words-requires-in-4 c = search rules

pub words-requires-in-5 : goal.words-requires-in-5
unfolding label_row label_of layout_at layouts
words-requires-in-5 c = search rules

pub words-requires-in-6 : goal.words-requires-in-6
unfolding label_row label_of layout_at layouts
words-requires-in-6 c = search rules

pub words-requires-in-7 : goal.words-requires-in-7
unfolding label_row label_of layout_at layouts
words-requires-in-7 c = search rules

pub words-requires-in-8 : goal.words-requires-in-8
unfolding label_row label_of layout_at layouts
words-requires-in-8 c = search rules

pub words-requires-in_default : goal.words-requires-in_default
unfolding label_row label_of layout_at layouts
words-requires-in_default c = search rules

pub returns-in-0 : goal.returns-in-0
unfolding label_row label_of layout_at layouts
returns-in-0 c = same_label 0 _ c.in-0.is _ _ c.words.ensures

pub returns-in-1 : goal.returns-in-1
unfolding label_row label_of layout_at layouts
returns-in-1 c = same_label 1 _ c.in-1.is _ _ c.words-in-1.ensures

pub returns-in-2 : goal.returns-in-2
unfolding label_row label_of layout_at layouts
returns-in-2 c = same_label 2 _ c.in-2.is _ _ c.words-in-2.ensures

pub returns-in-3 : goal.returns-in-3
unfolding label_row label_of layout_at layouts
returns-in-3 c = same_label 3 _ c.in-3.is _ _ c.words-in-3.ensures

pub returns-in-4 : goal.returns-in-4
unfolding label_row label_of layout_at layouts
returns-in-4 c = same_label 4 _ c.in-4.is _ _ c.words-in-4.ensures

pub returns-in-5 : goal.returns-in-5
unfolding label_row label_of layout_at layouts
returns-in-5 c = same_label 5 _ c.in-5.is _ _ c.words-in-5.ensures

pub returns-in-6 : goal.returns-in-6
unfolding label_row label_of layout_at layouts
returns-in-6 c = same_label 6 _ c.in-6.is _ _ c.words-in-6.ensures

pub returns-in-7 : goal.returns-in-7
unfolding label_row label_of layout_at layouts
returns-in-7 c = same_label 7 _ c.in-7.is _ _ c.words-in-7.ensures

pub returns-in-8 : goal.returns-in-8
unfolding label_row label_of layout_at layouts
returns-in-8 c = same_label 8 _ c.in-8.is _ _ c.words-in-8.ensures

pub returns-in_default : goal.returns-in_default
unfolding label_row label_of layout_at layouts
returns-in_default c = no_label-row _ c.in_default.in_default-own.rest _ _ c.words-in_default.ensures
