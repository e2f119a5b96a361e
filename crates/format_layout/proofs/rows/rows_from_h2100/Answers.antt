-- `format_layout::rows_from_h2100` meets its contract: each line is the code or the field of the table, by a computation.
use Rattle.format_layout.specs.Table.{layouts}
use Rattle.format_layout.specs.Layouts.{layout_at, fields_of}
use Rattle.format_layout.specs.packed.Rows.{head_of, word_of, row_of}
use Rattle.format_layout.proofs.Lines.{same_row, past_fields, above}
use borrow.Author.Rules.{rules}
use Rattle.format_layout.proofs.rows.rows_from_h2100.Goals as goal

pub rows_from_h2300-requires : goal.rows_from_h2300-requires
unfolding head_of word_of row_of fields_of layout_at layouts
rows_from_h2300-requires c = above 18 5 _ c.requires c.in_default.in_default-own.rest

pub returns-in-0 : goal.returns-in-0
unfolding head_of word_of row_of fields_of layout_at layouts
returns-in-0 c = same_row 18 0 _ _ c.in-18.is c.in-0.is

pub returns-in-1 : goal.returns-in-1
unfolding head_of word_of row_of fields_of layout_at layouts
returns-in-1 c = same_row 18 1 _ _ c.in-18.is c.in-1.is

pub returns-in-2 : goal.returns-in-2
unfolding head_of word_of row_of fields_of layout_at layouts
returns-in-2 c = same_row 18 2 _ _ c.in-18.is c.in-2.is

pub returns-in-3 : goal.returns-in-3
unfolding head_of word_of row_of fields_of layout_at layouts
returns-in-3 c = same_row 18 3 _ _ c.in-18.is c.in-3.is

pub returns-in-4 : goal.returns-in-4
unfolding head_of word_of row_of fields_of layout_at layouts
returns-in-4 c = same_row 18 4 _ _ c.in-18.is c.in-4.is

pub returns-in-5 : goal.returns-in-5
unfolding head_of word_of row_of fields_of layout_at layouts
returns-in-5 c = same_row 18 5 _ _ c.in-18.is c.in-5.is

pub returns-in-6 : goal.returns-in-6
unfolding head_of word_of row_of fields_of layout_at layouts
returns-in-6 c = same_row 18 6 _ _ c.in-18.is c.in-6.is

pub returns-in-7 : goal.returns-in-7
unfolding head_of word_of row_of fields_of layout_at layouts
returns-in-7 c = same_row 18 7 _ _ c.in-18.is c.in-7.is

pub returns-in-8 : goal.returns-in-8
unfolding head_of word_of row_of fields_of layout_at layouts
returns-in-8 c = same_row 18 8 _ _ c.in-18.is c.in-8.is

pub returns-in-9 : goal.returns-in-9
unfolding head_of word_of row_of fields_of layout_at layouts
returns-in-9 c = same_row 18 9 _ _ c.in-18.is c.in-9.is

pub returns-in_default-number : goal.returns-in_default-number
unfolding head_of word_of row_of fields_of layout_at layouts
returns-in_default-number c = past_fields 18 _ _ c.in-18.is c.in_default-number.in_default-number-own.rest

pub returns-in-0-number : goal.returns-in-0-number
unfolding head_of word_of row_of fields_of layout_at layouts
returns-in-0-number c = same_row 19 0 _ _ c.in-19.is c.in-0-number.is

pub returns-in-1-number : goal.returns-in-1-number
unfolding head_of word_of row_of fields_of layout_at layouts
returns-in-1-number c = same_row 19 1 _ _ c.in-19.is c.in-1-number.is

pub returns-in-2-number : goal.returns-in-2-number
unfolding head_of word_of row_of fields_of layout_at layouts
returns-in-2-number c = same_row 19 2 _ _ c.in-19.is c.in-2-number.is

pub returns-in-3-number : goal.returns-in-3-number
unfolding head_of word_of row_of fields_of layout_at layouts
returns-in-3-number c = same_row 19 3 _ _ c.in-19.is c.in-3-number.is

pub returns-in-4-number : goal.returns-in-4-number
unfolding head_of word_of row_of fields_of layout_at layouts
returns-in-4-number c = same_row 19 4 _ _ c.in-19.is c.in-4-number.is

pub returns-in-5-number : goal.returns-in-5-number
unfolding head_of word_of row_of fields_of layout_at layouts
returns-in-5-number c = same_row 19 5 _ _ c.in-19.is c.in-5-number.is

pub returns-in-6-number : goal.returns-in-6-number
unfolding head_of word_of row_of fields_of layout_at layouts
returns-in-6-number c = same_row 19 6 _ _ c.in-19.is c.in-6-number.is

pub returns-in-7-number : goal.returns-in-7-number
unfolding head_of word_of row_of fields_of layout_at layouts
returns-in-7-number c = same_row 19 7 _ _ c.in-19.is c.in-7-number.is

pub returns-in-8-number : goal.returns-in-8-number
unfolding head_of word_of row_of fields_of layout_at layouts
returns-in-8-number c = same_row 19 8 _ _ c.in-19.is c.in-8-number.is

pub returns-in-9-number : goal.returns-in-9-number
unfolding head_of word_of row_of fields_of layout_at layouts
returns-in-9-number c = same_row 19 9 _ _ c.in-19.is c.in-9-number.is

pub returns-in-10 : goal.returns-in-10
unfolding head_of word_of row_of fields_of layout_at layouts
returns-in-10 c = same_row 19 10 _ _ c.in-19.is c.in-10.is

pub returns-in-11 : goal.returns-in-11
unfolding head_of word_of row_of fields_of layout_at layouts
returns-in-11 c = same_row 19 11 _ _ c.in-19.is c.in-11.is

pub returns-in-12 : goal.returns-in-12
unfolding head_of word_of row_of fields_of layout_at layouts
returns-in-12 c = same_row 19 12 _ _ c.in-19.is c.in-12.is

pub returns-in-13 : goal.returns-in-13
unfolding head_of word_of row_of fields_of layout_at layouts
returns-in-13 c = same_row 19 13 _ _ c.in-19.is c.in-13.is

pub returns-in-14 : goal.returns-in-14
unfolding head_of word_of row_of fields_of layout_at layouts
returns-in-14 c = same_row 19 14 _ _ c.in-19.is c.in-14.is

pub returns-in_default-number-2 : goal.returns-in_default-number-2
unfolding head_of word_of row_of fields_of layout_at layouts
returns-in_default-number-2 c = past_fields 19 _ _ c.in-19.is c.in_default-number-2.in_default-number-2-own.rest

pub returns-in-0-number-2 : goal.returns-in-0-number-2
unfolding head_of word_of row_of fields_of layout_at layouts
returns-in-0-number-2 c = same_row 20 0 _ _ c.in-20.is c.in-0-number-2.is

pub returns-in-1-number-2 : goal.returns-in-1-number-2
unfolding head_of word_of row_of fields_of layout_at layouts
returns-in-1-number-2 c = same_row 20 1 _ _ c.in-20.is c.in-1-number-2.is

pub returns-in_default-number-3 : goal.returns-in_default-number-3
unfolding head_of word_of row_of fields_of layout_at layouts
returns-in_default-number-3 c = past_fields 20 _ _ c.in-20.is c.in_default-number-3.in_default-number-3-own.rest

pub returns-in-0-number-3 : goal.returns-in-0-number-3
unfolding head_of word_of row_of fields_of layout_at layouts
returns-in-0-number-3 c = same_row 21 0 _ _ c.in-21.is c.in-0-number-3.is

pub returns-in-1-number-3 : goal.returns-in-1-number-3
unfolding head_of word_of row_of fields_of layout_at layouts
returns-in-1-number-3 c = same_row 21 1 _ _ c.in-21.is c.in-1-number-3.is

pub returns-in_default-number-4 : goal.returns-in_default-number-4
unfolding head_of word_of row_of fields_of layout_at layouts
returns-in_default-number-4 c = past_fields 21 _ _ c.in-21.is c.in_default-number-4.in_default-number-4-own.rest

pub returns-in-0-number-4 : goal.returns-in-0-number-4
unfolding head_of word_of row_of fields_of layout_at layouts
returns-in-0-number-4 c = same_row 22 0 _ _ c.in-22.is c.in-0-number-4.is

pub returns-in-1-number-4 : goal.returns-in-1-number-4
unfolding head_of word_of row_of fields_of layout_at layouts
returns-in-1-number-4 c = same_row 22 1 _ _ c.in-22.is c.in-1-number-4.is

pub returns-in-2-number-2 : goal.returns-in-2-number-2
unfolding head_of word_of row_of fields_of layout_at layouts
returns-in-2-number-2 c = same_row 22 2 _ _ c.in-22.is c.in-2-number-2.is

pub returns-in-3-number-2 : goal.returns-in-3-number-2
unfolding head_of word_of row_of fields_of layout_at layouts
returns-in-3-number-2 c = same_row 22 3 _ _ c.in-22.is c.in-3-number-2.is

pub returns-in-4-number-2 : goal.returns-in-4-number-2
unfolding head_of word_of row_of fields_of layout_at layouts
returns-in-4-number-2 c = same_row 22 4 _ _ c.in-22.is c.in-4-number-2.is

pub returns-in-5-number-2 : goal.returns-in-5-number-2
unfolding head_of word_of row_of fields_of layout_at layouts
returns-in-5-number-2 c = same_row 22 5 _ _ c.in-22.is c.in-5-number-2.is

pub returns-in-6-number-2 : goal.returns-in-6-number-2
unfolding head_of word_of row_of fields_of layout_at layouts
returns-in-6-number-2 c = same_row 22 6 _ _ c.in-22.is c.in-6-number-2.is

pub returns-in-7-number-2 : goal.returns-in-7-number-2
unfolding head_of word_of row_of fields_of layout_at layouts
returns-in-7-number-2 c = same_row 22 7 _ _ c.in-22.is c.in-7-number-2.is

pub returns-in-8-number-2 : goal.returns-in-8-number-2
unfolding head_of word_of row_of fields_of layout_at layouts
returns-in-8-number-2 c = same_row 22 8 _ _ c.in-22.is c.in-8-number-2.is

pub returns-in-9-number-2 : goal.returns-in-9-number-2
unfolding head_of word_of row_of fields_of layout_at layouts
returns-in-9-number-2 c = same_row 22 9 _ _ c.in-22.is c.in-9-number-2.is

pub returns-in_default-number-5 : goal.returns-in_default-number-5
unfolding head_of word_of row_of fields_of layout_at layouts
returns-in_default-number-5 c = past_fields 22 _ _ c.in-22.is c.in_default-number-5.in_default-number-5-own.rest

pub returns-in_default : goal.returns-in_default
unfolding head_of word_of row_of fields_of layout_at layouts
returns-in_default c = search rules
