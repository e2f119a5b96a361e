-- `format_layout::rows_from_h1601` meets its contract: each line is the code or the field of the table, by a computation.
use Rattle.format_layout.specs.Table.{layouts}
use Rattle.format_layout.specs.Layouts.{layout_at, fields_of}
use Rattle.format_layout.specs.packed.Rows.{head_of, word_of, row_of}
use Rattle.format_layout.proofs.Lines.{same_row, past_fields, above, past_rows}
use Rattle.format_layout.proofs.rows.rows_from_h1601.Goals as goal

pub returns-in-0 : goal.returns-in-0
unfolding head_of word_of row_of fields_of layout_at layouts
returns-in-0 c = same_row 26 0 _ _ c.in-26.is c.in-0.is

pub returns-in-1 : goal.returns-in-1
unfolding head_of word_of row_of fields_of layout_at layouts
returns-in-1 c = same_row 26 1 _ _ c.in-26.is c.in-1.is

pub returns-in-2 : goal.returns-in-2
unfolding head_of word_of row_of fields_of layout_at layouts
returns-in-2 c = same_row 26 2 _ _ c.in-26.is c.in-2.is

pub returns-in-3 : goal.returns-in-3
unfolding head_of word_of row_of fields_of layout_at layouts
returns-in-3 c = same_row 26 3 _ _ c.in-26.is c.in-3.is

pub returns-in-4 : goal.returns-in-4
unfolding head_of word_of row_of fields_of layout_at layouts
returns-in-4 c = same_row 26 4 _ _ c.in-26.is c.in-4.is

pub returns-in-5 : goal.returns-in-5
unfolding head_of word_of row_of fields_of layout_at layouts
returns-in-5 c = same_row 26 5 _ _ c.in-26.is c.in-5.is

pub returns-in-6 : goal.returns-in-6
unfolding head_of word_of row_of fields_of layout_at layouts
returns-in-6 c = same_row 26 6 _ _ c.in-26.is c.in-6.is

pub returns-in-7 : goal.returns-in-7
unfolding head_of word_of row_of fields_of layout_at layouts
returns-in-7 c = same_row 26 7 _ _ c.in-26.is c.in-7.is

pub returns-in-8 : goal.returns-in-8
unfolding head_of word_of row_of fields_of layout_at layouts
returns-in-8 c = same_row 26 8 _ _ c.in-26.is c.in-8.is

pub returns-in-9 : goal.returns-in-9
unfolding head_of word_of row_of fields_of layout_at layouts
returns-in-9 c = same_row 26 9 _ _ c.in-26.is c.in-9.is

pub returns-in-10 : goal.returns-in-10
unfolding head_of word_of row_of fields_of layout_at layouts
returns-in-10 c = same_row 26 10 _ _ c.in-26.is c.in-10.is

pub returns-in-11 : goal.returns-in-11
unfolding head_of word_of row_of fields_of layout_at layouts
returns-in-11 c = same_row 26 11 _ _ c.in-26.is c.in-11.is

pub returns-in-12 : goal.returns-in-12
unfolding head_of word_of row_of fields_of layout_at layouts
returns-in-12 c = same_row 26 12 _ _ c.in-26.is c.in-12.is

pub returns-in_default-number : goal.returns-in_default-number
unfolding head_of word_of row_of fields_of layout_at layouts
returns-in_default-number c = past_fields 26 _ _ c.in-26.is c.in_default-number.in_default-number-own.rest

pub returns-in-0-number : goal.returns-in-0-number
unfolding head_of word_of row_of fields_of layout_at layouts
returns-in-0-number c = same_row 27 0 _ _ c.in-27.is c.in-0-number.is

pub returns-in-1-number : goal.returns-in-1-number
unfolding head_of word_of row_of fields_of layout_at layouts
returns-in-1-number c = same_row 27 1 _ _ c.in-27.is c.in-1-number.is

pub returns-in-2-number : goal.returns-in-2-number
unfolding head_of word_of row_of fields_of layout_at layouts
returns-in-2-number c = same_row 27 2 _ _ c.in-27.is c.in-2-number.is

pub returns-in-3-number : goal.returns-in-3-number
unfolding head_of word_of row_of fields_of layout_at layouts
returns-in-3-number c = same_row 27 3 _ _ c.in-27.is c.in-3-number.is

pub returns-in-4-number : goal.returns-in-4-number
unfolding head_of word_of row_of fields_of layout_at layouts
returns-in-4-number c = same_row 27 4 _ _ c.in-27.is c.in-4-number.is

pub returns-in-5-number : goal.returns-in-5-number
unfolding head_of word_of row_of fields_of layout_at layouts
returns-in-5-number c = same_row 27 5 _ _ c.in-27.is c.in-5-number.is

pub returns-in-6-number : goal.returns-in-6-number
unfolding head_of word_of row_of fields_of layout_at layouts
returns-in-6-number c = same_row 27 6 _ _ c.in-27.is c.in-6-number.is

pub returns-in-7-number : goal.returns-in-7-number
unfolding head_of word_of row_of fields_of layout_at layouts
returns-in-7-number c = same_row 27 7 _ _ c.in-27.is c.in-7-number.is

pub returns-in-8-number : goal.returns-in-8-number
unfolding head_of word_of row_of fields_of layout_at layouts
returns-in-8-number c = same_row 27 8 _ _ c.in-27.is c.in-8-number.is

pub returns-in_default-number-2 : goal.returns-in_default-number-2
unfolding head_of word_of row_of fields_of layout_at layouts
returns-in_default-number-2 c = past_fields 27 _ _ c.in-27.is c.in_default-number-2.in_default-number-2-own.rest

pub returns-in-0-number-2 : goal.returns-in-0-number-2
unfolding head_of word_of row_of fields_of layout_at layouts
returns-in-0-number-2 c = same_row 28 0 _ _ c.in-28.is c.in-0-number-2.is

pub returns-in-1-number-2 : goal.returns-in-1-number-2
unfolding head_of word_of row_of fields_of layout_at layouts
returns-in-1-number-2 c = same_row 28 1 _ _ c.in-28.is c.in-1-number-2.is

pub returns-in-2-number-2 : goal.returns-in-2-number-2
unfolding head_of word_of row_of fields_of layout_at layouts
returns-in-2-number-2 c = same_row 28 2 _ _ c.in-28.is c.in-2-number-2.is

pub returns-in-3-number-2 : goal.returns-in-3-number-2
unfolding head_of word_of row_of fields_of layout_at layouts
returns-in-3-number-2 c = same_row 28 3 _ _ c.in-28.is c.in-3-number-2.is

pub returns-in-4-number-2 : goal.returns-in-4-number-2
unfolding head_of word_of row_of fields_of layout_at layouts
returns-in-4-number-2 c = same_row 28 4 _ _ c.in-28.is c.in-4-number-2.is

pub returns-in-5-number-2 : goal.returns-in-5-number-2
unfolding head_of word_of row_of fields_of layout_at layouts
returns-in-5-number-2 c = same_row 28 5 _ _ c.in-28.is c.in-5-number-2.is

pub returns-in-6-number-2 : goal.returns-in-6-number-2
unfolding head_of word_of row_of fields_of layout_at layouts
returns-in-6-number-2 c = same_row 28 6 _ _ c.in-28.is c.in-6-number-2.is

pub returns-in_default-number-3 : goal.returns-in_default-number-3
unfolding head_of word_of row_of fields_of layout_at layouts
returns-in_default-number-3 c = past_fields 28 _ _ c.in-28.is c.in_default-number-3.in_default-number-3-own.rest

pub returns-in-0-number-3 : goal.returns-in-0-number-3
unfolding head_of word_of row_of fields_of layout_at layouts
returns-in-0-number-3 c = same_row 29 0 _ _ c.in-29.is c.in-0-number-3.is

pub returns-in-1-number-3 : goal.returns-in-1-number-3
unfolding head_of word_of row_of fields_of layout_at layouts
returns-in-1-number-3 c = same_row 29 1 _ _ c.in-29.is c.in-1-number-3.is

pub returns-in-2-number-3 : goal.returns-in-2-number-3
unfolding head_of word_of row_of fields_of layout_at layouts
returns-in-2-number-3 c = same_row 29 2 _ _ c.in-29.is c.in-2-number-3.is

pub returns-in-3-number-3 : goal.returns-in-3-number-3
unfolding head_of word_of row_of fields_of layout_at layouts
returns-in-3-number-3 c = same_row 29 3 _ _ c.in-29.is c.in-3-number-3.is

pub returns-in-4-number-3 : goal.returns-in-4-number-3
unfolding head_of word_of row_of fields_of layout_at layouts
returns-in-4-number-3 c = same_row 29 4 _ _ c.in-29.is c.in-4-number-3.is

pub returns-in-5-number-3 : goal.returns-in-5-number-3
unfolding head_of word_of row_of fields_of layout_at layouts
returns-in-5-number-3 c = same_row 29 5 _ _ c.in-29.is c.in-5-number-3.is

pub returns-in-6-number-3 : goal.returns-in-6-number-3
unfolding head_of word_of row_of fields_of layout_at layouts
returns-in-6-number-3 c = same_row 29 6 _ _ c.in-29.is c.in-6-number-3.is

pub returns-in-7-number-2 : goal.returns-in-7-number-2
unfolding head_of word_of row_of fields_of layout_at layouts
returns-in-7-number-2 c = same_row 29 7 _ _ c.in-29.is c.in-7-number-2.is

pub returns-in-8-number-2 : goal.returns-in-8-number-2
unfolding head_of word_of row_of fields_of layout_at layouts
returns-in-8-number-2 c = same_row 29 8 _ _ c.in-29.is c.in-8-number-2.is

pub returns-in_default-number-4 : goal.returns-in_default-number-4
unfolding head_of word_of row_of fields_of layout_at layouts
returns-in_default-number-4 c = past_fields 29 _ _ c.in-29.is c.in_default-number-4.in_default-number-4-own.rest

pub returns-in-0-number-4 : goal.returns-in-0-number-4
unfolding head_of word_of row_of fields_of layout_at layouts
returns-in-0-number-4 c = same_row 30 0 _ _ c.in-30.is c.in-0-number-4.is

pub returns-in-1-number-4 : goal.returns-in-1-number-4
unfolding head_of word_of row_of fields_of layout_at layouts
returns-in-1-number-4 c = same_row 30 1 _ _ c.in-30.is c.in-1-number-4.is

pub returns-in-2-number-4 : goal.returns-in-2-number-4
unfolding head_of word_of row_of fields_of layout_at layouts
returns-in-2-number-4 c = same_row 30 2 _ _ c.in-30.is c.in-2-number-4.is

pub returns-in-3-number-4 : goal.returns-in-3-number-4
unfolding head_of word_of row_of fields_of layout_at layouts
returns-in-3-number-4 c = same_row 30 3 _ _ c.in-30.is c.in-3-number-4.is

pub returns-in-4-number-4 : goal.returns-in-4-number-4
unfolding head_of word_of row_of fields_of layout_at layouts
returns-in-4-number-4 c = same_row 30 4 _ _ c.in-30.is c.in-4-number-4.is

pub returns-in-5-number-4 : goal.returns-in-5-number-4
unfolding head_of word_of row_of fields_of layout_at layouts
returns-in-5-number-4 c = same_row 30 5 _ _ c.in-30.is c.in-5-number-4.is

pub returns-in-6-number-4 : goal.returns-in-6-number-4
unfolding head_of word_of row_of fields_of layout_at layouts
returns-in-6-number-4 c = same_row 30 6 _ _ c.in-30.is c.in-6-number-4.is

pub returns-in-7-number-3 : goal.returns-in-7-number-3
unfolding head_of word_of row_of fields_of layout_at layouts
returns-in-7-number-3 c = same_row 30 7 _ _ c.in-30.is c.in-7-number-3.is

pub returns-in-8-number-3 : goal.returns-in-8-number-3
unfolding head_of word_of row_of fields_of layout_at layouts
returns-in-8-number-3 c = same_row 30 8 _ _ c.in-30.is c.in-8-number-3.is

pub returns-in-9-number : goal.returns-in-9-number
unfolding head_of word_of row_of fields_of layout_at layouts
returns-in-9-number c = same_row 30 9 _ _ c.in-30.is c.in-9-number.is

pub returns-in-10-number : goal.returns-in-10-number
unfolding head_of word_of row_of fields_of layout_at layouts
returns-in-10-number c = same_row 30 10 _ _ c.in-30.is c.in-10-number.is

pub returns-in_default-number-5 : goal.returns-in_default-number-5
unfolding head_of word_of row_of fields_of layout_at layouts
returns-in_default-number-5 c = past_fields 30 _ _ c.in-30.is c.in_default-number-5.in_default-number-5-own.rest

pub returns-in_default : goal.returns-in_default
unfolding head_of word_of row_of fields_of layout_at layouts
returns-in_default c = past_rows _ c.args.number (above 26 5 _ c.requires c.in_default.in_default-own.rest)
