-- `format_layout::rows_from_h2300` meets its contract: each line is the code or the field of the table, by a computation.
use Rattle.format_layout.specs.Table.{layouts}
use Rattle.format_layout.specs.Layouts.{layout_at, fields_of}
use Rattle.format_layout.specs.packed.Rows.{head_of, word_of, row_of}
use Rattle.format_layout.proofs.Lines.{same_row, past_fields, above}
use borrow.Author.Rules.{rules}
use Rattle.format_layout.proofs.rows.rows_from_h2300.Goals as goal

pub rows_from_h1601-requires : goal.rows_from_h1601-requires
unfolding head_of word_of row_of fields_of layout_at layouts
rows_from_h1601-requires c = above 23 3 _ c.requires c.in_default.in_default-own.rest

pub returns-in-0 : goal.returns-in-0
unfolding head_of word_of row_of fields_of layout_at layouts
returns-in-0 c = same_row 23 0 _ _ c.in-23.is c.in-0.is

pub returns-in-1 : goal.returns-in-1
unfolding head_of word_of row_of fields_of layout_at layouts
returns-in-1 c = same_row 23 1 _ _ c.in-23.is c.in-1.is

pub returns-in_default-number : goal.returns-in_default-number
unfolding head_of word_of row_of fields_of layout_at layouts
returns-in_default-number c = past_fields 23 _ _ c.in-23.is c.in_default-number.in_default-number-own.rest

pub returns-in-0-number : goal.returns-in-0-number
unfolding head_of word_of row_of fields_of layout_at layouts
returns-in-0-number c = same_row 24 0 _ _ c.in-24.is c.in-0-number.is

pub returns-in-1-number : goal.returns-in-1-number
unfolding head_of word_of row_of fields_of layout_at layouts
returns-in-1-number c = same_row 24 1 _ _ c.in-24.is c.in-1-number.is

pub returns-in-2 : goal.returns-in-2
unfolding head_of word_of row_of fields_of layout_at layouts
returns-in-2 c = same_row 24 2 _ _ c.in-24.is c.in-2.is

pub returns-in-3 : goal.returns-in-3
unfolding head_of word_of row_of fields_of layout_at layouts
returns-in-3 c = same_row 24 3 _ _ c.in-24.is c.in-3.is

pub returns-in-4 : goal.returns-in-4
unfolding head_of word_of row_of fields_of layout_at layouts
returns-in-4 c = same_row 24 4 _ _ c.in-24.is c.in-4.is

pub returns-in-5 : goal.returns-in-5
unfolding head_of word_of row_of fields_of layout_at layouts
returns-in-5 c = same_row 24 5 _ _ c.in-24.is c.in-5.is

pub returns-in-6 : goal.returns-in-6
unfolding head_of word_of row_of fields_of layout_at layouts
returns-in-6 c = same_row 24 6 _ _ c.in-24.is c.in-6.is

pub returns-in-7 : goal.returns-in-7
unfolding head_of word_of row_of fields_of layout_at layouts
returns-in-7 c = same_row 24 7 _ _ c.in-24.is c.in-7.is

pub returns-in-8 : goal.returns-in-8
unfolding head_of word_of row_of fields_of layout_at layouts
returns-in-8 c = same_row 24 8 _ _ c.in-24.is c.in-8.is

pub returns-in-9 : goal.returns-in-9
unfolding head_of word_of row_of fields_of layout_at layouts
returns-in-9 c = same_row 24 9 _ _ c.in-24.is c.in-9.is

pub returns-in-10 : goal.returns-in-10
unfolding head_of word_of row_of fields_of layout_at layouts
returns-in-10 c = same_row 24 10 _ _ c.in-24.is c.in-10.is

pub returns-in-11 : goal.returns-in-11
unfolding head_of word_of row_of fields_of layout_at layouts
returns-in-11 c = same_row 24 11 _ _ c.in-24.is c.in-11.is

pub returns-in-12 : goal.returns-in-12
unfolding head_of word_of row_of fields_of layout_at layouts
returns-in-12 c = same_row 24 12 _ _ c.in-24.is c.in-12.is

pub returns-in-13 : goal.returns-in-13
unfolding head_of word_of row_of fields_of layout_at layouts
returns-in-13 c = same_row 24 13 _ _ c.in-24.is c.in-13.is

pub returns-in-14 : goal.returns-in-14
unfolding head_of word_of row_of fields_of layout_at layouts
returns-in-14 c = same_row 24 14 _ _ c.in-24.is c.in-14.is

pub returns-in-15 : goal.returns-in-15
unfolding head_of word_of row_of fields_of layout_at layouts
returns-in-15 c = same_row 24 15 _ _ c.in-24.is c.in-15.is

pub returns-in-16 : goal.returns-in-16
unfolding head_of word_of row_of fields_of layout_at layouts
returns-in-16 c = same_row 24 16 _ _ c.in-24.is c.in-16.is

pub returns-in-17 : goal.returns-in-17
unfolding head_of word_of row_of fields_of layout_at layouts
returns-in-17 c = same_row 24 17 _ _ c.in-24.is c.in-17.is

pub returns-in-18 : goal.returns-in-18
unfolding head_of word_of row_of fields_of layout_at layouts
returns-in-18 c = same_row 24 18 _ _ c.in-24.is c.in-18.is

pub returns-in_default-number-2 : goal.returns-in_default-number-2
unfolding head_of word_of row_of fields_of layout_at layouts
returns-in_default-number-2 c = past_fields 24 _ _ c.in-24.is c.in_default-number-2.in_default-number-2-own.rest

pub returns-in-0-number-2 : goal.returns-in-0-number-2
unfolding head_of word_of row_of fields_of layout_at layouts
returns-in-0-number-2 c = same_row 25 0 _ _ c.in-25.is c.in-0-number-2.is

pub returns-in-1-number-2 : goal.returns-in-1-number-2
unfolding head_of word_of row_of fields_of layout_at layouts
returns-in-1-number-2 c = same_row 25 1 _ _ c.in-25.is c.in-1-number-2.is

pub returns-in-2-number : goal.returns-in-2-number
unfolding head_of word_of row_of fields_of layout_at layouts
returns-in-2-number c = same_row 25 2 _ _ c.in-25.is c.in-2-number.is

pub returns-in_default-number-3 : goal.returns-in_default-number-3
unfolding head_of word_of row_of fields_of layout_at layouts
returns-in_default-number-3 c = past_fields 25 _ _ c.in-25.is c.in_default-number-3.in_default-number-3-own.rest

pub returns-in_default : goal.returns-in_default
unfolding head_of word_of row_of fields_of layout_at layouts
returns-in_default c = search rules
