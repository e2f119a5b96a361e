-- `format_layout::row_of` meets its contract: each line is the code or the field of the table, by a computation.
use Rattle.format_layout.specs.Table.{layouts}
use Rattle.format_layout.specs.Layouts.{layout_at, fields_of}
use Rattle.format_layout.specs.packed.Rows.{head_of, word_of, row_of}
use Rattle.format_layout.proofs.Lines.{same_row, past_fields, above}
use borrow.Author.Rules.{rules}
use native.Mathlib.Omega.{arith}
use Rattle.format_layout.proofs.rows.row_of.Goals as goal

pub rows_from_h0100-requires : goal.rows_from_h0100-requires
unfolding head_of word_of row_of fields_of layout_at layouts
rows_from_h0100-requires c = above 0 12 _ (omega arith) c.in_default.in_default-own.rest

pub returns-in-0-number : goal.returns-in-0-number
unfolding head_of word_of row_of fields_of layout_at layouts
returns-in-0-number c = same_row 0 0 _ _ c.in-0.is c.in-0-number.is

pub returns-in-1-number : goal.returns-in-1-number
unfolding head_of word_of row_of fields_of layout_at layouts
returns-in-1-number c = same_row 0 1 _ _ c.in-0.is c.in-1-number.is

pub returns-in-2-number : goal.returns-in-2-number
unfolding head_of word_of row_of fields_of layout_at layouts
returns-in-2-number c = same_row 0 2 _ _ c.in-0.is c.in-2-number.is

pub returns-in-3-number : goal.returns-in-3-number
unfolding head_of word_of row_of fields_of layout_at layouts
returns-in-3-number c = same_row 0 3 _ _ c.in-0.is c.in-3-number.is

pub returns-in_default-number : goal.returns-in_default-number
unfolding head_of word_of row_of fields_of layout_at layouts
returns-in_default-number c = past_fields 0 _ _ c.in-0.is c.in_default-number.in_default-number-own.rest

pub returns-in-0-number-2 : goal.returns-in-0-number-2
unfolding head_of word_of row_of fields_of layout_at layouts
returns-in-0-number-2 c = same_row 1 0 _ _ c.in-1.is c.in-0-number-2.is

pub returns-in-1-number-2 : goal.returns-in-1-number-2
unfolding head_of word_of row_of fields_of layout_at layouts
returns-in-1-number-2 c = same_row 1 1 _ _ c.in-1.is c.in-1-number-2.is

pub returns-in-2-number-2 : goal.returns-in-2-number-2
unfolding head_of word_of row_of fields_of layout_at layouts
returns-in-2-number-2 c = same_row 1 2 _ _ c.in-1.is c.in-2-number-2.is

pub returns-in-3-number-2 : goal.returns-in-3-number-2
unfolding head_of word_of row_of fields_of layout_at layouts
returns-in-3-number-2 c = same_row 1 3 _ _ c.in-1.is c.in-3-number-2.is

pub returns-in-4-number : goal.returns-in-4-number
unfolding head_of word_of row_of fields_of layout_at layouts
returns-in-4-number c = same_row 1 4 _ _ c.in-1.is c.in-4-number.is

pub returns-in_default-number-2 : goal.returns-in_default-number-2
unfolding head_of word_of row_of fields_of layout_at layouts
returns-in_default-number-2 c = past_fields 1 _ _ c.in-1.is c.in_default-number-2.in_default-number-2-own.rest

pub returns-in-0-number-3 : goal.returns-in-0-number-3
unfolding head_of word_of row_of fields_of layout_at layouts
returns-in-0-number-3 c = same_row 2 0 _ _ c.in-2.is c.in-0-number-3.is

pub returns-in-1-number-3 : goal.returns-in-1-number-3
unfolding head_of word_of row_of fields_of layout_at layouts
returns-in-1-number-3 c = same_row 2 1 _ _ c.in-2.is c.in-1-number-3.is

pub returns-in_default-number-3 : goal.returns-in_default-number-3
unfolding head_of word_of row_of fields_of layout_at layouts
returns-in_default-number-3 c = past_fields 2 _ _ c.in-2.is c.in_default-number-3.in_default-number-3-own.rest

pub returns-in-0-number-4 : goal.returns-in-0-number-4
unfolding head_of word_of row_of fields_of layout_at layouts
returns-in-0-number-4 c = same_row 3 0 _ _ c.in-3.is c.in-0-number-4.is

pub returns-in-1-number-4 : goal.returns-in-1-number-4
unfolding head_of word_of row_of fields_of layout_at layouts
returns-in-1-number-4 c = same_row 3 1 _ _ c.in-3.is c.in-1-number-4.is

pub returns-in-2-number-3 : goal.returns-in-2-number-3
unfolding head_of word_of row_of fields_of layout_at layouts
returns-in-2-number-3 c = same_row 3 2 _ _ c.in-3.is c.in-2-number-3.is

pub returns-in-3-number-3 : goal.returns-in-3-number-3
unfolding head_of word_of row_of fields_of layout_at layouts
returns-in-3-number-3 c = same_row 3 3 _ _ c.in-3.is c.in-3-number-3.is

pub returns-in-4-number-2 : goal.returns-in-4-number-2
unfolding head_of word_of row_of fields_of layout_at layouts
returns-in-4-number-2 c = same_row 3 4 _ _ c.in-3.is c.in-4-number-2.is

pub returns-in-5-number : goal.returns-in-5-number
unfolding head_of word_of row_of fields_of layout_at layouts
returns-in-5-number c = same_row 3 5 _ _ c.in-3.is c.in-5-number.is

pub returns-in_default-number-4 : goal.returns-in_default-number-4
unfolding head_of word_of row_of fields_of layout_at layouts
returns-in_default-number-4 c = past_fields 3 _ _ c.in-3.is c.in_default-number-4.in_default-number-4-own.rest

pub returns-in-0-number-5 : goal.returns-in-0-number-5
unfolding head_of word_of row_of fields_of layout_at layouts
returns-in-0-number-5 c = same_row 4 0 _ _ c.in-4.is c.in-0-number-5.is

pub returns-in-1-number-5 : goal.returns-in-1-number-5
unfolding head_of word_of row_of fields_of layout_at layouts
returns-in-1-number-5 c = same_row 4 1 _ _ c.in-4.is c.in-1-number-5.is

pub returns-in_default-number-5 : goal.returns-in_default-number-5
unfolding head_of word_of row_of fields_of layout_at layouts
returns-in_default-number-5 c = past_fields 4 _ _ c.in-4.is c.in_default-number-5.in_default-number-5-own.rest

pub returns-in-0-number-6 : goal.returns-in-0-number-6
unfolding head_of word_of row_of fields_of layout_at layouts
returns-in-0-number-6 c = same_row 5 0 _ _ c.in-5.is c.in-0-number-6.is

pub returns-in-1-number-6 : goal.returns-in-1-number-6
unfolding head_of word_of row_of fields_of layout_at layouts
returns-in-1-number-6 c = same_row 5 1 _ _ c.in-5.is c.in-1-number-6.is

pub returns-in_default-number-6 : goal.returns-in_default-number-6
unfolding head_of word_of row_of fields_of layout_at layouts
returns-in_default-number-6 c = past_fields 5 _ _ c.in-5.is c.in_default-number-6.in_default-number-6-own.rest

pub returns-in-0-number-7 : goal.returns-in-0-number-7
unfolding head_of word_of row_of fields_of layout_at layouts
returns-in-0-number-7 c = same_row 6 0 _ _ c.in-6.is c.in-0-number-7.is

pub returns-in-1-number-7 : goal.returns-in-1-number-7
unfolding head_of word_of row_of fields_of layout_at layouts
returns-in-1-number-7 c = same_row 6 1 _ _ c.in-6.is c.in-1-number-7.is

pub returns-in_default-number-7 : goal.returns-in_default-number-7
unfolding head_of word_of row_of fields_of layout_at layouts
returns-in_default-number-7 c = past_fields 6 _ _ c.in-6.is c.in_default-number-7.in_default-number-7-own.rest

pub returns-in-0-number-8 : goal.returns-in-0-number-8
unfolding head_of word_of row_of fields_of layout_at layouts
returns-in-0-number-8 c = same_row 7 0 _ _ c.in-7.is c.in-0-number-8.is

pub returns-in-1-number-8 : goal.returns-in-1-number-8
unfolding head_of word_of row_of fields_of layout_at layouts
returns-in-1-number-8 c = same_row 7 1 _ _ c.in-7.is c.in-1-number-8.is

pub returns-in_default-number-8 : goal.returns-in_default-number-8
unfolding head_of word_of row_of fields_of layout_at layouts
returns-in_default-number-8 c = past_fields 7 _ _ c.in-7.is c.in_default-number-8.in_default-number-8-own.rest

pub returns-in-0-number-9 : goal.returns-in-0-number-9
unfolding head_of word_of row_of fields_of layout_at layouts
returns-in-0-number-9 c = same_row 8 0 _ _ c.in-8.is c.in-0-number-9.is

pub returns-in-1-number-9 : goal.returns-in-1-number-9
unfolding head_of word_of row_of fields_of layout_at layouts
returns-in-1-number-9 c = same_row 8 1 _ _ c.in-8.is c.in-1-number-9.is

pub returns-in-2-number-4 : goal.returns-in-2-number-4
unfolding head_of word_of row_of fields_of layout_at layouts
returns-in-2-number-4 c = same_row 8 2 _ _ c.in-8.is c.in-2-number-4.is

pub returns-in-3-number-4 : goal.returns-in-3-number-4
unfolding head_of word_of row_of fields_of layout_at layouts
returns-in-3-number-4 c = same_row 8 3 _ _ c.in-8.is c.in-3-number-4.is

pub returns-in-4-number-3 : goal.returns-in-4-number-3
unfolding head_of word_of row_of fields_of layout_at layouts
returns-in-4-number-3 c = same_row 8 4 _ _ c.in-8.is c.in-4-number-3.is

pub returns-in-5-number-2 : goal.returns-in-5-number-2
unfolding head_of word_of row_of fields_of layout_at layouts
returns-in-5-number-2 c = same_row 8 5 _ _ c.in-8.is c.in-5-number-2.is

pub returns-in-6-number : goal.returns-in-6-number
unfolding head_of word_of row_of fields_of layout_at layouts
returns-in-6-number c = same_row 8 6 _ _ c.in-8.is c.in-6-number.is

pub returns-in-7-number : goal.returns-in-7-number
unfolding head_of word_of row_of fields_of layout_at layouts
returns-in-7-number c = same_row 8 7 _ _ c.in-8.is c.in-7-number.is

pub returns-in-8-number : goal.returns-in-8-number
unfolding head_of word_of row_of fields_of layout_at layouts
returns-in-8-number c = same_row 8 8 _ _ c.in-8.is c.in-8-number.is

pub returns-in-9-number : goal.returns-in-9-number
unfolding head_of word_of row_of fields_of layout_at layouts
returns-in-9-number c = same_row 8 9 _ _ c.in-8.is c.in-9-number.is

pub returns-in_default-number-9 : goal.returns-in_default-number-9
unfolding head_of word_of row_of fields_of layout_at layouts
returns-in_default-number-9 c = past_fields 8 _ _ c.in-8.is c.in_default-number-9.in_default-number-9-own.rest

pub returns-in-0-number-10 : goal.returns-in-0-number-10
unfolding head_of word_of row_of fields_of layout_at layouts
returns-in-0-number-10 c = same_row 9 0 _ _ c.in-9.is c.in-0-number-10.is

pub returns-in-1-number-10 : goal.returns-in-1-number-10
unfolding head_of word_of row_of fields_of layout_at layouts
returns-in-1-number-10 c = same_row 9 1 _ _ c.in-9.is c.in-1-number-10.is

pub returns-in-2-number-5 : goal.returns-in-2-number-5
unfolding head_of word_of row_of fields_of layout_at layouts
returns-in-2-number-5 c = same_row 9 2 _ _ c.in-9.is c.in-2-number-5.is

pub returns-in-3-number-5 : goal.returns-in-3-number-5
unfolding head_of word_of row_of fields_of layout_at layouts
returns-in-3-number-5 c = same_row 9 3 _ _ c.in-9.is c.in-3-number-5.is

pub returns-in-4-number-4 : goal.returns-in-4-number-4
unfolding head_of word_of row_of fields_of layout_at layouts
returns-in-4-number-4 c = same_row 9 4 _ _ c.in-9.is c.in-4-number-4.is

pub returns-in-5-number-3 : goal.returns-in-5-number-3
unfolding head_of word_of row_of fields_of layout_at layouts
returns-in-5-number-3 c = same_row 9 5 _ _ c.in-9.is c.in-5-number-3.is

pub returns-in-6-number-2 : goal.returns-in-6-number-2
unfolding head_of word_of row_of fields_of layout_at layouts
returns-in-6-number-2 c = same_row 9 6 _ _ c.in-9.is c.in-6-number-2.is

pub returns-in-7-number-2 : goal.returns-in-7-number-2
unfolding head_of word_of row_of fields_of layout_at layouts
returns-in-7-number-2 c = same_row 9 7 _ _ c.in-9.is c.in-7-number-2.is

pub returns-in_default-number-10 : goal.returns-in_default-number-10
unfolding head_of word_of row_of fields_of layout_at layouts
returns-in_default-number-10 c = past_fields 9 _ _ c.in-9.is c.in_default-number-10.in_default-number-10-own.rest

pub returns-in-0-number-11 : goal.returns-in-0-number-11
unfolding head_of word_of row_of fields_of layout_at layouts
returns-in-0-number-11 c = same_row 10 0 _ _ c.in-10.is c.in-0-number-11.is

pub returns-in-1-number-11 : goal.returns-in-1-number-11
unfolding head_of word_of row_of fields_of layout_at layouts
returns-in-1-number-11 c = same_row 10 1 _ _ c.in-10.is c.in-1-number-11.is

pub returns-in_default-number-11 : goal.returns-in_default-number-11
unfolding head_of word_of row_of fields_of layout_at layouts
returns-in_default-number-11 c = past_fields 10 _ _ c.in-10.is c.in_default-number-11.in_default-number-11-own.rest

pub returns-in-0-number-12 : goal.returns-in-0-number-12
unfolding head_of word_of row_of fields_of layout_at layouts
returns-in-0-number-12 c = same_row 11 0 _ _ c.in-11.is c.in-0-number-12.is

pub returns-in-1-number-12 : goal.returns-in-1-number-12
unfolding head_of word_of row_of fields_of layout_at layouts
returns-in-1-number-12 c = same_row 11 1 _ _ c.in-11.is c.in-1-number-12.is

pub returns-in_default-number-12 : goal.returns-in_default-number-12
unfolding head_of word_of row_of fields_of layout_at layouts
returns-in_default-number-12 c = past_fields 11 _ _ c.in-11.is c.in_default-number-12.in_default-number-12-own.rest

pub returns-in_default : goal.returns-in_default
unfolding head_of word_of row_of fields_of layout_at layouts
returns-in_default c = search rules
