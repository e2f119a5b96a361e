-- `tie_rules::tie_of` meets its contract: each line is a row of the table, by a computation.
use mathlib.Core.Path.{refl}
use Rattle.base_lists.specs.Parts.{kept, up_to}
use Rattle.base_lists.specs.Count.{first_from, first as place}
use Rattle.format_layout.proofs.Lines.{above}
use Rattle.tie_rules.specs.Ties.{ties, line_in, line_for, has_vessel, about, states_own, states_count, can_tie, tie_columns}
use Rattle.tie_rules.specs.packed.Rows.{parts, part_at, how_of, code_of, line_of, stated_by, row_at, tie_row}
use Rattle.tie_rules.proofs.columns.Picked.{same_tie, past_ties, no_ties, past_layouts}
use native.Mathlib.Omega.{arith}
use Rattle.tie_rules.proofs.rows.tie_of.Goals as goal

pub returns-in-0 : goal.returns-in-0
unfolding tie_row row_at stated_by line_of code_of how_of part_at parts place first_from line_for line_in ties tie_columns kept up_to can_tie about states_count states_own has_vessel
returns-in-0 c = no_ties 0 _ c.args.slot c.in-0.is refl refl

pub returns-in-1 : goal.returns-in-1
unfolding tie_row row_at stated_by line_of code_of how_of part_at parts place first_from line_for line_in ties tie_columns kept up_to can_tie about states_count states_own has_vessel
returns-in-1 c = no_ties 1 _ c.args.slot c.in-1.is refl refl

pub returns-in-2 : goal.returns-in-2
unfolding tie_row row_at stated_by line_of code_of how_of part_at parts place first_from line_for line_in ties tie_columns kept up_to can_tie about states_count states_own has_vessel
returns-in-2 c = no_ties 2 _ c.args.slot c.in-2.is refl refl

pub returns-in-3 : goal.returns-in-3
unfolding tie_row row_at stated_by line_of code_of how_of part_at parts place first_from line_for line_in ties tie_columns kept up_to can_tie about states_count states_own has_vessel
returns-in-3 c = no_ties 3 _ c.args.slot c.in-3.is refl refl

pub returns-in-4 : goal.returns-in-4
unfolding tie_row row_at stated_by line_of code_of how_of part_at parts place first_from line_for line_in ties tie_columns kept up_to can_tie about states_count states_own has_vessel
returns-in-4 c = no_ties 4 _ c.args.slot c.in-4.is refl refl

pub returns-in-5 : goal.returns-in-5
unfolding tie_row row_at stated_by line_of code_of how_of part_at parts place first_from line_for line_in ties tie_columns kept up_to can_tie about states_count states_own has_vessel
returns-in-5 c = no_ties 5 _ c.args.slot c.in-5.is refl refl

pub returns-in-6 : goal.returns-in-6
unfolding tie_row row_at stated_by line_of code_of how_of part_at parts place first_from line_for line_in ties tie_columns kept up_to can_tie about states_count states_own has_vessel
returns-in-6 c = no_ties 6 _ c.args.slot c.in-6.is refl refl

pub returns-in-7 : goal.returns-in-7
unfolding tie_row row_at stated_by line_of code_of how_of part_at parts place first_from line_for line_in ties tie_columns kept up_to can_tie about states_count states_own has_vessel
returns-in-7 c = no_ties 7 _ c.args.slot c.in-7.is refl refl

pub returns-in-0-slot : goal.returns-in-0-slot
unfolding tie_row row_at stated_by line_of code_of how_of part_at parts place first_from line_for line_in ties tie_columns kept up_to can_tie about states_count states_own has_vessel
returns-in-0-slot c = same_tie 8 0 _ _ c.in-8.is c.in-0-slot.is

pub returns-in-1-slot : goal.returns-in-1-slot
unfolding tie_row row_at stated_by line_of code_of how_of part_at parts place first_from line_for line_in ties tie_columns kept up_to can_tie about states_count states_own has_vessel
returns-in-1-slot c = same_tie 8 1 _ _ c.in-8.is c.in-1-slot.is

pub returns-in-2-slot : goal.returns-in-2-slot
unfolding tie_row row_at stated_by line_of code_of how_of part_at parts place first_from line_for line_in ties tie_columns kept up_to can_tie about states_count states_own has_vessel
returns-in-2-slot c = same_tie 8 2 _ _ c.in-8.is c.in-2-slot.is

pub returns-in_default-slot : goal.returns-in_default-slot
unfolding tie_row row_at stated_by line_of code_of how_of part_at parts place first_from line_for line_in ties tie_columns kept up_to can_tie about states_count states_own has_vessel
returns-in_default-slot c = past_ties 8 _ _ c.in-8.is c.in_default-slot.in_default-slot-own.rest

pub returns-in-0-slot-2 : goal.returns-in-0-slot-2
unfolding tie_row row_at stated_by line_of code_of how_of part_at parts place first_from line_for line_in ties tie_columns kept up_to can_tie about states_count states_own has_vessel
returns-in-0-slot-2 c = same_tie 9 0 _ _ c.in-9.is c.in-0-slot-2.is

pub returns-in-1-slot-2 : goal.returns-in-1-slot-2
unfolding tie_row row_at stated_by line_of code_of how_of part_at parts place first_from line_for line_in ties tie_columns kept up_to can_tie about states_count states_own has_vessel
returns-in-1-slot-2 c = same_tie 9 1 _ _ c.in-9.is c.in-1-slot-2.is

pub returns-in-2-slot-2 : goal.returns-in-2-slot-2
unfolding tie_row row_at stated_by line_of code_of how_of part_at parts place first_from line_for line_in ties tie_columns kept up_to can_tie about states_count states_own has_vessel
returns-in-2-slot-2 c = same_tie 9 2 _ _ c.in-9.is c.in-2-slot-2.is

pub returns-in-3-slot : goal.returns-in-3-slot
unfolding tie_row row_at stated_by line_of code_of how_of part_at parts place first_from line_for line_in ties tie_columns kept up_to can_tie about states_count states_own has_vessel
returns-in-3-slot c = same_tie 9 3 _ _ c.in-9.is c.in-3-slot.is

pub returns-in_default-slot-2 : goal.returns-in_default-slot-2
unfolding tie_row row_at stated_by line_of code_of how_of part_at parts place first_from line_for line_in ties tie_columns kept up_to can_tie about states_count states_own has_vessel
returns-in_default-slot-2 c = past_ties 9 _ _ c.in-9.is c.in_default-slot-2.in_default-slot-2-own.rest

pub returns-in-10 : goal.returns-in-10
unfolding tie_row row_at stated_by line_of code_of how_of part_at parts place first_from line_for line_in ties tie_columns kept up_to can_tie about states_count states_own has_vessel
returns-in-10 c = no_ties 10 _ c.args.slot c.in-10.is refl refl

pub returns-in-11 : goal.returns-in-11
unfolding tie_row row_at stated_by line_of code_of how_of part_at parts place first_from line_for line_in ties tie_columns kept up_to can_tie about states_count states_own has_vessel
returns-in-11 c = no_ties 11 _ c.args.slot c.in-11.is refl refl

pub returns-in-0-slot-3 : goal.returns-in-0-slot-3
unfolding tie_row row_at stated_by line_of code_of how_of part_at parts place first_from line_for line_in ties tie_columns kept up_to can_tie about states_count states_own has_vessel
returns-in-0-slot-3 c = same_tie 12 0 _ _ c.in-12.is c.in-0-slot-3.is

pub returns-in-1-slot-3 : goal.returns-in-1-slot-3
unfolding tie_row row_at stated_by line_of code_of how_of part_at parts place first_from line_for line_in ties tie_columns kept up_to can_tie about states_count states_own has_vessel
returns-in-1-slot-3 c = same_tie 12 1 _ _ c.in-12.is c.in-1-slot-3.is

pub returns-in-2-slot-3 : goal.returns-in-2-slot-3
unfolding tie_row row_at stated_by line_of code_of how_of part_at parts place first_from line_for line_in ties tie_columns kept up_to can_tie about states_count states_own has_vessel
returns-in-2-slot-3 c = same_tie 12 2 _ _ c.in-12.is c.in-2-slot-3.is

pub returns-in_default-slot-3 : goal.returns-in_default-slot-3
unfolding tie_row row_at stated_by line_of code_of how_of part_at parts place first_from line_for line_in ties tie_columns kept up_to can_tie about states_count states_own has_vessel
returns-in_default-slot-3 c = past_ties 12 _ _ c.in-12.is c.in_default-slot-3.in_default-slot-3-own.rest

pub returns-in-0-slot-4 : goal.returns-in-0-slot-4
unfolding tie_row row_at stated_by line_of code_of how_of part_at parts place first_from line_for line_in ties tie_columns kept up_to can_tie about states_count states_own has_vessel
returns-in-0-slot-4 c = same_tie 13 0 _ _ c.in-13.is c.in-0-slot-4.is

pub returns-in-1-slot-4 : goal.returns-in-1-slot-4
unfolding tie_row row_at stated_by line_of code_of how_of part_at parts place first_from line_for line_in ties tie_columns kept up_to can_tie about states_count states_own has_vessel
returns-in-1-slot-4 c = same_tie 13 1 _ _ c.in-13.is c.in-1-slot-4.is

pub returns-in_default-slot-4 : goal.returns-in_default-slot-4
unfolding tie_row row_at stated_by line_of code_of how_of part_at parts place first_from line_for line_in ties tie_columns kept up_to can_tie about states_count states_own has_vessel
returns-in_default-slot-4 c = past_ties 13 _ _ c.in-13.is c.in_default-slot-4.in_default-slot-4-own.rest

pub returns-in-0-slot-5 : goal.returns-in-0-slot-5
unfolding tie_row row_at stated_by line_of code_of how_of part_at parts place first_from line_for line_in ties tie_columns kept up_to can_tie about states_count states_own has_vessel
returns-in-0-slot-5 c = same_tie 14 0 _ _ c.in-14.is c.in-0-slot-5.is

pub returns-in-1-slot-5 : goal.returns-in-1-slot-5
unfolding tie_row row_at stated_by line_of code_of how_of part_at parts place first_from line_for line_in ties tie_columns kept up_to can_tie about states_count states_own has_vessel
returns-in-1-slot-5 c = same_tie 14 1 _ _ c.in-14.is c.in-1-slot-5.is

pub returns-in_default-slot-5 : goal.returns-in_default-slot-5
unfolding tie_row row_at stated_by line_of code_of how_of part_at parts place first_from line_for line_in ties tie_columns kept up_to can_tie about states_count states_own has_vessel
returns-in_default-slot-5 c = past_ties 14 _ _ c.in-14.is c.in_default-slot-5.in_default-slot-5-own.rest

pub returns-in-0-slot-6 : goal.returns-in-0-slot-6
unfolding tie_row row_at stated_by line_of code_of how_of part_at parts place first_from line_for line_in ties tie_columns kept up_to can_tie about states_count states_own has_vessel
returns-in-0-slot-6 c = same_tie 15 0 _ _ c.in-15.is c.in-0-slot-6.is

pub returns-in-1-slot-6 : goal.returns-in-1-slot-6
unfolding tie_row row_at stated_by line_of code_of how_of part_at parts place first_from line_for line_in ties tie_columns kept up_to can_tie about states_count states_own has_vessel
returns-in-1-slot-6 c = same_tie 15 1 _ _ c.in-15.is c.in-1-slot-6.is

pub returns-in-2-slot-4 : goal.returns-in-2-slot-4
unfolding tie_row row_at stated_by line_of code_of how_of part_at parts place first_from line_for line_in ties tie_columns kept up_to can_tie about states_count states_own has_vessel
returns-in-2-slot-4 c = same_tie 15 2 _ _ c.in-15.is c.in-2-slot-4.is

pub returns-in_default-slot-6 : goal.returns-in_default-slot-6
unfolding tie_row row_at stated_by line_of code_of how_of part_at parts place first_from line_for line_in ties tie_columns kept up_to can_tie about states_count states_own has_vessel
returns-in_default-slot-6 c = past_ties 15 _ _ c.in-15.is c.in_default-slot-6.in_default-slot-6-own.rest

pub returns-in-0-slot-7 : goal.returns-in-0-slot-7
unfolding tie_row row_at stated_by line_of code_of how_of part_at parts place first_from line_for line_in ties tie_columns kept up_to can_tie about states_count states_own has_vessel
returns-in-0-slot-7 c = same_tie 16 0 _ _ c.in-16.is c.in-0-slot-7.is

pub returns-in-1-slot-7 : goal.returns-in-1-slot-7
unfolding tie_row row_at stated_by line_of code_of how_of part_at parts place first_from line_for line_in ties tie_columns kept up_to can_tie about states_count states_own has_vessel
returns-in-1-slot-7 c = same_tie 16 1 _ _ c.in-16.is c.in-1-slot-7.is

pub returns-in_default-slot-7 : goal.returns-in_default-slot-7
unfolding tie_row row_at stated_by line_of code_of how_of part_at parts place first_from line_for line_in ties tie_columns kept up_to can_tie about states_count states_own has_vessel
returns-in_default-slot-7 c = past_ties 16 _ _ c.in-16.is c.in_default-slot-7.in_default-slot-7-own.rest

pub returns-in-0-slot-8 : goal.returns-in-0-slot-8
unfolding tie_row row_at stated_by line_of code_of how_of part_at parts place first_from line_for line_in ties tie_columns kept up_to can_tie about states_count states_own has_vessel
returns-in-0-slot-8 c = same_tie 17 0 _ _ c.in-17.is c.in-0-slot-8.is

pub returns-in-1-slot-8 : goal.returns-in-1-slot-8
unfolding tie_row row_at stated_by line_of code_of how_of part_at parts place first_from line_for line_in ties tie_columns kept up_to can_tie about states_count states_own has_vessel
returns-in-1-slot-8 c = same_tie 17 1 _ _ c.in-17.is c.in-1-slot-8.is

pub returns-in_default-slot-8 : goal.returns-in_default-slot-8
unfolding tie_row row_at stated_by line_of code_of how_of part_at parts place first_from line_for line_in ties tie_columns kept up_to can_tie about states_count states_own has_vessel
returns-in_default-slot-8 c = past_ties 17 _ _ c.in-17.is c.in_default-slot-8.in_default-slot-8-own.rest

pub returns-in-0-slot-9 : goal.returns-in-0-slot-9
unfolding tie_row row_at stated_by line_of code_of how_of part_at parts place first_from line_for line_in ties tie_columns kept up_to can_tie about states_count states_own has_vessel
returns-in-0-slot-9 c = same_tie 18 0 _ _ c.in-18.is c.in-0-slot-9.is

pub returns-in-1-slot-9 : goal.returns-in-1-slot-9
unfolding tie_row row_at stated_by line_of code_of how_of part_at parts place first_from line_for line_in ties tie_columns kept up_to can_tie about states_count states_own has_vessel
returns-in-1-slot-9 c = same_tie 18 1 _ _ c.in-18.is c.in-1-slot-9.is

pub returns-in_default-slot-9 : goal.returns-in_default-slot-9
unfolding tie_row row_at stated_by line_of code_of how_of part_at parts place first_from line_for line_in ties tie_columns kept up_to can_tie about states_count states_own has_vessel
returns-in_default-slot-9 c = past_ties 18 _ _ c.in-18.is c.in_default-slot-9.in_default-slot-9-own.rest

pub returns-in-0-slot-10 : goal.returns-in-0-slot-10
unfolding tie_row row_at stated_by line_of code_of how_of part_at parts place first_from line_for line_in ties tie_columns kept up_to can_tie about states_count states_own has_vessel
returns-in-0-slot-10 c = same_tie 19 0 _ _ c.in-19.is c.in-0-slot-10.is

pub returns-in-1-slot-10 : goal.returns-in-1-slot-10
unfolding tie_row row_at stated_by line_of code_of how_of part_at parts place first_from line_for line_in ties tie_columns kept up_to can_tie about states_count states_own has_vessel
returns-in-1-slot-10 c = same_tie 19 1 _ _ c.in-19.is c.in-1-slot-10.is

pub returns-in_default-slot-10 : goal.returns-in_default-slot-10
unfolding tie_row row_at stated_by line_of code_of how_of part_at parts place first_from line_for line_in ties tie_columns kept up_to can_tie about states_count states_own has_vessel
returns-in_default-slot-10 c = past_ties 19 _ _ c.in-19.is c.in_default-slot-10.in_default-slot-10-own.rest

pub returns-in-0-slot-11 : goal.returns-in-0-slot-11
unfolding tie_row row_at stated_by line_of code_of how_of part_at parts place first_from line_for line_in ties tie_columns kept up_to can_tie about states_count states_own has_vessel
returns-in-0-slot-11 c = same_tie 20 0 _ _ c.in-20.is c.in-0-slot-11.is

pub returns-in_default-slot-11 : goal.returns-in_default-slot-11
unfolding tie_row row_at stated_by line_of code_of how_of part_at parts place first_from line_for line_in ties tie_columns kept up_to can_tie about states_count states_own has_vessel
returns-in_default-slot-11 c = past_ties 20 _ _ c.in-20.is c.in_default-slot-11.in_default-slot-11-own.rest

pub returns-in-0-slot-12 : goal.returns-in-0-slot-12
unfolding tie_row row_at stated_by line_of code_of how_of part_at parts place first_from line_for line_in ties tie_columns kept up_to can_tie about states_count states_own has_vessel
returns-in-0-slot-12 c = same_tie 21 0 _ _ c.in-21.is c.in-0-slot-12.is

pub returns-in_default-slot-12 : goal.returns-in_default-slot-12
unfolding tie_row row_at stated_by line_of code_of how_of part_at parts place first_from line_for line_in ties tie_columns kept up_to can_tie about states_count states_own has_vessel
returns-in_default-slot-12 c = past_ties 21 _ _ c.in-21.is c.in_default-slot-12.in_default-slot-12-own.rest

pub returns-in-0-slot-13 : goal.returns-in-0-slot-13
unfolding tie_row row_at stated_by line_of code_of how_of part_at parts place first_from line_for line_in ties tie_columns kept up_to can_tie about states_count states_own has_vessel
returns-in-0-slot-13 c = same_tie 22 0 _ _ c.in-22.is c.in-0-slot-13.is

pub returns-in-1-slot-11 : goal.returns-in-1-slot-11
unfolding tie_row row_at stated_by line_of code_of how_of part_at parts place first_from line_for line_in ties tie_columns kept up_to can_tie about states_count states_own has_vessel
returns-in-1-slot-11 c = same_tie 22 1 _ _ c.in-22.is c.in-1-slot-11.is

pub returns-in-2-slot-5 : goal.returns-in-2-slot-5
unfolding tie_row row_at stated_by line_of code_of how_of part_at parts place first_from line_for line_in ties tie_columns kept up_to can_tie about states_count states_own has_vessel
returns-in-2-slot-5 c = same_tie 22 2 _ _ c.in-22.is c.in-2-slot-5.is

pub returns-in-3-slot-2 : goal.returns-in-3-slot-2
unfolding tie_row row_at stated_by line_of code_of how_of part_at parts place first_from line_for line_in ties tie_columns kept up_to can_tie about states_count states_own has_vessel
returns-in-3-slot-2 c = same_tie 22 3 _ _ c.in-22.is c.in-3-slot-2.is

pub returns-in-4-slot : goal.returns-in-4-slot
unfolding tie_row row_at stated_by line_of code_of how_of part_at parts place first_from line_for line_in ties tie_columns kept up_to can_tie about states_count states_own has_vessel
returns-in-4-slot c = same_tie 22 4 _ _ c.in-22.is c.in-4-slot.is

pub returns-in-5-slot : goal.returns-in-5-slot
unfolding tie_row row_at stated_by line_of code_of how_of part_at parts place first_from line_for line_in ties tie_columns kept up_to can_tie about states_count states_own has_vessel
returns-in-5-slot c = same_tie 22 5 _ _ c.in-22.is c.in-5-slot.is

pub returns-in_default-slot-13 : goal.returns-in_default-slot-13
unfolding tie_row row_at stated_by line_of code_of how_of part_at parts place first_from line_for line_in ties tie_columns kept up_to can_tie about states_count states_own has_vessel
returns-in_default-slot-13 c = past_ties 22 _ _ c.in-22.is c.in_default-slot-13.in_default-slot-13-own.rest

pub returns-in-23 : goal.returns-in-23
unfolding tie_row row_at stated_by line_of code_of how_of part_at parts place first_from line_for line_in ties tie_columns kept up_to can_tie about states_count states_own has_vessel
returns-in-23 c = no_ties 23 _ c.args.slot c.in-23.is refl refl

pub returns-in-0-slot-14 : goal.returns-in-0-slot-14
unfolding tie_row row_at stated_by line_of code_of how_of part_at parts place first_from line_for line_in ties tie_columns kept up_to can_tie about states_count states_own has_vessel
returns-in-0-slot-14 c = same_tie 24 0 _ _ c.in-24.is c.in-0-slot-14.is

pub returns-in-1-slot-12 : goal.returns-in-1-slot-12
unfolding tie_row row_at stated_by line_of code_of how_of part_at parts place first_from line_for line_in ties tie_columns kept up_to can_tie about states_count states_own has_vessel
returns-in-1-slot-12 c = same_tie 24 1 _ _ c.in-24.is c.in-1-slot-12.is

pub returns-in_default-slot-14 : goal.returns-in_default-slot-14
unfolding tie_row row_at stated_by line_of code_of how_of part_at parts place first_from line_for line_in ties tie_columns kept up_to can_tie about states_count states_own has_vessel
returns-in_default-slot-14 c = past_ties 24 _ _ c.in-24.is c.in_default-slot-14.in_default-slot-14-own.rest

pub returns-in-25 : goal.returns-in-25
unfolding tie_row row_at stated_by line_of code_of how_of part_at parts place first_from line_for line_in ties tie_columns kept up_to can_tie about states_count states_own has_vessel
returns-in-25 c = no_ties 25 _ c.args.slot c.in-25.is refl refl

pub returns-in-0-slot-15 : goal.returns-in-0-slot-15
unfolding tie_row row_at stated_by line_of code_of how_of part_at parts place first_from line_for line_in ties tie_columns kept up_to can_tie about states_count states_own has_vessel
returns-in-0-slot-15 c = same_tie 26 0 _ _ c.in-26.is c.in-0-slot-15.is

pub returns-in-1-slot-13 : goal.returns-in-1-slot-13
unfolding tie_row row_at stated_by line_of code_of how_of part_at parts place first_from line_for line_in ties tie_columns kept up_to can_tie about states_count states_own has_vessel
returns-in-1-slot-13 c = same_tie 26 1 _ _ c.in-26.is c.in-1-slot-13.is

pub returns-in_default-slot-15 : goal.returns-in_default-slot-15
unfolding tie_row row_at stated_by line_of code_of how_of part_at parts place first_from line_for line_in ties tie_columns kept up_to can_tie about states_count states_own has_vessel
returns-in_default-slot-15 c = past_ties 26 _ _ c.in-26.is c.in_default-slot-15.in_default-slot-15-own.rest

pub returns-in-0-slot-16 : goal.returns-in-0-slot-16
unfolding tie_row row_at stated_by line_of code_of how_of part_at parts place first_from line_for line_in ties tie_columns kept up_to can_tie about states_count states_own has_vessel
returns-in-0-slot-16 c = same_tie 27 0 _ _ c.in-27.is c.in-0-slot-16.is

pub returns-in-1-slot-14 : goal.returns-in-1-slot-14
unfolding tie_row row_at stated_by line_of code_of how_of part_at parts place first_from line_for line_in ties tie_columns kept up_to can_tie about states_count states_own has_vessel
returns-in-1-slot-14 c = same_tie 27 1 _ _ c.in-27.is c.in-1-slot-14.is

pub returns-in_default-slot-16 : goal.returns-in_default-slot-16
unfolding tie_row row_at stated_by line_of code_of how_of part_at parts place first_from line_for line_in ties tie_columns kept up_to can_tie about states_count states_own has_vessel
returns-in_default-slot-16 c = past_ties 27 _ _ c.in-27.is c.in_default-slot-16.in_default-slot-16-own.rest

pub returns-in-0-slot-17 : goal.returns-in-0-slot-17
unfolding tie_row row_at stated_by line_of code_of how_of part_at parts place first_from line_for line_in ties tie_columns kept up_to can_tie about states_count states_own has_vessel
returns-in-0-slot-17 c = same_tie 28 0 _ _ c.in-28.is c.in-0-slot-17.is

pub returns-in-1-slot-15 : goal.returns-in-1-slot-15
unfolding tie_row row_at stated_by line_of code_of how_of part_at parts place first_from line_for line_in ties tie_columns kept up_to can_tie about states_count states_own has_vessel
returns-in-1-slot-15 c = same_tie 28 1 _ _ c.in-28.is c.in-1-slot-15.is

pub returns-in-2-slot-6 : goal.returns-in-2-slot-6
unfolding tie_row row_at stated_by line_of code_of how_of part_at parts place first_from line_for line_in ties tie_columns kept up_to can_tie about states_count states_own has_vessel
returns-in-2-slot-6 c = same_tie 28 2 _ _ c.in-28.is c.in-2-slot-6.is

pub returns-in_default-slot-17 : goal.returns-in_default-slot-17
unfolding tie_row row_at stated_by line_of code_of how_of part_at parts place first_from line_for line_in ties tie_columns kept up_to can_tie about states_count states_own has_vessel
returns-in_default-slot-17 c = past_ties 28 _ _ c.in-28.is c.in_default-slot-17.in_default-slot-17-own.rest

pub returns-in-0-slot-18 : goal.returns-in-0-slot-18
unfolding tie_row row_at stated_by line_of code_of how_of part_at parts place first_from line_for line_in ties tie_columns kept up_to can_tie about states_count states_own has_vessel
returns-in-0-slot-18 c = same_tie 29 0 _ _ c.in-29.is c.in-0-slot-18.is

pub returns-in-1-slot-16 : goal.returns-in-1-slot-16
unfolding tie_row row_at stated_by line_of code_of how_of part_at parts place first_from line_for line_in ties tie_columns kept up_to can_tie about states_count states_own has_vessel
returns-in-1-slot-16 c = same_tie 29 1 _ _ c.in-29.is c.in-1-slot-16.is

pub returns-in-2-slot-7 : goal.returns-in-2-slot-7
unfolding tie_row row_at stated_by line_of code_of how_of part_at parts place first_from line_for line_in ties tie_columns kept up_to can_tie about states_count states_own has_vessel
returns-in-2-slot-7 c = same_tie 29 2 _ _ c.in-29.is c.in-2-slot-7.is

pub returns-in-3-slot-3 : goal.returns-in-3-slot-3
unfolding tie_row row_at stated_by line_of code_of how_of part_at parts place first_from line_for line_in ties tie_columns kept up_to can_tie about states_count states_own has_vessel
returns-in-3-slot-3 c = same_tie 29 3 _ _ c.in-29.is c.in-3-slot-3.is

pub returns-in-4-slot-2 : goal.returns-in-4-slot-2
unfolding tie_row row_at stated_by line_of code_of how_of part_at parts place first_from line_for line_in ties tie_columns kept up_to can_tie about states_count states_own has_vessel
returns-in-4-slot-2 c = same_tie 29 4 _ _ c.in-29.is c.in-4-slot-2.is

pub returns-in_default-slot-18 : goal.returns-in_default-slot-18
unfolding tie_row row_at stated_by line_of code_of how_of part_at parts place first_from line_for line_in ties tie_columns kept up_to can_tie about states_count states_own has_vessel
returns-in_default-slot-18 c = past_ties 29 _ _ c.in-29.is c.in_default-slot-18.in_default-slot-18-own.rest

pub returns-in-0-slot-19 : goal.returns-in-0-slot-19
unfolding tie_row row_at stated_by line_of code_of how_of part_at parts place first_from line_for line_in ties tie_columns kept up_to can_tie about states_count states_own has_vessel
returns-in-0-slot-19 c = same_tie 30 0 _ _ c.in-30.is c.in-0-slot-19.is

pub returns-in-1-slot-17 : goal.returns-in-1-slot-17
unfolding tie_row row_at stated_by line_of code_of how_of part_at parts place first_from line_for line_in ties tie_columns kept up_to can_tie about states_count states_own has_vessel
returns-in-1-slot-17 c = same_tie 30 1 _ _ c.in-30.is c.in-1-slot-17.is

pub returns-in_default-slot-19 : goal.returns-in_default-slot-19
unfolding tie_row row_at stated_by line_of code_of how_of part_at parts place first_from line_for line_in ties tie_columns kept up_to can_tie about states_count states_own has_vessel
returns-in_default-slot-19 c = past_ties 30 _ _ c.in-30.is c.in_default-slot-19.in_default-slot-19-own.rest

pub returns-in_default : goal.returns-in_default
unfolding tie_row row_at stated_by line_of code_of how_of part_at parts place first_from line_for line_in ties tie_columns kept up_to can_tie about states_count states_own has_vessel
returns-in_default c = past_layouts _ c.args.slot (above 0 31 _ (omega arith) c.in_default.in_default-own.rest)
