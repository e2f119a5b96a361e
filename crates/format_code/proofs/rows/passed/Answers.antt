-- `format_code::passed` meets its contract: each line is the passed code of the table, by a computation.
use Rattle.format_layout.specs.Table.{passed_codes}
use Rattle.format_layout.specs.packed.Rows.{head_of, word_of}
use Rattle.format_code.specs.packed.Words.{passed_of}
use Rattle.format_code.proofs.Worded.{same_passed, past_passed}
use Rattle.format_code.proofs.rows.passed.Goals as goal

pub returns-in-0 : goal.returns-in-0
unfolding passed_of word_of head_of passed_codes
returns-in-0 c = same_passed 0 _ c.in-0.is

pub returns-in-1 : goal.returns-in-1
unfolding passed_of word_of head_of passed_codes
returns-in-1 c = same_passed 1 _ c.in-1.is

pub returns-in-2 : goal.returns-in-2
unfolding passed_of word_of head_of passed_codes
returns-in-2 c = same_passed 2 _ c.in-2.is

pub returns-in-3 : goal.returns-in-3
unfolding passed_of word_of head_of passed_codes
returns-in-3 c = same_passed 3 _ c.in-3.is

pub returns-in-4 : goal.returns-in-4
unfolding passed_of word_of head_of passed_codes
returns-in-4 c = same_passed 4 _ c.in-4.is

pub returns-in-5 : goal.returns-in-5
unfolding passed_of word_of head_of passed_codes
returns-in-5 c = same_passed 5 _ c.in-5.is

pub returns-in-6 : goal.returns-in-6
unfolding passed_of word_of head_of passed_codes
returns-in-6 c = same_passed 6 _ c.in-6.is

pub returns-in-7 : goal.returns-in-7
unfolding passed_of word_of head_of passed_codes
returns-in-7 c = same_passed 7 _ c.in-7.is

pub returns-in-8 : goal.returns-in-8
unfolding passed_of word_of head_of passed_codes
returns-in-8 c = same_passed 8 _ c.in-8.is

pub returns-in-9 : goal.returns-in-9
unfolding passed_of word_of head_of passed_codes
returns-in-9 c = same_passed 9 _ c.in-9.is

pub returns-in-10 : goal.returns-in-10
unfolding passed_of word_of head_of passed_codes
returns-in-10 c = same_passed 10 _ c.in-10.is

pub returns-in-11 : goal.returns-in-11
unfolding passed_of word_of head_of passed_codes
returns-in-11 c = same_passed 11 _ c.in-11.is

pub returns-in-12 : goal.returns-in-12
unfolding passed_of word_of head_of passed_codes
returns-in-12 c = same_passed 12 _ c.in-12.is

pub returns-in-13 : goal.returns-in-13
unfolding passed_of word_of head_of passed_codes
returns-in-13 c = same_passed 13 _ c.in-13.is

pub returns-in-14 : goal.returns-in-14
unfolding passed_of word_of head_of passed_codes
returns-in-14 c = same_passed 14 _ c.in-14.is

pub returns-in-15 : goal.returns-in-15
unfolding passed_of word_of head_of passed_codes
returns-in-15 c = same_passed 15 _ c.in-15.is

pub returns-in-16 : goal.returns-in-16
unfolding passed_of word_of head_of passed_codes
returns-in-16 c = same_passed 16 _ c.in-16.is

pub returns-in-17 : goal.returns-in-17
unfolding passed_of word_of head_of passed_codes
returns-in-17 c = same_passed 17 _ c.in-17.is

pub returns-in-18 : goal.returns-in-18
unfolding passed_of word_of head_of passed_codes
returns-in-18 c = same_passed 18 _ c.in-18.is

pub returns-in-19 : goal.returns-in-19
unfolding passed_of word_of head_of passed_codes
returns-in-19 c = same_passed 19 _ c.in-19.is

pub returns-in-20 : goal.returns-in-20
unfolding passed_of word_of head_of passed_codes
returns-in-20 c = same_passed 20 _ c.in-20.is

pub returns-in-21 : goal.returns-in-21
unfolding passed_of word_of head_of passed_codes
returns-in-21 c = same_passed 21 _ c.in-21.is

pub returns-in-22 : goal.returns-in-22
unfolding passed_of word_of head_of passed_codes
returns-in-22 c = same_passed 22 _ c.in-22.is

pub returns-in-23 : goal.returns-in-23
unfolding passed_of word_of head_of passed_codes
returns-in-23 c = same_passed 23 _ c.in-23.is

pub returns-in-24 : goal.returns-in-24
unfolding passed_of word_of head_of passed_codes
returns-in-24 c = same_passed 24 _ c.in-24.is

pub returns-in-25 : goal.returns-in-25
unfolding passed_of word_of head_of passed_codes
returns-in-25 c = same_passed 25 _ c.in-25.is

pub returns-in-26 : goal.returns-in-26
unfolding passed_of word_of head_of passed_codes
returns-in-26 c = same_passed 26 _ c.in-26.is

pub returns-in-27 : goal.returns-in-27
unfolding passed_of word_of head_of passed_codes
returns-in-27 c = same_passed 27 _ c.in-27.is

pub returns-in-28 : goal.returns-in-28
unfolding passed_of word_of head_of passed_codes
returns-in-28 c = same_passed 28 _ c.in-28.is

pub returns-in-29 : goal.returns-in-29
unfolding passed_of word_of head_of passed_codes
returns-in-29 c = same_passed 29 _ c.in-29.is

pub returns-in-30 : goal.returns-in-30
unfolding passed_of word_of head_of passed_codes
returns-in-30 c = same_passed 30 _ c.in-30.is

pub returns-in-31 : goal.returns-in-31
unfolding passed_of word_of head_of passed_codes
returns-in-31 c = same_passed 31 _ c.in-31.is

pub returns-in-32 : goal.returns-in-32
unfolding passed_of word_of head_of passed_codes
returns-in-32 c = same_passed 32 _ c.in-32.is

pub returns-in-33 : goal.returns-in-33
unfolding passed_of word_of head_of passed_codes
returns-in-33 c = same_passed 33 _ c.in-33.is

pub returns-in-34 : goal.returns-in-34
unfolding passed_of word_of head_of passed_codes
returns-in-34 c = same_passed 34 _ c.in-34.is

pub returns-in-35 : goal.returns-in-35
unfolding passed_of word_of head_of passed_codes
returns-in-35 c = same_passed 35 _ c.in-35.is

pub returns-in-36 : goal.returns-in-36
unfolding passed_of word_of head_of passed_codes
returns-in-36 c = same_passed 36 _ c.in-36.is

pub returns-in-37 : goal.returns-in-37
unfolding passed_of word_of head_of passed_codes
returns-in-37 c = same_passed 37 _ c.in-37.is

pub returns-in-38 : goal.returns-in-38
unfolding passed_of word_of head_of passed_codes
returns-in-38 c = same_passed 38 _ c.in-38.is

pub returns-in-39 : goal.returns-in-39
unfolding passed_of word_of head_of passed_codes
returns-in-39 c = same_passed 39 _ c.in-39.is

pub returns-in-40 : goal.returns-in-40
unfolding passed_of word_of head_of passed_codes
returns-in-40 c = same_passed 40 _ c.in-40.is

pub returns-in-41 : goal.returns-in-41
unfolding passed_of word_of head_of passed_codes
returns-in-41 c = same_passed 41 _ c.in-41.is

pub returns-in-42 : goal.returns-in-42
unfolding passed_of word_of head_of passed_codes
returns-in-42 c = same_passed 42 _ c.in-42.is

pub returns-in-43 : goal.returns-in-43
unfolding passed_of word_of head_of passed_codes
returns-in-43 c = same_passed 43 _ c.in-43.is

pub returns-in-44 : goal.returns-in-44
unfolding passed_of word_of head_of passed_codes
returns-in-44 c = same_passed 44 _ c.in-44.is

pub returns-in-45 : goal.returns-in-45
unfolding passed_of word_of head_of passed_codes
returns-in-45 c = same_passed 45 _ c.in-45.is

pub returns-in-46 : goal.returns-in-46
unfolding passed_of word_of head_of passed_codes
returns-in-46 c = same_passed 46 _ c.in-46.is

pub returns-in-47 : goal.returns-in-47
unfolding passed_of word_of head_of passed_codes
returns-in-47 c = same_passed 47 _ c.in-47.is

pub returns-in-48 : goal.returns-in-48
unfolding passed_of word_of head_of passed_codes
returns-in-48 c = same_passed 48 _ c.in-48.is

pub returns-in-49 : goal.returns-in-49
unfolding passed_of word_of head_of passed_codes
returns-in-49 c = same_passed 49 _ c.in-49.is

pub returns-in-50 : goal.returns-in-50
unfolding passed_of word_of head_of passed_codes
returns-in-50 c = same_passed 50 _ c.in-50.is

pub returns-in-51 : goal.returns-in-51
unfolding passed_of word_of head_of passed_codes
returns-in-51 c = same_passed 51 _ c.in-51.is

pub returns-in-52 : goal.returns-in-52
unfolding passed_of word_of head_of passed_codes
returns-in-52 c = same_passed 52 _ c.in-52.is

pub returns-in-53 : goal.returns-in-53
unfolding passed_of word_of head_of passed_codes
returns-in-53 c = same_passed 53 _ c.in-53.is

pub returns-in-54 : goal.returns-in-54
unfolding passed_of word_of head_of passed_codes
returns-in-54 c = same_passed 54 _ c.in-54.is

pub returns-in-55 : goal.returns-in-55
unfolding passed_of word_of head_of passed_codes
returns-in-55 c = same_passed 55 _ c.in-55.is

pub returns-in_default : goal.returns-in_default
unfolding passed_of word_of head_of passed_codes
returns-in_default c = past_passed _ c.in_default.in_default-own.rest
