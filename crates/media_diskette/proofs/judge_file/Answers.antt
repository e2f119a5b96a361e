-- `media_diskette::judge_file` meets its contract.
use Rattle.std.proofs.Common.{rules}
use Rattle.media_diskette.specs.Answers.{file_judged}
use Rattle.media_diskette.proofs.judge_file.Goals as goal

pub returns-then-is_empty : goal.returns-then-is_empty
unfolding file_judged
returns-then-is_empty c = search rules

pub returns : goal.returns
unfolding file_judged
returns c = search rules
