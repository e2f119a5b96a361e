-- `media_diskette::judge_cards` meets its contract.
use Rattle.std.proofs.Common.{rules}
use Rattle.media_diskette.specs.Lines.{disk_of}
use Rattle.media_diskette.specs.Answers.{cards_judged}
use Rattle.media_diskette.proofs.judge_cards.Goals as goal

pub returns-then-is_empty : goal.returns-then-is_empty
unfolding cards_judged
returns-then-is_empty c = search rules

pub returns-then-cards-ne0 : goal.returns-then-cards-ne0
unfolding cards_judged
returns-then-cards-ne0 c = search rules

pub returns-then-cards-gt-FEW_CARDS : goal.returns-then-cards-gt-FEW_CARDS
unfolding cards_judged
returns-then-cards-gt-FEW_CARDS c = search rules

pub returns : goal.returns
unfolding cards_judged disk_of
returns c = search rules
