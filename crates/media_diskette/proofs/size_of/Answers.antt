-- `media_diskette::size_of` meets its contract.
use mathlib.Core.Path.{sym, ap, ◌∙◌}
use Rattle.media_diskette.proofs.Judging.{sized_many, sized-few}
use Rattle.media_diskette.proofs.size_of.Goals as goal
use Rattle.std.specs.Prelude.{Err}

pub returns-then-lines-gt-FEW_CARDS : goal.returns-then-lines-gt-FEW_CARDS
returns-then-lines-gt-FEW_CARDS c = ap Err c.refuse.ensures ∙ sym (sized_many _ c.if-lines-gt-FEW_CARDS.true)

pub returns : goal.returns
returns c = sym (sized-few _ c.if-lines-gt-FEW_CARDS.false)
