-- `push_entry` meets its contract: the numbers of the entry stand one after the other in the list.
use mathlib.Core.Path.{◌∙◌}
use native.Mathlib.Nat.{add-zero}
use Rattle.crew_answer.specs.lines.Text.{entry_at}
use Rattle.crew_answer.proofs.lines.push_entry.Goals as goal

pub returns : goal.returns
unfolding entry_at
returns c =
    record {
      out = c.push_line.ensures.out ∙ rw (c.from-card.ensures, c.from-column.ensures, c.from-kind.ensures, c.from-vessel.ensures, add-zero);
      next = c.push_line.ensures.next ∙ rw (c.from-card.ensures, c.from-column.ensures, c.from-kind.ensures, c.from-vessel.ensures, add-zero);
      within = c.push_line.ensures.within;
    }
