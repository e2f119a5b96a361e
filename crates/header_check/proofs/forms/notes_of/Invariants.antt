-- `header_check::forms::notes_of` meets its contract.
use mathlib.Core.Path.{◌≡◌}
use lib.ListN.{length}
use Rattle.header_check.specs.packed.Notes.{notes_to}
use Rattle.header_check.specs.packed.Noted.{noted_to}
use Rattle.header_check.proofs.forms.notes_of.Given as goal

abbrev pub invariant-loop-place : goal.invariant-loop-place
invariant-loop-place l =
    (l.notes ≡ notes_to l.header (length l.yielded)) × (l.cards ≡ noted_to l.header l.initial.cards (length l.yielded))
