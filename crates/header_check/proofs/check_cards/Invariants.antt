-- `header_check::check_cards` meets its contract.
use Prim.Native.Nat.{◌-◌}
use mathlib.Core.Path.{◌≡◌}
use lib.ListN.{length}
use Rattle.base_lists.specs.Count.{first, first_from}
use Rattle.header_check.specs.forms.Cards.{cards_in}
use Rattle.header_check.specs.Opening.{number_before}
use Rattle.header_check.specs.Refusing.{offends}
use Rattle.header_check.proofs.Block.{open_to, line_to}
use Rattle.header_check.proofs.check_cards.Given as goal

abbrev pub invariant-loop-place : goal.invariant-loop-place
invariant-loop-place l =
    let n = length l.yielded in
    (l.inside ≡ open_to l.header n) × (l.before ≡ number_before l.header n) × (l.line ≡ line_to l.header n)
    × (first (offends l.header) (cards_in l.header) ≡ first_from (offends l.header) (cards_in l.header - n) n)
