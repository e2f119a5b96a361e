-- `tie_check::totals::points_in` meets its contract.
use Prim.Native.Nat.{◌/◌}
use lib.Dec.{eqb}
use lib.ListN.{length, take}
use Rattle.std.proofs.Common.{◌∙◌, rules, arith, tests}
use Rattle.std.proofs.lemmas.Iterator.{YieldsList-from_slice}
use Rattle.std.proofs.lemmas.Iterator.Consumers.{count_from_yields_List, YieldsList-from_filter}
use Rattle.header_check.specs.forms.Cards.{cards_in}
use Rattle.header_check.specs.packed.Noted.{layout_in}
use Rattle.tie_check.proofs.totals.Points.{points_noted}
use Rattle.tie_check.proofs.totals.points_in.Goals as goal

pub shared_ref_as_front-iter : goal.shared_ref_as_front-iter
unfolding cards_in
shared_ref_as_front-iter c = omega (arith, c.requires.header_bound)

pub returns : goal.returns
unfolding cards_in
returns c =
    let h = c.args.header.now in
    let cards = c.args.cards.now in
    count_from_yields_List c.filter.result _ c.count.ensures.ran (YieldsList-from_filter _ (λ note. eqb (layout_in note) 13) (YieldsList-from_slice (take (length h / 80) cards) (cc)) c.filter.ensures.closure (λ x b q k. search (rules, tests)))
    ∙ points_noted h cards (length h / 80) (omega (arith, c.requires.header_bound, c.requires.noted.room)) c.requires.noted.layouts_are
