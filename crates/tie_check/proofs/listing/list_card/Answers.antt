-- `tie_check::listing::list_card` meets its contract.
use Prim.Native.Nat.{ℕ, ◌+◌, ◌*◌, ◌≤◌, ◌<◌}
use mathlib.Core.Path.{◌≡◌, refl, sym, ap, ap₂, ◌∙◌}
use mathlib.Core.Bool.{true, not}
use mathlib.Core.List.{List, flat_map}
use lib.ListN.{length}
use native.Mathlib.Nat.{add-zero}
use native.Mathlib.Omega.{arith}
use borrow.Author.Tests.{not-true}
use Rattle.base_lists.specs.Parts.{up_to}
use Rattle.format_layout.specs.Layouts.{fields_of}
use Rattle.card_screen.specs.Roles.{sure}
use Rattle.header_check.specs.forms.Cards.{card_at, cards_in, layout_of}
use Rattle.header_check.specs.Refusing.{largest}
use Rattle.header_check.proofs.forms.Steps.{card_part, card_ends, card_whole}
use Rattle.header_laws.proofs.Accepted.{few-cards}
use Rattle.tie_check.specs.packed.Numbers.{number_on}
use Rattle.tie_check.specs.packed.Asked.{times_of}
use Rattle.tie_check.specs.packed.Stored.{stored_all}
use Rattle.tie_check.specs.packed.Listed.{step_entries}
use Rattle.tie_check.proofs.gather.Growing.{all_linked}
use Rattle.tie_check.proofs.listing.Order.{no_step, all_steps}
use Rattle.tie_check.proofs.entries.Stored.{length-stored-all}
use Rattle.tie_check.proofs.listing.Walked.{run_more, run_rest, step-none, step-column, step_gives}
use Rattle.tie_check.specs.packed.Begins.{any_left}
use Rattle.tie_check.proofs.begins.Columns.{walked_below, walked_end}
use Rattle.tie_check.proofs.listing.list_card.Goals as goal

pub overflow_mul-from : goal.overflow_mul-from
unfolding cards_in
overflow_mul-from c =
    let below : c.args.place < cards_in c.args.header.now = (c.requires.place_bound.0) in
    let within : c.args.place * 80 + 80 ≤ length c.args.header.now = (card_ends c.args.header.now c.args.place (below)) in
    omega (arith, within)

pub overflow_add-card : goal.overflow_add-card
unfolding cards_in
overflow_add-card c =
    let below : c.args.place < cards_in c.args.header.now = (c.requires.place_bound.0) in
    let within : c.args.place * 80 + 80 ≤ length c.args.header.now = (card_ends c.args.header.now c.args.place (below)) in
    omega (arith, within)

pub slice_bounds-card-count : goal.slice_bounds-card-count
unfolding cards_in
slice_bounds-card-count c =
    let below : c.args.place < cards_in c.args.header.now = (c.requires.place_bound.0) in
    let within : c.args.place * 80 + 80 ≤ length c.args.header.now = (card_ends c.args.header.now c.args.place (below)) in
    omega (arith, within)

pub slice_bounds-card-start : goal.slice_bounds-card-start
unfolding cards_in
slice_bounds-card-start c =
    let below : c.args.place < cards_in c.args.header.now = (c.requires.place_bound.0) in
    let within : c.args.place * 80 + 80 ≤ length c.args.header.now = (card_ends c.args.header.now c.args.place (below)) in
    omega (arith, within)

pub slice_bounds-card-end : goal.slice_bounds-card-end
unfolding cards_in
slice_bounds-card-end c =
    let below : c.args.place < cards_in c.args.header.now = (c.requires.place_bound.0) in
    let within : c.args.place * 80 + 80 ≤ length c.args.header.now = (card_ends c.args.header.now c.args.place (below)) in
    omega (arith, within)

-- its note is there, and tells its layout
pub bounds-cards-place : goal.bounds-cards-place
bounds-cards-place c =
    let below : c.args.place < cards_in c.args.header.now = (c.requires.place_bound.0) in
    let few : cards_in c.args.header.now ≤ largest = (few-cards c.args.header.now c.requires.header_value) in
    omega (arith, below, few, c.requires.flagged.noted.room)

pub any_left-left-requires : goal.any_left-left-requires
unfolding cards_in
any_left-left-requires c =
    let below : c.args.place < cards_in c.args.header.now = (c.requires.place_bound.0) in
    let layout_is : c.layout_in-layout.result ≡ layout_of (card_at c.args.header.now c.args.place) = (c.layout_in-layout.ensures ∙ c.requires.flagged.noted.layouts_are c.args.place (below)) in
    let h = c.args.header.now in
    let e = card_part h c.args.place in (
      card_whole h c.args.place (below),
      c.is_sure.ensures ∙ c.requires.flagged.noted.sures_are c.args.place (below) ∙ ap₂ sure (sym (layout_is)) (sym e),
    )

pub loop-i-init : goal.loop-i-init
unfolding up_to flat_map stored_all
loop-i-init c = (omega arith, refl, sym (add-zero _))

pub step_of-row-requires : goal.step_of-row-requires
step_of-row-requires c = omega (arith, c.loop-i-test.true)

pub shape_of-list-then-row-eq0 : goal.shape_of-list-then-row-eq0
shape_of-list-then-row-eq0 c =
    let b = c.loop-i in
    ap length b.invariant.1 ∙ length-stored-all _ _ _

pub returns-then-row-eq0 : goal.returns-then-row-eq0
returns-then-row-eq0 c =
    let below : c.args.place < cards_in c.args.header.now = (c.requires.place_bound.0) in
    let layout_is : c.layout_in-layout.result ≡ layout_of (card_at c.args.header.now c.args.place) = (c.layout_in-layout.ensures ∙ c.requires.flagged.noted.layouts_are c.args.place (below)) in
    let left_is : c.any_left-left.result ≡ any_left (card_at c.args.header.now c.args.place) (fields_of (layout_of (card_at c.args.header.now c.args.place))) = (let h = c.args.header.now in
    c.any_left-left.ensures
    ∙ ap₂ (λ (x : List ℕ) (y : ℕ). any_left x (fields_of y)) (card_part h c.args.place) (layout_is)) in
    let b = c.loop-i in
    let h = c.args.header.now in
    let p = c.args.place in
    let l = c.any_left-left.result in
    let n = layout_is in
    let z = step-none h c.requires.header_value p (below) l _ b.i _ n c.step_of-row.ensures c.if-row-eq0.true in
    let q = run_rest (step_entries h p l) b.i 81 (omega (arith, c.loop-i-test.true)) (λ i j m. no_step h p l i (walked_end l _ b.i z i j))
    in
    let w = sym q ∙ all_steps h p l (left_is) in record {
      list = b.invariant.1 ∙ ap (stored_all c.args.list.now c.args.found) w;
      number = b.invariant.2 ∙ ap (λ x. c.args.found + length x) w;
      few = omega (arith, b.invariant.0);
    }

pub faults_by-broken-requires : goal.faults_by-broken-requires
faults_by-broken-requires c =
    let few : cards_in c.args.header.now ≤ largest = (few-cards c.args.header.now c.requires.header_value) in
    let g = c.requires.store_value in
    rw (g.0, g.1) (all_linked c.args.header.now (few))

pub step_left-misplaced-requires : goal.step_left-misplaced-requires
unfolding cards_in
step_left-misplaced-requires c =
    let below : c.args.place < cards_in c.args.header.now = (c.requires.place_bound.0) in
    record {
      card_len = card_whole c.args.header.now c.args.place (below);
      left_value = c.any_left-left.ensures;
    }

pub overflow_add-place : goal.overflow_add-place
overflow_add-place c =
    let below : c.args.place < cards_in c.args.header.now = (c.requires.place_bound.0) in
    let few : cards_in c.args.header.now ≤ largest = (few-cards c.args.header.now c.requires.header_value) in
    omega (arith, below, few)

pub overflow_cast-place : goal.overflow_cast-place
overflow_cast-place c =
    let below : c.args.place < cards_in c.args.header.now = (c.requires.place_bound.0) in
    let few : cards_in c.args.header.now ≤ largest = (few-cards c.args.header.now c.requires.header_value) in
    record { fits = omega (arith, below, few) }

pub overflow_cast-column_of : goal.overflow_cast-column_of
overflow_cast-column_of c =
    let below : c.args.place < cards_in c.args.header.now = (c.requires.place_bound.0) in
    let layout_is : c.layout_in-layout.result ≡ layout_of (card_at c.args.header.now c.args.place) = (c.layout_in-layout.ensures ∙ c.requires.flagged.noted.layouts_are c.args.place (below)) in
    let b = c.loop-i in
    let h = c.args.header.now in
    let p = c.args.place in
    let n = layout_is in
    let e = step-column h c.requires.header_value p (below) c.any_left-left.result _ b.i _ n c.step_of-row.ensures in
    record { fits = omega (arith, c.column_of.ensures, e, walked_below c.any_left-left.result (layout_of (card_at h p)) b.i) }

pub put_all-m-requires : goal.put_all-m-requires
put_all-m-requires c =
    let below : c.args.place < cards_in c.args.header.now = (c.requires.place_bound.0) in
    let few : cards_in c.args.header.now ≤ largest = (few-cards c.args.header.now c.requires.header_value) in
    let b = c.loop-i in
    omega (arith, b.invariant.0, below, c.requires.place_bound.1, few)

pub loop-i-preserved : goal.loop-i-preserved
loop-i-preserved c =
    let below : c.args.place < cards_in c.args.header.now = (c.requires.place_bound.0) in
    let layout_is : c.layout_in-layout.result ≡ layout_of (card_at c.args.header.now c.args.place) = (c.layout_in-layout.ensures ∙ c.requires.flagged.noted.layouts_are c.args.place (below)) in
    let once-told : not c.is_flagged-once.result ≡ true → (i : ℕ) → i ≤ 80 → times_of c.args.header.now (number_on (card_at c.args.header.now c.args.place) i) ≤ 1 = (λ e i m. c.requires.flagged.once c.args.place (below) (sym c.is_flagged-once.ensures ∙ not-true c.is_flagged-once.result e) i m) in
    let b = c.loop-i in
    let h = c.args.header.now in
    let n = layout_is in
    let l = c.any_left-left.result in
    let e = step_gives h c.requires.header_value c.args.place (below) l _ b.i _ n c.step_of-row.ensures _ _ _ _ _ _ _ _ _
    (once-told) (card_part h c.args.place) c.vessel_of-vessel.ensures c.requires.store_value.0 c.requires.store_value.1 c.requires.totals_value c.column_of.ensures c.faults_by-broken.ensures
    c.step_left-misplaced.ensures in
    let r = run_more (step_entries h c.args.place l) _ _ _ _ _ _ b.i b.invariant.1 b.invariant.2
    ((rw c.from.ensures at c.put_all-m.ensures.list) ∙ ap (stored_all b.list b.m) e) ((rw c.from.ensures at c.put_all-m.ensures.number) ∙ ap (λ x. b.m + length x) e) in
    (omega (arith, b.invariant.0, c.put_all-m.ensures.few), r.0, r.1)

pub shape_of-list : goal.shape_of-list
shape_of-list c =
    let b = c.loop-i in
    ap length b.invariant.1 ∙ length-stored-all _ _ _

pub returns : goal.returns
returns c =
    let below : c.args.place < cards_in c.args.header.now = (c.requires.place_bound.0) in
    let layout_is : c.layout_in-layout.result ≡ layout_of (card_at c.args.header.now c.args.place) = (c.layout_in-layout.ensures ∙ c.requires.flagged.noted.layouts_are c.args.place (below)) in
    let left_is : c.any_left-left.result ≡ any_left (card_at c.args.header.now c.args.place) (fields_of (layout_of (card_at c.args.header.now c.args.place))) = (let h = c.args.header.now in
    c.any_left-left.ensures
    ∙ ap₂ (λ (x : List ℕ) (y : ℕ). any_left x (fields_of y)) (card_part h c.args.place) (layout_is)) in
    let b = c.loop-i in
    let h = c.args.header.now in
    let g = step_entries h c.args.place c.any_left-left.result in
    let q : b.i ≡ 81 = omega (arith, c.loop-i-test.false) in
    let w = ap (λ j. flat_map g (up_to j)) q ∙ all_steps h c.args.place c.any_left-left.result (left_is) in record {
      list = b.invariant.1 ∙ ap (stored_all c.args.list.now c.args.found) w;
      number = b.invariant.2 ∙ ap (λ x. c.args.found + length x) w;
      few = omega (arith, b.invariant.0);
    }
