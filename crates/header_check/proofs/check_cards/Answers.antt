-- `header_check::check_cards` meets its contract.
use Prim.Native.Nat.{◌+◌}
use mathlib.Core.Path.{◌≡◌, refl, sym, ap, ap₂, ◌∙◌}
use mathlib.Core.Bool.{◌&&◌}
use lib.ListN.{length, get_or}
use native.Mathlib.Omega.{arith}
use Rattle.std.proofs.lemmas.List.{length_push}
use Rattle.card_screen.specs.Roles.{sure}
use Rattle.base_lists.proofs.Finding.{begins}
use Rattle.header_check.specs.forms.Cards.{cards_in, layout_of}
use Rattle.header_check.specs.packed.Noted.{layout_in, is_sure}
use Rattle.header_check.proofs.forms.Reading.{card_comes, cards_end}
use Rattle.header_check.specs.Opening.{number_before, goes_on}
use Rattle.header_check.specs.Refusing.{verdict_at, answer_for}
use Rattle.header_check.proofs.Block.{open_to, none_open, none-line}
use Rattle.header_check.proofs.Walked.{vessel_byte, found, next_open, next-before, next-line, goes_on_lem, ends_at, ends_past}
use Rattle.header_check.proofs.check_cards.Goals as goal

pub loop-place-init : goal.loop-place-init
unfolding number_before
loop-place-init c = (none_open _, refl, none-line _, begins _ _)

-- a note is there for the card
pub bounds-cards-place : goal.bounds-cards-place
bounds-cards-place c =
    let t = card_comes c.into_iter-place-iterator.result c.args.header.now (cc) (cc) (cc) c.loop-place.yielded _ c.loop-place.yielded_by _ _ c.next.ensures.steps (c.in-Some.place, c.in-Some.card) c.in-Some.is in
    omega (arith, t.inside, t.place_is, c.requires.header_bound, c.requires.noted.room)

pub judge_placed-verdict-requires : goal.judge_placed-verdict-requires
judge_placed-verdict-requires c =
    let h = c.args.header.now in
    let b = c.loop-place in
    let n = length b.yielded in
    let t = card_comes c.into_iter-place-iterator.result c.args.header.now (cc) (cc) (cc) c.loop-place.yielded _ c.loop-place.yielded_by _ _ c.next.ensures.steps (c.in-Some.place, c.in-Some.card) c.in-Some.is in
    let layout_is : c.layout_in-layout.result ≡ layout_of c.in-Some.card.now =
    c.layout_in-layout.ensures ∙ ap (λ i. layout_in (get_or c.args.cards.now i 0)) t.place_is ∙ c.requires.noted.layouts_are n t.inside ∙ ap layout_of (sym t.card_is) in (
      t.whole,
      layout_is,
      c.is_sure.ensures ∙ ap (λ i. is_sure (get_or c.args.cards.now i 0)) t.place_is ∙ c.requires.noted.sures_are n t.inside
          ∙ ap₂ sure (sym (layout_is ∙ ap layout_of t.card_is)) (sym t.card_is),
    )

pub returns-in_default : goal.returns-in_default
returns-in_default c =
    let h = c.args.header.now in
    let b = c.loop-place in
    let n = length b.yielded in
    let t = card_comes c.into_iter-place-iterator.result c.args.header.now (cc) (cc) (cc) c.loop-place.yielded _ c.loop-place.yielded_by _ _ c.next.ensures.steps (c.in-Some.place, c.in-Some.card) c.in-Some.is in
    let layout_is : c.layout_in-layout.result ≡ layout_of c.in-Some.card.now =
    c.layout_in-layout.ensures ∙ ap (λ i. layout_in (get_or c.args.cards.now i 0)) t.place_is ∙ c.requires.noted.layouts_are n t.inside ∙ ap layout_of (sym t.card_is) in
    let inside_is : b.inside && c.goes_on-inside.result ≡ open_to h (n + 1) =
    next_open h _ n _ _ _ _ _ t.card_is t.inside layout_is c.code_number-number.ensures b.invariant.1 b.invariant.0
    (c.goes_on-inside.ensures ∙ ap (λ i. goes_on i c.layout_in-layout.result b.before c.code_number-number.result) t.place_is) in
    let verdict-is : c.judge_placed-verdict.result ≡ verdict_at h n =
    found h c.args.notes.now _ n _ _ _ _ _ _ c.requires.notes_value t.card_is t.inside (vessel_byte h (λ i. omega (arith, c.shared_slice_known-1.given i)) n)
    layout_is c.form_by-form.ensures.form inside_is b.invariant.2 refl c.judge_placed-verdict.ensures in
    ends_at h n t.inside b.invariant.3 c.judge_placed-verdict.result verdict-is _ _ c.in_default.is _ (c.answer_for.ensures ∙ ap (λ i. answer_for c.judge_placed-verdict.result (i + 1)) t.place_is)

pub loop-place-preserved : goal.loop-place-preserved
loop-place-preserved c =
    let h = c.args.header.now in
    let b = c.loop-place in
    let n = length b.yielded in
    let t = card_comes c.into_iter-place-iterator.result c.args.header.now (cc) (cc) (cc) c.loop-place.yielded _ c.loop-place.yielded_by _ _ c.next.ensures.steps (c.in-Some.place, c.in-Some.card) c.in-Some.is in
    let layout_is : c.layout_in-layout.result ≡ layout_of c.in-Some.card.now =
    c.layout_in-layout.ensures ∙ ap (λ i. layout_in (get_or c.args.cards.now i 0)) t.place_is ∙ c.requires.noted.layouts_are n t.inside ∙ ap layout_of (sym t.card_is) in
    let inside_is : b.inside && c.goes_on-inside.result ≡ open_to h (n + 1) =
    next_open h _ n _ _ _ _ _ t.card_is t.inside layout_is c.code_number-number.ensures b.invariant.1 b.invariant.0
    (c.goes_on-inside.ensures ∙ ap (λ i. goes_on i c.layout_in-layout.result b.before c.code_number-number.result) t.place_is) in
    let verdict-is : c.judge_placed-verdict.result ≡ verdict_at h n =
    found h c.args.notes.now _ n _ _ _ _ _ _ c.requires.notes_value t.card_is t.inside (vessel_byte h (λ i. omega (arith, c.shared_slice_known-1.given i)) n)
    layout_is c.form_by-form.ensures.form inside_is b.invariant.2 refl c.judge_placed-verdict.ensures in
    rw (length_push b.yielded (c.in-Some.place, c.in-Some.card)) (
      inside_is,
      next-before h _ n _ t.card_is c.code_number-number.ensures,
      next-line h _ n _ _ _ t.card_is layout_is inside_is b.invariant.2,
      goes_on_lem h n t.inside b.invariant.3 c.judge_placed-verdict.result verdict-is c.in-Ok.is,
    )

pub returns : goal.returns
unfolding cards_in
returns c =
    let b = c.loop-place in
    let e = cards_end c.into_iter-place-iterator.result c.args.header.now (cc) (cc) (cc) c.loop-place.yielded _ c.loop-place.yielded_by _ _ c.next.ensures.steps c.in-None.is in
    ends_past c.args.header.now (length b.yielded) e b.invariant.3 _ b.invariant.2 _ c.judge_end.ensures _ c.answer_for-2.ensures
