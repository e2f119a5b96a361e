-- `header_check::forms::notes_of` meets its contract.
use mathlib.Core.Path.{refl, ap, ◌∙◌}
use lib.ListN.{length}
use Rattle.std.proofs.lemmas.List.{length_push}
use Rattle.header_check.specs.packed.Notes.{notes_to}
use Rattle.header_check.specs.packed.Noted.{card_note, noted_to}
use Rattle.header_check.proofs.forms.Steps.{one_more}
use Rattle.header_check.proofs.forms.Reading.{card_comes, cards_end}
use Rattle.header_check.proofs.forms.Layouts.{none-noted, noted_more, length-noted}
use Rattle.header_check.proofs.forms.notes_of.Goals as goal

pub loop-place-init : goal.loop-place-init
unfolding notes_to
loop-place-init c = (refl, none-noted _ _)

pub card_note-requires : goal.card_note-requires
card_note-requires c =
    let t = card_comes c.into_iter-place-iterator.result c.args.header.now (cc) (cc) (cc) c.loop-place.yielded _ c.loop-place.yielded_by _ _ c.next.ensures.steps (c.in-Some.place, c.in-Some.card) c.in-Some.is in
    record {
      built = c.table-table.ensures;
      card_len = (t.whole, c.layout_of-layout.ensures);
    }

pub put_note-requires : goal.put_note-requires
put_note-requires c = ap length c.loop-place.invariant.1 ∙ length-noted _ _ (length c.loop-place.yielded) ∙ c.requires

pub note_card-requires : goal.note_card-requires
note_card-requires c = c.layout_of-layout.ensures

pub loop-place-preserved : goal.loop-place-preserved
loop-place-preserved c =
    let h = c.args.header.now in
    let ys = c.loop-place.yielded in
    let t = card_comes c.into_iter-place-iterator.result c.args.header.now (cc) (cc) (cc) c.loop-place.yielded _ c.loop-place.yielded_by _ _ c.next.ensures.steps (c.in-Some.place, c.in-Some.card) c.in-Some.is in
    rw (length_push ys (c.in-Some.place, c.in-Some.card)) (
      one_more h c.loop-place.notes _ (length ys) c.loop-place.invariant.0 t.card_is _ c.note_card.ensures,
      c.put_note.ensures ∙ rw t.place_is (noted_more h _ _ (length ys) _ c.loop-place.invariant.1 (c.card_note.ensures ∙ ap card_note t.card_is)),
    )

pub returns : goal.returns
returns c =
    let h = c.args.header.now in
    let b = c.loop-place in
    let e = cards_end c.into_iter-place-iterator.result c.args.header.now (cc) (cc) (cc) c.loop-place.yielded _ c.loop-place.yielded_by _ _ c.next.ensures.steps c.in-None.is in
    record {
      forms = b.invariant.0 ∙ ap (notes_to h) e;
      cards = b.invariant.1 ∙ ap (noted_to h _) e;
    }
