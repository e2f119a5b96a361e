-- `value_text::text_entry::write_text` meets its contract.
use Rattle.value_text.proofs.text.Ends.{text_unprintable, text_malformed, text_no_room, text-agreed, filled}
use Rattle.base_digits.proofs.digits.Answers.{made, turned_away}
use mathlib.Core.Path.{sym, ◌∙◌}
use Rattle.value_text.proofs.text_entry.write_text.Goals as goal

pub returns-then-not-all_printable : goal.returns-then-not-all_printable
returns-then-not-all_printable c =
    record { answer = (turned_away c.args.columns.now (text_unprintable _ _ _ (sym c.all_printable.ensures ∙ c.if-not-all_printable.true))).0; columns = (turned_away c.args.columns.now (text_unprintable _ _ _ (sym c.all_printable.ensures ∙ c.if-not-all_printable.true))).1 }

pub returns-then-not-well_formed : goal.returns-then-not-well_formed
returns-then-not-well_formed c =
    record { answer = (turned_away c.args.columns.now (text_malformed _ _ _ (sym c.all_printable.ensures ∙ c.if-not-all_printable.false) (sym c.well_formed-2.ensures ∙ c.if-not-well_formed.true))).0; columns = (turned_away c.args.columns.now (text_malformed _ _ _ (sym c.all_printable.ensures ∙ c.if-not-all_printable.false) (sym c.well_formed-2.ensures ∙ c.if-not-well_formed.true))).1 }

pub returns-then-columns-n : goal.returns-then-columns-n
returns-then-columns-n c =
    record { answer = (turned_away c.args.columns.now (text_no_room _ _ _ (sym c.all_printable.ensures ∙ c.if-not-all_printable.false) (sym c.well_formed-2.ensures ∙ c.if-not-well_formed.false) c.if-columns-n.true)).0; columns = (turned_away c.args.columns.now (text_no_room _ _ _ (sym c.all_printable.ensures ∙ c.if-not-all_printable.false) (sym c.well_formed-2.ensures ∙ c.if-not-well_formed.false) c.if-columns-n.true)).1 }

pub returns : goal.returns
returns c =
    record {
      answer = (made c.args.columns.now _ (text-agreed _ _ c.args.text.now (sym c.all_printable.ensures ∙ c.if-not-all_printable.false) (sym c.well_formed-2.ensures ∙ c.if-not-well_formed.false) c.if-columns-n.false)
          (filled c.args.columns.now c.args.text.now c.copy.new.columns c.fill_blanks.new.columns c.if-columns-n.false c.copy.ensures c.fill_blanks.ensures)).0;
      columns = (made c.args.columns.now _ (text-agreed _ _ c.args.text.now (sym c.all_printable.ensures ∙ c.if-not-all_printable.false) (sym c.well_formed-2.ensures ∙ c.if-not-well_formed.false) c.if-columns-n.false)
          (filled c.args.columns.now c.args.text.now c.copy.new.columns c.fill_blanks.new.columns c.if-columns-n.false c.copy.ensures c.fill_blanks.ensures)).1;
    }
