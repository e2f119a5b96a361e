-- `volume_check::judging::form_of` meets its contract.
use Rattle.volume_check.proofs.judging.Parts.{form-none, form_short, form_wide, form_old}
use Rattle.volume_check.proofs.judging.form_of.Goals as goal

pub returns-then-cards-eq0 : goal.returns-then-cards-eq0
returns-then-cards-eq0 c = form-none _ _ c.if-cards-eq0.true

pub returns-then-buffer-cards : goal.returns-then-buffer-cards
returns-then-buffer-cards c = form_short _ _ c.if-cards-eq0.false c.if-buffer-cards.true

pub returns-then-starts_with : goal.returns-then-starts_with
returns-then-starts_with c =
    form_wide _ _ c.if-cards-eq0.false c.if-buffer-cards.false _ c.trailer_code-code.ensures _ c.starts_with.ensures.value c.if-starts_with.true

pub returns : goal.returns
returns c =
    form_old _ _ c.if-cards-eq0.false c.if-buffer-cards.false _ c.trailer_code-code.ensures _ c.starts_with.ensures.value c.if-starts_with.false
