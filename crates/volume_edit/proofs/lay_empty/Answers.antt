-- `volume_edit::lay_empty` meets its contract.
use mathlib.Core.Path.{refl, ap, ◌∙◌}
use Rattle.volume_form.specs.declared.Form.TheVariants.{Old}
use Rattle.volume_edit.proofs.Appends.{empty-refused, one_small, empty-laid}
use native.Mathlib.Omega.{arith}
use Rattle.volume_edit.proofs.lay_empty.Goals as goal
use Rattle.std.specs.Prelude.{Err}

pub returns-then-buffer-eq0 : goal.returns-then-buffer-eq0
returns-then-buffer-eq0 c =
    let e = empty-refused Old c.args.buffer.now c.if-buffer-eq0.true _ refl in record {
      answer = ap Err c.refuse.ensures ∙ e.0;
      buffer = e.1;
    }

pub trailer_card-trailer-requires : goal.trailer_card-trailer-requires
trailer_card-trailer-requires c = (omega (arith, one_small Old), omega (arith, one_small Old))

pub returns : goal.returns
returns c =
    let w = empty-laid Old c.args.buffer.now c.if-buffer-eq0.false _ _ c.trailer_card-trailer.ensures c.lay.ensures in
    record { answer = w.0; buffer = w.1 }
