-- `volume_edit::convert::widen` meets its contract.
use Prim.Native.Nat.{◌*◌}
use lib.ListN.{take}
use mathlib.Core.Path.{ap, ◌∙◌}
use Rattle.volume_form.specs.declared.Form.TheVariants.{Wide}
use Rattle.volume_form.specs.Rows.{row_of}
use Rattle.volume_rules.specs.Sound.{headers_of}
use Rattle.volume_edit.specs.Written.{convert_answer, left_by}
use Rattle.volume_edit.proofs.convert.widen.Goals as goal

pub returns : goal.returns
returns c =
    let s = c.args.buffer.now in
    let n = c.args.cards in
    let e = c.form_of-from.ensures in record {
      answer = c.convert_to.ensures.answer ∙ ap (λ x. convert_answer (row_of x) (row_of Wide) n s) e;
      buffer = c.convert_to.ensures.buffer ∙ ap (λ x. left_by (row_of Wide) (convert_answer (row_of x) (row_of Wide) n s) (headers_of (row_of x) n (take (80 * n) s)) s) e;
    }
