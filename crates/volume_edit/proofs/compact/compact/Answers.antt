-- `volume_edit::compact::compact` meets its contract.
use Prim.Native.Nat.{◌*◌}
use lib.ListN.{take}
use mathlib.Core.Path.{ap, ◌∙◌}
use Rattle.volume_form.specs.Rows.{row_of}
use Rattle.volume_rules.specs.Sound.{headers_of}
use Rattle.volume_edit.specs.Written.{compact_answer, compacted_by}
use Rattle.volume_edit.proofs.compact.compact.Goals as goal

pub returns : goal.returns
returns c =
    let s = c.args.buffer.now in
    let n = c.args.cards in
    let e = c.form_of-form.ensures in record {
      answer = c.compact_in.ensures.answer ∙ ap (λ x. compact_answer (row_of x) n s) e;
      buffer = c.compact_in.ensures.buffer ∙ ap (λ x. compacted_by (row_of x) (compact_answer (row_of x) n s) (headers_of (row_of x) n (take (80 * n) s)) s) e;
    }
