-- `volume_edit::append` meets its contract.
use Prim.Native.Nat.{◌*◌}
use lib.ListN.{take}
use mathlib.Core.List.{[], ◌∷◌, ◌++◌}
use mathlib.Core.Path.{ap, ◌∙◌}
use Rattle.volume_form.specs.Rows.{row_of}
use Rattle.volume_rules.specs.Sound.{headers_of}
use Rattle.volume_edit.specs.Written.{append_answer, left_by}
use Rattle.volume_edit.proofs.append.Goals as goal

pub returns : goal.returns
returns c =
    let s = c.args.buffer.now in
    let h = c.args.header.now in
    let n = c.args.cards in
    let e = c.form_of-form.ensures in record {
      answer = c.append_to.ensures.answer ∙ ap (λ x. append_answer (row_of x) n s h) e;
      buffer = c.append_to.ensures.buffer ∙ ap (λ x. left_by (row_of x) (append_answer (row_of x) n s h) (headers_of (row_of x) n (take (80 * n) s) ++ (h ∷ [])) s) e;
    }
