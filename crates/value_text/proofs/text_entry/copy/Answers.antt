-- `value_text::text_entry::copy` meets its contract.
use Rattle.std.proofs.Common.{◌≡◌, ◌++◌, ◌∙◌, List, ℕ, length, drop, set, get_or, refl, ap, arith}
use lib.Seq.{take_all}
use Rattle.value_text.proofs.text.Ends.{copied}
use Rattle.value_text.proofs.text_entry.copy.Goals as goal

pub loop-i-init : goal.loop-i-init
loop-i-init c = refl

pub loop-i-preserved : goal.loop-i-preserved
loop-i-preserved c =
    let b = c.loop-i in let t = c.args.text.now in let d = c.args.columns.now in
    ap (λ (l : List ℕ). set l b.i (get_or t b.i 0)) b.invariant ∙ copied b.i t d c.loop-i-test.true (omega arith)

pub returns : goal.returns
returns c =
    let b = c.loop-i in let t = c.args.text.now in
    let e : b.i ≡ length t = omega arith in
    b.invariant ∙ rw e (ap (λ (l : List ℕ). l ++ drop (length t) c.args.columns.now) (take_all (length t) t (omega arith)))
