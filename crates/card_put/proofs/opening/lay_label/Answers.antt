-- `card_put::opening::lay_label` meets its contract.
use mathlib.Core.Path.{refl, ◌∙◌, ap, ap₂}
use mathlib.Core.List.{List, ◌++◌, append-nil}
use Prim.Native.Nat.{ℕ}
use lib.ListN.{length, set, drop_of_length-le}
use lib.Seq.{take_all}
use Rattle.format_layout.specs.Layouts.{label_of}
use Rattle.card_put.specs.opening.Opening.{labelled}
use Rattle.card_put.proofs.opening.Laying.{laid_on, labelled-length}
use native.Mathlib.Omega.{arith}
use Rattle.card_put.proofs.opening.lay_label.Goals as goal

pub loop-i-init : goal.loop-i-init
loop-i-init c = refl

pub loop-i-preserved : goal.loop-i-preserved
loop-i-preserved c =
    let b = c.loop-i in
    ap (λ (l : List ℕ). set l b.i c.label_byte.result) b.invariant
    ∙ laid_on b.i (label_of c.args.layout) c.args.columns.now c.label_byte.result c.requires (omega arith) c.label_byte.ensures

pub returns : goal.returns
returns c =
    let b = c.loop-i in let d = c.args.columns.now in let t = labelled (label_of c.args.layout) (length d) in
    b.invariant
    ∙ ap₂ (λ (x y : List ℕ). x ++ y) (take_all b.i t (omega (arith, labelled-length (label_of c.args.layout) (length d) c.requires))) (drop_of_length-le d {i = b.i} (omega arith))
    ∙ append-nil t
