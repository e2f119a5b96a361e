-- `volume_form::reading::standing_in` meets its contract.
use mathlib.Core.Path.{◌≡◌, sym, ap, ◌∙◌}
use Prim.Native.Nat.{◌+◌, ◌-◌, ◌*◌}
use lib.ListN.{get_or, drop}
use native.Mathlib.Omega.{arith}
use Rattle.base_digits.specs.digits.Figures.{value_from}
use Rattle.volume_form.specs.Spelled.{standing}
use Rattle.volume_form.proofs.reading.Walks.{value_goes, value_ends, value_more}
use Rattle.volume_form.proofs.reading.standing_in.Goals as goal

pub loop-b-preserved : goal.loop-b-preserved
loop-b-preserved c =
    let b = c.loop-b in
    let s = c.args.columns.now in
    let e : c.from.result ≡ get_or s b.b-index 0 - 48 = c.from.ensures ∙ c.saturating_sub.ensures in (
      value_more b.n b.b-index _ (omega (arith, e, c.type_inv.columns b.b-index)) b.invariant.0,
      b.invariant.1 ∙ value_goes b.n b.b-index s c.loop-b-test.true ∙ ap (λ d. value_from (10 * b.n + d) (drop (b.b-index + 1) s)) (sym e),
    )

pub returns : goal.returns
unfolding standing
returns c = let b = c.loop-b in sym (b.invariant.1 ∙ value_ends b.n b.b-index _ c.loop-b-test.false)
