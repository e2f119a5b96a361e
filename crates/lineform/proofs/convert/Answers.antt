-- `convert` makes no more bytes than there is room for.
use Prim.Native.Nat.{ℕ, ◌≤◌}
use native.Mathlib.Omega.{arith}
use mathlib.Core.Path.{◌≡◌, refl, sym, ◌∙◌}
use mathlib.Core.Bool.{true≢false}
use lib.Seq.{length-take-le}
use Rattle.std.specs.Prelude.{Result, Ok, Err, IfOk}
use Rattle.std.specs.Result.{MatchResult, is_ok}
use Rattle.base_refusal.specs.declared.Refusal.{Refusal}
use Rattle.media_diskette.proofs.Back.{to-fits, from-fits}
use Rattle.media_ebcdic.proofs.Buffers.{done-fits}
use Rattle.lineform.proofs.convert.Goals as goal

fits : (x : Result ℕ Refusal) → ((n : ℕ) → x ≡ Ok n → n ≤ 65600) → IfOk x (λ n. n ≤ 65600)
fits (Ok n) h = h n refl
fits (Err r) h = tt

-- a refusal told otherwise is no length
mapped_fits : (Q : Refusal → Type 0) (x y : Result ℕ Refusal) → MatchResult x (λ n. y ≡ Ok n) Q → is_ok y ≡ is_ok x
    → ((n : ℕ) → x ≡ Ok n → n ≤ 65600) → IfOk y (λ n. n ≤ 65600)
mapped_fits Q (Ok n) y same kind h = rw same (h n refl)
mapped_fits Q (Err r) (Ok n) same kind h = absurd (true≢false kind)
mapped_fits Q (Err r) (Err q) same kind h = tt

pub returns-in-Disk : goal.returns-in-Disk
returns-in-Disk c = fits _ (λ n e. omega (arith, to-fits _ _ n (sym c.to_diskette.ensures.answer ∙ e), c.told-out))

pub returns-in-Cards : goal.returns-in-Cards
returns-in-Cards c =
    mapped_fits _ _ _ c.map_err.ensures.cases c.map_err.ensures.variant
    (λ n e.
    omega (arith, from-fits _ _ n (sym c.from_diskette.ensures.answer ∙ e), length-take-le 64000 c.args.out.now (omega (arith, c.told-out))))

pub returns-in-Ascii : goal.returns-in-Ascii
returns-in-Ascii c = fits _ (λ n e. omega (arith, done-fits _ _ n (sym c.to_ascii.ensures.answer ∙ e), c.told-out))

pub returns-in-Ebcdic : goal.returns-in-Ebcdic
returns-in-Ebcdic c = fits _ (λ n e. omega (arith, done-fits _ _ n (sym c.to_ebcdic.ensures.answer ∙ e), c.told-out))
