-- `volume_form::moving::blank` meets its contract.
use Rattle.std.proofs.Common.{◌≡◌, ◌-◌, length, take, drop, replicate, length-drop, ap, ◌∙◌, arith}
use lib.Seq.{length-take-le}
use lib.ListN.{length-replicate}
use Rattle.volume_form.specs.Moved.{laid_at}
use Rattle.volume_form.proofs.moving.Moves.{put_laid}
use Rattle.volume_form.proofs.moving.blank.Goals as goal

pub returns : goal.returns
returns c =
    let s = c.args.s.now in
    let n = c.args.to - c.args.from in
    let wide : length (take n (drop c.args.from s)) ≡ n = length-take-le n (drop c.args.from s) (rw length-drop (omega arith)) in
    let e : c.fill.new.self ≡ replicate n 32 = c.fill.ensures.after (λ y p. p) ∙ ap (λ k. replicate k 32) wide in
    put_laid c.args.from n s _ (ap length e ∙ length-replicate n 32) ∙ ap (laid_at s c.args.from) e
