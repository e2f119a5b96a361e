-- `media_diskette::to_diskette` meets its contract: judged first, written afterwards.
use Rattle.std.specs.Prelude.{Err}
use mathlib.Core.Path.{refl, ap, ◌∙◌}
use Rattle.std.proofs.lemmas.Result.{err_from_is_err_and}
use native.Mathlib.Omega.{arith}
use Rattle.media_diskette.specs.Lines.{disk_of}
use Rattle.media_diskette.specs.Answers.{to_answer}
use Rattle.media_diskette.proofs.Judging.{known, written, left_alone, cards_fine}
use Rattle.media_diskette.proofs.to_diskette.Goals as goal

pub lay_lines-requires : goal.lay_lines-requires
lay_lines-requires c =
    let k = known c.args.out.now _ c.judge_cards.result _ c.in_ok-n.ensures c.judge_cards.ensures _ refl in
    let x = cards_fine c.args.cards.now _ k.0 in
    omega (arith, x.size, k.1)

pub returns : goal.returns
unfolding to_answer
returns c =
    let k = known c.args.out.now _ c.judge_cards.result _ c.in_ok-n.ensures c.judge_cards.ensures _ refl in
    let x = cards_fine c.args.cards.now _ k.0 in
    let w =
    written c.args.out.now _ c.judge_cards.result _ c.in_ok-n.ensures c.judge_cards.ensures _ _ _ _ refl c.lay_lines.ensures x.size
    in
    record { answer = w.0; out = w.1 }

pub returns-in_err-n : goal.returns-in_err-n
unfolding to_answer
returns-in_err-n c =
    let p = err_from_is_err_and c.from_residual.result c.from_residual.ensures.1 in
    let w =
    left_alone c.args.out.now _ c.judge_cards.result _ c.in_err-n.ensures c.judge_cards.ensures (disk_of c.args.cards.now) _ refl
    in
    record { answer = p.1 ∙ ap Err p.2 ∙ w.0; out = w.1 }
