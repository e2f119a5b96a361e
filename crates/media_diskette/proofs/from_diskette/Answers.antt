-- `media_diskette::from_diskette` meets its contract: judged first, written afterwards.
use Rattle.std.specs.Prelude.{Err}
use mathlib.Core.Path.{refl, ap, ◌∙◌}
use Rattle.std.proofs.lemmas.Result.{err_from_is_err_and}
use native.Mathlib.Omega.{arith}
use Rattle.media_diskette.specs.Lines.{cards_from}
use Rattle.media_diskette.specs.Answers.{from_answer}
use Rattle.media_diskette.proofs.Judging.{known, written, left_alone, file_fine}
use Rattle.media_diskette.proofs.from_diskette.Goals as goal

pub lay_cards-requires : goal.lay_cards-requires
lay_cards-requires c =
    let k = known c.args.out.now _ c.judge_file.result _ c.in_ok-n.ensures c.judge_file.ensures _ refl in
    let x = file_fine c.args.file.now _ k.0 in
    (x.good, omega (arith, x.size, k.1))

pub returns : goal.returns
unfolding from_answer
returns c =
    let k = known c.args.out.now _ c.judge_file.result _ c.in_ok-n.ensures c.judge_file.ensures _ refl in
    let x = file_fine c.args.file.now _ k.0 in
    let w =
    written c.args.out.now _ c.judge_file.result _ c.in_ok-n.ensures c.judge_file.ensures _ _ _ _ refl c.lay_cards.ensures x.size
    in
    record { answer = w.0; out = w.1 }

pub returns-in_err-n : goal.returns-in_err-n
unfolding from_answer
returns-in_err-n c =
    let p = err_from_is_err_and c.from_residual.result c.from_residual.ensures.1 in
    let w =
    left_alone c.args.out.now _ c.judge_file.result _ c.in_err-n.ensures c.judge_file.ensures (cards_from c.args.file.now) _ refl
    in
    record { answer = p.1 ∙ ap Err p.2 ∙ w.0; out = w.1 }
