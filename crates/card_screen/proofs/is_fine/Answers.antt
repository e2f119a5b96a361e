-- `card_screen::is_fine` meets its contract.
use Prim.Native.Nat.{◌+◌, ◌*◌}
use mathlib.Core.Path.{refl, ap, ◌∙◌}
use native.Mathlib.Omega.{arith}
use lib.ListN.{length}
use Rattle.std.proofs.lemmas.List.{length_push}
use Rattle.card_screen.specs.Machine.{runs}
use Rattle.card_screen.specs.Roles.{word_at}
use Rattle.card_screen.proofs.Lines.{past_plain}
use Rattle.card_screen.proofs.Pieces as pieces
use Rattle.card_screen.proofs.Sixteen.{row_more, given_up, all_rows, first_plain, not_plain, first-none}
use Rattle.card_screen.proofs.is_fine.Goals as goal

pub returns-then-layout-ge-LAYOUTS : goal.returns-then-layout-ge-LAYOUTS
returns-then-layout-ge-LAYOUTS c = not_plain c.args.layout _ (past_plain c.args.layout c.if-layout-ge-LAYOUTS.true)

pub returns-then-roles_at-eq0 : goal.returns-then-roles_at-eq0
returns-then-roles_at-eq0 c =
    first-none c.args.layout _ _ (omega (arith, c.if-layout-ge-LAYOUTS.false)) c.roles_at.ensures c.if-roles_at-eq0.true

pub loop-row-init : goal.loop-row-init
loop-row-init c =
    (omega (arith, c.if-layout-ge-LAYOUTS.false), first_plain c.args.layout _ c.roles_at.ensures c.if-roles_at-eq0.false, refl, omega arith, refl, c.requires.card_len)

pub returns-then-state-eq-UNSURE : goal.returns-then-state-eq-UNSURE
returns-then-state-eq-UNSURE c =
    let v = c.loop-row.invariant in
    let k = c.args.layout in
    let s = c.args.card.now in
    let ys = c.loop-row.yielded in
    let t = pieces.turn 16 (omega arith) c.into_iter-row-iterator.result s (cc) (cc) (cc) ys _ c.loop-row.yielded_by _ _ c.next.ensures.steps (c.in-Some.row, c.in-Some.columns) c.in-Some.is in
    given_up k v.0 v.1 s v.5 (length ys + 1)
    (v.2 ∙ row_more k v.0 v.1 s v.5 (length ys) _ _ _ _ (omega (arith, v.5, t.0)) (c.roles_at-in-loop-row.ensures ∙ ap (λ n. word_at (k * 5 + n)) t.1) t.2 c.run_row-state.ensures.0
    ∙ ap (runs _ _) c.if-state-eq-UNSURE.true)

pub loop-row-preserved : goal.loop-row-preserved
loop-row-preserved c =
    let v = c.loop-row.invariant in
    let k = c.args.layout in
    let s = c.args.card.now in
    let ys = c.loop-row.yielded in
    let e = c.run_row-state.ensures in
    let t = pieces.turn 16 (omega arith) c.into_iter-row-iterator.result s (cc) (cc) (cc) ys _ c.loop-row.yielded_by _ _ c.next.ensures.steps (c.in-Some.row, c.in-Some.columns) c.in-Some.is in
    let m = row_more k v.0 v.1 s v.5 (length ys) _ _ _ _ (omega (arith, v.5, t.0)) (c.roles_at-in-loop-row.ensures ∙ ap (λ n. word_at (k * 5 + n)) t.1) t.2 e.0 in
    (v.0, v.1, rw (length_push ys (c.in-Some.row, c.in-Some.columns)) (v.2 ∙ m), e.1, e.2, v.5)

pub returns : goal.returns
returns c =
    let v = c.loop-row.invariant in
    let n = pieces.at_end 16 (omega arith) c.into_iter-row-iterator.result c.args.card.now (cc) (cc) (cc) c.loop-row.yielded _ c.loop-row.yielded_by _ _ c.next.ensures.steps c.in-None.is in
    c.may_end.ensures ∙ all_rows _ v.0 v.1 _ v.5 _ c.loop-row.state (omega (arith, n, v.5)) v.2
