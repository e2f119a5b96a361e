-- `tie_check::entries::put` meets its contract.
use Prim.Native.Nat.{ℕ, ◌+◌, ◌-◌}
use mathlib.Core.Path.{◌≡◌, sym, ap, ap₂, ◌∙◌}
use mathlib.Core.List.{List, [], ◌∷◌, ◌++◌, append_assoc}
use native.Mathlib.Omega.{arith}
use lib.ListN.{take, drop}
use lib.Seq.{drop-drop}
use Rattle.base_lists.proofs.Laying.{stored_full, stored-fits}
use Rattle.tie_check.proofs.entries.put.Goals as goal

pub returns-then-list-at : goal.returns-then-list-at
returns-then-list-at c =
    sym (stored_full c.args.list.now c.args.at (c.args.card ∷ c.args.column ∷ c.args.kind ∷ c.args.vessel ∷ []) (omega arith))

pub returns : goal.returns
returns c =
    let l = c.args.list.now in
    let at = c.args.at in
    let e : List ℕ = c.args.card ∷ c.args.column ∷ c.args.kind ∷ c.args.vessel ∷ [] in
    let k : at + 4 - at ≡ 4 = omega arith in
    let q : c.copy_from_slice.new.self ≡ e = c.copy_from_slice.ensures.after in
    ap₂ (λ (m : ℕ) (x : List ℕ). take at l ++ (x ++ drop m (drop at l))) k q
    ∙ ap (λ (z : List ℕ). take at l ++ (e ++ z)) (drop-drop 4 at l) ∙ sym (append_assoc (take at l) e (drop (at + 4) l)) ∙ sym (stored-fits l at e (omega arith))
