-- `card_check::offences::number_in` meets its contract.
-- columns of which the last is filled have no blank behind what stands there
use Prim.Native.Nat.{ℕ, ◌-◌, ◌≤◌}
use native.Mathlib.Omega.{arith}
use mathlib.Core.Path.{◌≡◌, sym, ap, ◌∙◌}
use mathlib.Core.List.{List}
use lib.ListN.{length, get_or}
use lib.Seq.{take_all}
use Rattle.value_text.specs.text.Texts.{text_end, text_of}
use Rattle.value_text.proofs.text.Ends.{end_stops}
use Rattle.card_check.proofs.offences.number_in.Goals as goal

whole : (s : List ℕ) → 1 ≤ length s → (get_or s (length s - 1) 0 ≡ 32 → ⊥) → s ≡ text_of s
unfolding text_of
whole s some h =
    let e : text_end s ≡ length s = ap text_end (sym (take_all (length s) s (omega arith))) ∙ end_stops (length s) s some (omega arith) h in
    sym (take_all (text_end s) s (omega (arith, e)))

pub returns-then-s-ne-BLANK : goal.returns-then-s-ne-BLANK
returns-then-s-ne-BLANK c = whole c.args.s.now c.requires c.if-s-ne-BLANK.true
