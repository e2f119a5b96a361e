-- `media_ebcdic::translate` meets its contract.
use Rattle.std.proofs.Common.{◌≡◌, ℕ, map, drop}
use Rattle.base_lists.specs.Laid.{stored}
use lib.Seq.{sets}
use Rattle.media_ebcdic.proofs.translate.Given as goal

-- what is left to write makes the whole
abbrev pub invariant-loop-i : goal.invariant-loop-i
invariant-loop-i g l =
    (e : ℕ → ℕ) → ((b x : ℕ) → goal.F-post g l.entry b x → x ≡ e b)
    → stored l.initial.out 0 (map e l.input) ≡ sets l.out l.i (map e (drop l.i l.input))
