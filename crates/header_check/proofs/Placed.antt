-- A card in its place or not: each way through judging it.
use Prim.Native.Nat.{ℕ, ◌+◌, ◌≤◌, ◌<◌}
use mathlib.Core.Path.{◌≡◌, refl, sym, ◌∙◌}
use mathlib.Core.List.{List}
use mathlib.Core.Bool.{Bool, true, false, cond, ◌&&◌, true≢false}
use lib.ListN.{length, take}
use borrow.Author.Tests.{lt-ltb, le-ltb}
use Rattle.format_code.specs.declared.Code.{Code}
use Rattle.format_code.specs.declared.Code.TheVariants as code
use Rattle.format_code.specs.Codes.{code_of}
use Rattle.value_text.specs.printable.Bytes.{first_bad}
use Rattle.format_layout.specs.declared.Form.{Form}
use Rattle.card_screen.specs.Roles.{sure}
use Rattle.card_check.specs.Judging.{verdict_of, code_verdict}
use Rattle.card_check.proofs.Ways.{verdict_coded}
use Rattle.card_check.proofs.Screened.{sure-read, sure_fine}
use Rattle.header_check.specs.forms.Cards.{layout_of}
use Rattle.header_check.specs.Refusing.{is_unknown, readable, placed_verdict}
use Rattle.header_check.proofs.forms.Steps.{read-code}
use Rattle.std.specs.Prelude.{Err}
use Rattle.base_refusal.specs.Refusals.{no_refusal}
use Rattle.card_check.specs.Verdicts.{offending}

-- a byte that is not printable comes first
pub unprintable : (s : List ℕ) (form : Form) (placed : Bool) (bad : ℕ) → bad ≡ first_bad s → bad < 80
    → Err (offending 4 (bad + 1)) ≡ placed_verdict s form placed
unfolding placed_verdict readable
unprintable s form placed bad is h = rw (← is, lt-ltb bad 80 h)

module _ (s : List ℕ) (form : Form) (whole : length s ≡ 80) (bad : ℕ) (is : bad ≡ first_bad s) (h : 80 ≤ bad) where
  -- a card that stands where it may is judged by its code
  pub placed_by : (placed : Bool) (k : Code) → placed ≡ true → k ≡ code_of (take 5 s) → code_verdict k form s ≡ placed_verdict s form placed
  unfolding placed_verdict readable code_verdict
  placed_by placed k p q =
      let v : verdict_of s form ≡ code_verdict k form s = verdict_coded s form whole bad is h k (sym q) in
      rw (p, ← is, le-ltb bad 80 h, ← q, v) (go k)
    where
      go : (k : Code) → code_verdict k form s ≡ cond (is_unknown k) (Err (offending 5 1)) (code_verdict k form s)
      go code.Unknown = refl
      go code.Passed = refl
      go (code.Read n) = refl

  -- and is fine where the screen is sure of it
  pub placed-sure : (placed b : Bool) (k : ℕ) → k ≡ layout_of s → b ≡ sure k s → placed && b ≡ true → no_refusal ≡ placed_verdict s form placed
  unfolding code_verdict
  placed-sure true true k e q t =
      sym (sure_fine k form s whole (sym q)) ∙ placed_by true (code.Read k) refl (read-code s k e (sure-read k s (sym q)))
  placed-sure true false k e q t = absurd (true≢false (sym t))
  placed-sure false b k e q t = absurd (true≢false (sym t))

  -- a card that stands elsewhere
  pub misplaced : (placed : Bool) (k : Code) → placed ≡ false → k ≡ code_of (take 5 s)
      → cond (is_unknown k) (Err (offending 5 1)) (Err (offending 6 1)) ≡ placed_verdict s form placed
  unfolding placed_verdict readable
  misplaced placed k p q = rw (p, ← is, le-ltb bad 80 h, ← q)
