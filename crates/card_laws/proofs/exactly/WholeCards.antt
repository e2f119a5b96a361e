-- The verdict on a whole card is an offence exactly when the card offends so, and fine exactly when it does not.
use Prim.Native.Nat.{ℕ, ◌+◌, ◌-◌, ◌≤◌, ◌<◌}
use native.Mathlib.Omega.{arith}
use native.Mathlib.Decide.{ℕ_discrete}
use mathlib.Core.Path.{◌≡◌, refl, sym, ap, ap₂, subst, ◌∙◌}
use mathlib.Core.List.{List}
use mathlib.Core.Logic.{◌↔◌}
use mathlib.Core.Bool.{Bool, true, false, not}
use lib.ListN.{length, take}
use borrow.Author.Tests.{ltb-true}
use Rattle.base_lists.proofs.Finding.{first_below, first_passes, first_unique}
use Rattle.value_text.specs.text.Texts.{printable}
use Rattle.format_code.specs.declared.Code.{Code}
use Rattle.format_code.specs.declared.Code.TheVariants as code
use Rattle.format_code.specs.Codes.{code_of}
use Rattle.value_text.specs.printable.Bytes.{bad_at, first_bad}
use Rattle.format_layout.specs.declared.Form.{Form}
use Rattle.card_field.proofs.seeking.Bytes.{none-bad}
use Rattle.card_check.specs.Judging.{offence_at, verdict_from, code_verdict, verdict_of}
use Rattle.card_check.proofs.Leftmost.{decides, skips, ends}
use Rattle.card_check.proofs.Verdicts.{same_number_lem, same_column, not_fine, first-offence, fine_everywhere}
use Rattle.card_check.proofs.Ways.{verdict_empty, verdict_odd, verdict_bad, verdict_coded}
use Rattle.card_laws.specs.exactly.Offences.{Sound, BadByte, Leftmost, Offends, empty, size, byte, unknown, column, IsFine, passed, read}
use Rattle.card_laws.proofs.exactly.Way.{bad-byte}
use Rattle.std.specs.Prelude.{Err}
use Rattle.base_refusal.specs.Refusals.{no_refusal}
use Rattle.card_check.specs.Verdicts.{offending}

-- the leftmost column with an offence is the verdict from column 6 on
module _ (offence : ℕ → ℕ) where
  pub from_leftmost : (n d : ℕ) → Leftmost offence n d → verdict_from offence 6 ≡ Err (offending n d)
  from_leftmost n d l =
      let q : 6 + (d - 6) ≡ d = omega (arith, l.from) in
      skips offence (d - 6) 6 (omega (arith, l.from, l.on_card)) (λ j a b. l.none_before j a (omega (arith, l.from)))
      ∙ ap (verdict_from offence) q
      ∙ decides offence d l.on_card (λ z. l.some (sym l.number ∙ z))
      ∙ ap (λ m. Err (offending m d)) l.number

  pub to_leftmost : (n d : ℕ) → verdict_from offence 6 ≡ Err (offending n d) → Leftmost offence n d
  to_leftmost n d e =
      let f = first-offence offence 6 n d (omega arith) e in
      record { from = f.from; on_card = f.on_card; number = f.number; some = f.some; none_before = f.none_before }

  pub from-none : ((c : ℕ) → 6 ≤ c → c ≤ 80 → offence c ≡ 0) → verdict_from offence 6 ≡ no_refusal
  from-none h = skips offence 75 6 (omega arith) (λ j a b. h j a (omega arith)) ∙ ends offence

module _ (s : List ℕ) (form : Form) where
  -- the verdict on a sound card is that on its code and columns
  pub sound_verdict : Sound s → (c : Code) → code_of (take 5 s) ≡ c → verdict_of s form ≡ code_verdict c form s
  sound_verdict h c q =
      verdict_coded s form h.whole (first_bad s) refl (omega (arith, none-bad s h.printed, h.whole)) c q

  byte_verdict : (d : ℕ) → BadByte s d → verdict_of s form ≡ Err (offending 4 d)
  unfolding first_bad
  byte_verdict d b =
      let q : first_bad s ≡ b.place = first_unique (bad_at s) (length s) b.place (omega (arith, b.whole, b.on_card))
      b.bad b.none_before in
      verdict_bad s form b.whole b.place (sym q) b.on_card ∙ ap (λ (m : ℕ). Err (offending 4 m)) (sym b.column)

  first-bad : length s ≡ 80 → printable s ≡ false → BadByte s (first_bad s + 1)
  unfolding first_bad
  first-bad whole h =
      let l : first_bad s < 80 = ltb-true (first_bad s) 80 (bad-byte s whole ∙ ap not h) in
      record {
        whole = whole;
        place = first_bad s;
        column = refl;
        on_card = l;
        bad = first_passes (bad_at s) (length s) (omega arith);
        none_before = λ i b. first_below (bad_at s) (length s) i b;
      }

  -- the length, the bytes, and then the code decide
  data Way : Type 0 where
    nothing : length s ≡ 0 → Way
    odd : (length s ≡ 0 → ⊥) → (length s ≡ 80 → ⊥) → Way
    bad : BadByte s (first_bad s + 1) → Way
    code_is : Sound s → (c : Code) → code_of (take 5 s) ≡ c → Way

  way : Way
  way = elim (ℕ_discrete (length s) 80) [
    | yes whole ↦ go whole (printable s) refl
    | no h ↦ elim (ℕ_discrete (length s) 0) [ yes e ↦ nothing e | no e ↦ odd e h ]
  ]
    where
      go : length s ≡ 80 → (b : Bool) → printable s ≡ b → Way
      go whole true q = code_is (record { whole = whole; printed = q }) (code_of (take 5 s)) refl
      go whole false q = bad (first-bad whole q)

  to-offends : (n d : ℕ) → Way → verdict_of s form ≡ Err (offending n d) → Offends s form n d
  unfolding code_verdict
  to-offends n d (nothing h) e =
      let o = sym (verdict_empty s form h) ∙ e in
      empty h (sym (same_number_lem 1 n 0 d o)) (sym (same_column 1 n 0 d o))
  to-offends n d (odd some h) e =
      let o = sym (verdict_odd s form some h) ∙ e in
      size some h (sym (same_number_lem 2 n 0 d o)) (sym (same_column 2 n 0 d o))
  to-offends n d (bad b) e =
      let o = sym (byte_verdict (first_bad s + 1) b) ∙ e in
      byte (subst (BadByte s) (sym (sym (same_column 4 n (first_bad s + 1) d o))) b) (sym (same_number_lem 4 n (first_bad s + 1) d o))
  to-offends n d (code_is h code.Unknown q) e =
      let o = sym (sound_verdict h code.Unknown q) ∙ e in
      unknown h q (sym (same_number_lem 5 n 1 d o)) (sym (same_column 5 n 1 d o))
  to-offends n d (code_is h code.Passed q) e = absurd (not_fine n d (sym (sound_verdict h code.Passed q) ∙ e))
  to-offends n d (code_is h (code.Read k) q) e =
      column h k q (to_leftmost (offence_at k form s) n d (sym (sound_verdict h (code.Read k) q) ∙ e))

  from-offends : (n d : ℕ) → Offends s form n d → verdict_of s form ≡ Err (offending n d)
  unfolding code_verdict
  from-offends n d (empty h p q) = verdict_empty s form h ∙ ap₂ (λ (a b : ℕ). Err (offending a b)) (sym p) (sym q)
  from-offends n d (size some h p q) = verdict_odd s form some h ∙ ap₂ (λ (a b : ℕ). Err (offending a b)) (sym p) (sym q)
  from-offends n d (byte b p) = byte_verdict d b ∙ ap (λ m. Err (offending m d)) (sym p)
  from-offends n d (unknown h c p q) = sound_verdict h code.Unknown c ∙ ap₂ (λ (a b : ℕ). Err (offending a b)) (sym p) (sym q)
  from-offends n d (column h k c l) = sound_verdict h (code.Read k) c ∙ from_leftmost (offence_at k form s) n d l

  -- the verdict is number n at column d exactly when the card offends so
  pub verdict_offends : (n d : ℕ) → (verdict_of s form ≡ Err (offending n d)) ↔ Offends s form n d
  verdict_offends n d = (to-offends n d way, from-offends n d)

  to_fine : Way → verdict_of s form ≡ no_refusal → IsFine s form
  unfolding code_verdict
  to_fine (nothing h) e = absurd (not_fine 1 0 (sym e ∙ verdict_empty s form h))
  to_fine (odd some h) e = absurd (not_fine 2 0 (sym e ∙ verdict_odd s form some h))
  to_fine (bad b) e = absurd (not_fine 4 (first_bad s + 1) (sym e ∙ byte_verdict (first_bad s + 1) b))
  to_fine (code_is h code.Unknown q) e = absurd (not_fine 5 1 (sym e ∙ sound_verdict h code.Unknown q))
  to_fine (code_is h code.Passed q) e = passed h q
  to_fine (code_is h (code.Read k) q) e =
      read h k q (fine_everywhere (offence_at k form s) 6 (omega arith) (sym (sound_verdict h (code.Read k) q) ∙ e))

  from_fine : IsFine s form → verdict_of s form ≡ no_refusal
  unfolding code_verdict
  from_fine (passed h c) = sound_verdict h code.Passed c
  from_fine (read h k c none) = sound_verdict h (code.Read k) c ∙ from-none (offence_at k form s) none

  -- and it is fine exactly when no column of a known card has an offence
  pub verdict_fine : (verdict_of s form ≡ no_refusal) ↔ IsFine s form
  verdict_fine = (to_fine way, from_fine)
