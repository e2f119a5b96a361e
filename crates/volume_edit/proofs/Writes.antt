-- The four writings leave the buffer as `appended` says.
use Prim.Native.Nat.{ℕ, ◌+◌, ◌-◌, ◌*◌, ◌/◌, ◌^◌, ◌≤◌, ◌<◌}
use native.Mathlib.Omega.{arith}
use mathlib.Core.Path.{◌≡◌, refl, sym, ap, ap₂, ◌∙◌}
use mathlib.Core.List.{List, ◌++◌}
use lib.ListN.{length, take, drop, length-drop, take-append-drop}
use lib.Seq.{length-take-le, drop-drop}
use Rattle.volume_form.specs.Moved.{laid_at, moved}
use Rattle.volume_form.specs.declared.Form.{Form}
use Rattle.volume_form.specs.Rows.{row_of}
use Rattle.volume_form.specs.Marked.{entry_card, trailer_card}
use Rattle.header_check.specs.forms.Cards.{cards_in}
use Rattle.volume_rules.specs.Appended.{appended}
use Rattle.volume_form.proofs.Cards.{good_row, length-entry, length-trailer}
use Rattle.volume_rules.proofs.Appending.{four_writes}
use Rattle.volume_edit.specs.Written.{Fits}

-- four writings on a list given by its parts, at places that are told as numbers
at_places : (s b d x h e t : List ℕ) (p q m : ℕ) → s ≡ b ++ (d ++ x) → length b ≡ p → length d ≡ q → length e ≡ m → length h ≤ length (d ++ x)
    → laid_at (laid_at (laid_at (moved s p (p + length h) q) p h) (p + length h + q) e) (p + length h + q + m) t
    ≡ b ++ (h ++ (d ++ (e ++ (t ++ drop (length h + length e + length t) x))))
at_places s b d x h e t p q m is i j k room = rw (is, ← i, ← j, ← k) (four_writes b d x h e t room)

module _ (form : Form) (first k : ℕ) (h s : List ℕ) (fits : Fits form first k h s) where
  n : ℕ
  n = cards_in h

  pub writes : (u e t r : List ℕ)
      → u ≡ laid_at (moved s (80 * (first - 1)) (80 * (first - 1) + length h) (80 * k)) (80 * (first - 1)) h
      → e ≡ entry_card (row_of form) h first (length h / 80)
      → t ≡ trailer_card (row_of form) (first + length h / 80) (k + 1)
      → r ≡ laid_at (laid_at u (80 * (first - 1) + length h + 80 * k) e) (80 * (first - 1) + length h + 80 * k + length e) t
      → r ≡ appended (row_of form) first k h s
  unfolding appended cards_in
  writes u e t r u-is e-is t-is r-is =
      let c : ℕ = length h / 80 in
      let p : ℕ = 80 * (first - 1) in
      let q : ℕ = 80 * k in
      let f = row_of form in
      let o : 1 ≤ first = fits.least in
      let w : length h ≡ 80 * c = fits.whole in
      let room : 80 * (first + c + k + 1) ≤ length s = fits.room in
      let some : 1 ≤ c = fits.some in
      let small : first + c + k + 1 < 10 ^ f.width = fits.small in
      let e_long : length e ≡ 80 = ap length e-is ∙ length-entry f (good_row form) first c (omega arith) (omega arith) h (omega arith) in
      let t_long : length t ≡ 80 = ap length t-is ∙ length-trailer f (good_row form) (first + c) (k + 1) (omega arith) (omega arith) in
      let b : List ℕ = take p s in
      let y : List ℕ = drop p s in
      let d : List ℕ = take q y in
      let x : List ℕ = drop q y in
      let y-long : length y ≡ length s - p = length-drop p s in
      let is : s ≡ b ++ (d ++ x) = sym (ap (λ l. b ++ l) (take-append-drop q y) ∙ take-append-drop p s) in
      let b_long : length b ≡ p = length-take-le p s (omega arith) in
      let d_long : length d ≡ q = length-take-le q y (omega arith) in
      let all : length (d ++ x) ≡ length y = ap length (take-append-drop q y) in
      let z : p + (q + (length h + length e + length t)) ≡ 80 * (first + c + k + 1) = omega arith in
      let back : drop (length h + length e + length t) x ≡ drop (80 * (first + c + k + 1)) s =
      drop-drop (length h + length e + length t) q y ∙ drop-drop (q + (length h + length e + length t)) p s ∙ ap (λ i. drop i s) z in
      r-is
      ∙ ap (λ l. laid_at (laid_at l (p + length h + q) e) (p + length h + q + length e) t) u-is
      ∙ at_places s b d x h e t p q (length e) is b_long d_long refl (omega arith)
      ∙ ap (λ l. b ++ (h ++ (d ++ (e ++ (t ++ l))))) back
      ∙ ap₂ (λ l m. b ++ (h ++ (d ++ (l ++ (m ++ drop (80 * (first + c + k + 1)) s))))) e-is t-is
