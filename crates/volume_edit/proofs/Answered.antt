-- The answers of a conversion and of compacting, by what was judged.
use Prim.Native.Nat.{ℕ, ◌+◌, ◌*◌}
use mathlib.Core.Path.{◌≡◌, sym, ap, ◌∙◌}
use mathlib.Core.List.{List, ◌++◌}
use lib.ListN.{length, take, drop}
use Rattle.base_refusal.specs.declared.Refusal.{Refusal}
use Rattle.header_check.specs.forms.Cards.{cards_in}
use Rattle.volume_form.specs.Rows.{Row}
use Rattle.volume_rules.specs.Volume.{joined, volume_of}
use Rattle.volume_rules.specs.Sound.{headers_of}
use Rattle.volume_rules.specs.Judged.{volume_answer}
use Rattle.volume_rules.specs.Converted.{convert_checked}
use Rattle.volume_rules.specs.Latest.{latest, compacted}
use Rattle.volume_rules.specs.SameLine.{same_line}
use Rattle.volume_edit.specs.Written.{cards_by, convert_answer, compact_answer, compacted_by, left_by}
use Rattle.std.specs.Prelude.{Ok, Err}
use Rattle.base_refusal.specs.Refusals.{no_refusal}

module _ (f : Row) (n : ℕ) (s : List ℕ) where
  abbrev hs : List (List ℕ)
  hs = headers_of f n (take (80 * n) s)

  abbrev k : ℕ
  k = cards_in (joined (latest same_line hs)) + length (latest same_line hs) + 1

  pub compact_done : volume_answer f n s ≡ no_refusal → (m : ℕ) (r : List ℕ) → m ≡ k → r ≡ compacted same_line f hs s
      → (Ok m ≡ compact_answer f n s) × (r ≡ compacted_by f (compact_answer f n s) hs s)
  unfolding compact_answer
  compact_done e m r m-is r-is =
      (ap Ok m-is ∙ sym (ap (λ a. cards_by a k) e), r-is ∙ sym (ap (λ a. compacted_by f (cards_by a k) hs s) e))

  pub compact_refused : (r : Refusal) → volume_answer f n s ≡ Err r
      → (Err r ≡ compact_answer f n s) × (s ≡ compacted_by f (compact_answer f n s) hs s)
  unfolding compact_answer
  compact_refused r e = (sym (ap (λ a. cards_by a k) e), sym (ap (λ a. compacted_by f (cards_by a k) hs s) e))

module _ (f g : Row) (n : ℕ) (s : List ℕ) where
  pub convert_done : convert_checked f g n s ≡ no_refusal → (m : ℕ) (r : List ℕ) → m ≡ n
      → r ≡ volume_of g (headers_of f n (take (80 * n) s)) ++ drop (80 * n) s
      → (Ok m ≡ convert_answer f g n s) × (r ≡ left_by g (convert_answer f g n s) (headers_of f n (take (80 * n) s)) s)
  unfolding convert_answer
  convert_done e m r m-is r-is =
      (ap Ok m-is ∙ sym (ap (λ a. cards_by a n) e), r-is ∙ sym (ap (λ a. left_by g (cards_by a n) (headers_of f n (take (80 * n) s)) s) e))

  pub convert_refused : (r : Refusal) → convert_checked f g n s ≡ Err r
      → (Err r ≡ convert_answer f g n s) × (s ≡ left_by g (convert_answer f g n s) (headers_of f n (take (80 * n) s)) s)
  unfolding convert_answer
  convert_refused r e = (sym (ap (λ a. cards_by a n) e), sym (ap (λ a. left_by g (cards_by a n) (headers_of f n (take (80 * n) s)) s) e))
