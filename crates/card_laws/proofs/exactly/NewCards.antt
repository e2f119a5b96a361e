-- What stands on a card that was opened: 80 columns, its code, and its label.
use Prim.Native.Nat.{ℕ, ◌-◌, ◌≤◌}
use native.Mathlib.Omega.{arith}
use mathlib.Core.Path.{◌≡◌, sym, ap, ◌∙◌}
use mathlib.Core.List.{List, ◌++◌}
use mathlib.Core.Bool.{true}
use lib.ListN.{length, take, drop, length-append, replicate}
use lib.Seq.{take-append_seam, drop-append_seam}
use Rattle.base_lists.proofs.Comparing.{equal_alike}
use Rattle.format_code.specs.declared.Code.TheVariants as code
use Rattle.format_code.specs.Codes.{code_of}
use Rattle.format_layout.specs.Layouts.{label_of}
use Rattle.card_put.specs.opening.Opening.{labelled, new_card, card_with, opened_card}
use Rattle.card_check.specs.Judging.{label_stands}
use Rattle.card_put.proofs.opening.Laying.{labelled-length, card_coded, read_length}
use Rattle.format_layout.proofs.Labels.{label-fits}

module _ (t l : List ℕ) (five : length t ≡ 5) where
  pub new_length : length l ≤ 75 → length (new_card t l) ≡ 80
  unfolding new_card
  new_length h = length-append t (labelled l 75) ∙ omega (arith, labelled-length l 75 h)

  pub new_code : take 5 (new_card t l) ≡ t
  unfolding new_card
  new_code = ap (λ n. take n (t ++ labelled l 75)) (sym five) ∙ take-append_seam t (labelled l 75)

  pub new_rest : drop 5 (new_card t l) ≡ labelled l 75
  unfolding new_card
  new_rest = ap (λ n. drop n (t ++ labelled l 75)) (sym five) ∙ drop-append_seam t (labelled l 75)

-- a card opened with a read code has 80 columns, that code and its label
module _ (t s : List ℕ) (whole : length s ≡ 80) (k : ℕ) (is : code_of t ≡ code.Read k) where
  opened : opened_card t s ≡ new_card t (label_of k)
  unfolding card_with
  opened = card_coded t s whole (code.Read k) is

  pub opened_length : length (opened_card t s) ≡ 80
  opened_length = ap length opened ∙ new_length t (label_of k) (read_length t k is) (label-fits k)

  pub opened_code : code_of (take 5 (opened_card t s)) ≡ code.Read k
  opened_code = ap code_of (ap (take 5) opened ∙ new_code t (label_of k) (read_length t k is)) ∙ is

  pub opened_label : label_stands k (opened_card t s) ≡ true
  unfolding label_stands labelled
  opened_label =
      equal_alike (take (length (label_of k)) (drop 5 (opened_card t s))) (label_of k)
      (ap (λ (x : List ℕ). take (length (label_of k)) (drop 5 x)) opened
      ∙ ap (take (length (label_of k))) (new_rest t (label_of k) (read_length t k is))
      ∙ take-append_seam (label_of k) (replicate (75 - length (label_of k)) 32))
