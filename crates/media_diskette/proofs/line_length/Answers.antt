-- `media_diskette::line_length` meets its contract: no CR stands among the bytes that are counted.
use Rattle.std.proofs.Common.{◌≡◌, ℕ, ◌≤◌, List, length, get_or, eqb, not, ap, ◌∙◌, arith, rules, tests}
use Rattle.std.specs.List.{prefix_len}
use Rattle.std.proofs.lemmas.Iterator.{YieldsList-from_slice}
use Rattle.std.proofs.lemmas.Iterator.Consumers.{count_from_yields_List}
use Rattle.std.proofs.lemmas.Iterator.Search.{YieldsList-from_take_while}
use Rattle.std.proofs.lemmas.List.Folds.{length-prefix_len}
use Rattle.std.proofs.lemmas.List.Sums.{prefix_len_is}
use Rattle.base_lists.proofs.Finding.{first_le, first_below, first_passes}
use Rattle.media_diskette.specs.Lines.{line_length}
use Rattle.media_diskette.proofs.line_length.Goals as goal

-- the bytes before the first CR
module _ (f : List ℕ) where
  none_before : prefix_len (λ b. not (eqb b 13)) f ≡ line_length f
  unfolding line_length
  none_before =
      let p = λ (i : ℕ). eqb (get_or f i 0) 13 in
      prefix_len_is (λ b. not (eqb b 13)) f _ 0 (first_le p (length f)) (λ k h. ap not (first_below p (length f) k h))
      (λ h. ap not (first_passes p (length f) h))

  inside : line_length f ≤ length f
  unfolding line_length
  inside = first_le (λ i. eqb (get_or f i 0) 13) (length f)

pub returns : goal.returns
returns c =
    let f = c.args.file.now in
    let e : c.count.result ≡ line_length f =
    count_from_yields_List c.take_while.result _ c.count.ensures.ran (YieldsList-from_take_while _ (λ b. not (eqb b 13)) (YieldsList-from_slice f cc) c.take_while.ensures.closure c.take_while.ensures.done (λ x b q k. search (rules, tests))) ∙ length-prefix_len (λ b. not (eqb b 13)) f ∙ none_before f
    in
    (e, omega (arith, inside f))
