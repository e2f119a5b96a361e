-- `value_text::printable::first_bad` meets its contract.
use Rattle.std.proofs.Common.{ℕ, rules, tests, length, leb, ◌&&◌, ap, ◌∙◌, not}
use Rattle.std.specs.Prelude.{unwrap_or}
use Rattle.std.proofs.lemmas.Iterator.{YieldsList-from_slice}
use Rattle.std.proofs.lemmas.Iterator.Search.{position_from_yields_List}
use Rattle.base_lists.proofs.Finding.{first_place}
use Rattle.value_text.specs.printable.Bytes.{first_bad}
use Rattle.value_text.proofs.printable.Rows.{all_good}
use Rattle.value_text.proofs.printable.first_bad.Goals as goal

pub returns-then-all_good : goal.returns-then-all_good
returns-then-all_good c = all_good c.args.s.now _ c.all_good.ensures c.if-all_good.true

pub returns : goal.returns
unfolding first_bad
returns c =
    let s = c.args.s.now in
    let bad = λ (b : ℕ). not (leb 32 b && leb b 126) in
    c.unwrap_or.ensures
    ∙ ap (λ o. unwrap_or o (length s)) (position_from_yields_List bad _ _ _ c.position.ensures.ran (YieldsList-from_slice s cc) (λ x b q k. search (rules, tests)))
    ∙ first_place bad s 0
