-- `volume_check::covering::is_mixed` meets its contract.
use mathlib.Core.Path.{refl, ap, ◌∙◌, ◌≡◌}
use Prim.Native.Nat.{◌/◌}
use lib.ListN.{length}
use Rattle.std.proofs.Common.{rules, tests, nat_eq}
use Rattle.std.specs.List.{starts_with}
use Rattle.std.proofs.lemmas.Iterator.Search.{any_from_yields_List}
use Rattle.volume_form.specs.declared.Form.{Form}
use Rattle.volume_form.specs.declared.Form.TheVariants.{Old, Wide}
use Rattle.volume_form.specs.Rows.{row_of}
use Rattle.volume_rules.specs.Sound.{mixed}
use Rattle.volume_check.proofs.Chunks.{YieldsList-from_cards, mixed_any}
use Rattle.volume_check.proofs.covering.is_mixed.Goals as goal

code_long : (form : Form) → length (row_of form).other ≡ 5
unfolding row_of
code_long Old = refl
code_long Wide = refl

pub returns : goal.returns
returns c =
    let d = c.args.directory.now in
    let is = c.other_code-other.ensures in
    any_from_yields_List (λ card. starts_with nat_eq card c.other_code-other.result) _ _ _ c.any.ensures.ran
    (YieldsList-from_cards d c.chunks_exact.ensures.rest c.chunks_exact.ensures.size) (λ x b q k. search (rules, tests))
    ∙ mixed_any _ (ap length is ∙ code_long c.args.form) (length d / 80) d ∙ ap (λ o. mixed o d (length d / 80)) is
