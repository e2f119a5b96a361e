-- The places that define the number of a key are those that define the key, where the cards are printable.
use Prim.Native.Nat.{ℕ, zero, suc, ◌+◌, ◌*◌, ◌/◌, ◌%◌, ◌<◌}
use native.Mathlib.Omega.{arith}
use mathlib.Core.Path.{◌≡◌, refl, ◌∙◌}
use mathlib.Core.Bool.{Bool, true, false, ◌&&◌}
use mathlib.Core.List.{List}
use Rattle.base_lists.proofs.Counting.{count_same, count_none}
use lib.Dec.{eqb, ltb}
use borrow.Author.Tests.{ne_eqb}
use Rattle.base_lists.specs.Count.{count}
use Rattle.value_text.specs.text.Texts.{printable}
use Rattle.header_check.specs.forms.Cards.{card_at, cards_in, layout_of}
use Rattle.tie_rules.specs.Ties.{defines}
use Rattle.tie_rules.specs.packed.Rows.{packed_by}
use Rattle.tie_rules.specs.packed.Numbers.{packed}
use Rattle.tie_rules.proofs.key_laws.Told.{defines-packed}
use Rattle.tie_rules.specs.Definitions.{places, card_of, column_of, defined_at, definitions_of}
use Rattle.tie_lookup.specs.packed.Borne.{bears, bears_at, only_of}
use Rattle.tie_lookup.proofs.search.OnlyOne.{only_same}

module _ (h : List ℕ) (printed : (c : ℕ) → c < cards_in h → printable (card_at h c) ≡ true)
    (class : ℕ) (key : List ℕ) (number : ℕ) (is : number ≡ packed class key) where
  same : (p : ℕ) → p < 80 * cards_in h → defined_at h class key p ≡ bears_at h number p
  unfolding defined_at card_of column_of bears_at bears
  same p l = defines-packed (card_at h (p / 80)) (p % 80 + 1) (printed (p / 80) (omega arith)) class key ∙ rw is

  pub definitions_counted : definitions_of h class key ≡ count (bears_at h number) (80 * cards_in h)
  unfolding definitions_of places
  definitions_counted = count_same (defined_at h class key) (bears_at h number) (80 * cards_in h) same

  pub only_defined : only_of (defined_at h class key) (places h) ≡ only_of (bears_at h number) (80 * cards_in h)
  unfolding places
  only_defined = only_same (defined_at h class key) (bears_at h number) (80 * cards_in h) same

and_false : (b : Bool) → (b && false) ≡ false
and_false true = refl
and_false false = refl

-- no place defines the number 0
pub none-counted : (h : List ℕ) → count (bears_at h 0) (80 * cards_in h) ≡ 0
unfolding bears_at bears
none-counted h = count_none (bears_at h 0) (80 * cards_in h) (λ p l. go (packed_by defines (layout_of (card_at h (p / 80))) (card_at h (p / 80)) (p % 80 + 1)))
  where
    go : (n : ℕ) → (ltb 0 n && eqb n 0) ≡ false
    go zero = refl
    go (suc n) = rw (ne_eqb (suc n) 0 (λ e. omega arith)) (and_false (ltb 0 (suc n)))
