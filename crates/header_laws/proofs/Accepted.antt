-- An accepted header has few enough cards, and they are printable.
use Prim.Native.Nat.{ℕ, ◌≤◌, ◌<◌}
use native.Mathlib.Omega.{arith}
use mathlib.Core.Path.{◌≡◌}
use mathlib.Core.Bool.{true}
use mathlib.Core.List.{List}
use Rattle.value_text.specs.text.Texts.{printable}
use Rattle.header_check.specs.forms.Cards.{card_at, cards_in}
use Rattle.card_field.proofs.seeking.Bytes.{bad-none}
use Rattle.header_check.specs.Refusing.{largest, refusal_of}
use Rattle.header_laws.proofs.Rows.{eighty, fine_exactly}
use Rattle.header_laws.proofs.Exactly.{accepted_exactly}
use Rattle.base_refusal.specs.Refusals.{no_refusal}

module _ (h : List ℕ) (accepted : refusal_of h ≡ no_refusal) where
  pub few-cards : cards_in h ≤ largest
  few-cards = ((accepted_exactly h).0 accepted).0.few

  pub printed : (c : ℕ) → c < cards_in h → printable (card_at h c) ≡ true
  printed c l =
      let fine = ((accepted_exactly h).0 accepted).1 c (omega arith) in
      let clean = (fine_exactly h c l).0 fine in
      bad-none (card_at h c) (omega (arith, clean.printable, eighty h c l))
