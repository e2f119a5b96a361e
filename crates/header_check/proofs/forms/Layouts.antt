-- A card's note tells its layout and whether the screen is sure of it; one note more, up to all of them.
use Prim.Native.Nat.{ℕ, zero, suc, ◌+◌, ◌*◌, ◌≤◌, ◌<◌}
use native.Mathlib.Decide.{ℕ_discrete}
use native.Mathlib.Numerals.{add-one}
use native.Mathlib.Omega.{arith}
use mathlib.Core.Path.{◌≡◌, refl, sym, ap, ◌∙◌}
use mathlib.Core.Bool.{Bool, true, false}
use mathlib.Core.List.{List}
use lib.Dec.{leb}
use lib.ListN.{length, get_or, set, length-set}
use lib.Seq.{get_or-set_same, get_or-set_other}
use borrow.Author.Tests.{le-leb, lt-leb}
use Rattle.base_lists.specs.Count.{bit}
use Rattle.card_screen.specs.Roles.{sure}
use Rattle.header_check.specs.forms.Cards.{card_at, layout_of}
use Rattle.header_check.specs.Refusing.{largest}
use Rattle.header_check.specs.packed.Noted.{card_note, layout_in, is_sure, Noted, noted_to}
use Rattle.header_check.proofs.forms.Steps.{layout-small}

-- the note of a card
module _ (s : List ℕ) (k : ℕ) (e : k ≡ layout_of s) where
  pub fits_note : k < 64
  fits_note = omega (arith, e, layout-small s)

  noted_as : (b : Bool) → sure k s ≡ b → k + 128 * bit b ≡ card_note s
  unfolding card_note
  noted_as b q = rw (← e, q)

  pub note_sure : sure k s ≡ true → 128 + k ≡ card_note s
  note_sure q = omega (arith, noted_as true q)

  pub note_unsure : sure k s ≡ false → k ≡ card_note s
  note_unsure q = omega (arith, noted_as false q)

-- and what it tells
told-layout : (s : List ℕ) → layout_in (card_note s) ≡ layout_of s
unfolding card_note
told-layout s = go (sure (layout_of s) s)
  where
    go : (b : Bool) → layout_in (layout_of s + 128 * bit b) ≡ layout_of s
    go true = omega (arith, layout-small s)
    go false = omega (arith, layout-small s)

told-sure : (s : List ℕ) → is_sure (card_note s) ≡ sure (layout_of s) s
unfolding card_note
told-sure s = go (sure (layout_of s) s)
  where
    go : (b : Bool) → leb 128 (layout_of s + 128 * bit b) ≡ b
    go true = le-leb 128 (layout_of s + 128 * 1) (omega arith)
    go false = lt-leb 128 (layout_of s + 128 * 0) (omega (arith, layout-small s))

module _ (h old : List ℕ) where
  pub none-noted : old ≡ noted_to h old 0
  unfolding noted_to
  none-noted = refl

  pub noted_more : (cards : List ℕ) (c note : ℕ) → cards ≡ noted_to h old c → note ≡ card_note (card_at h c)
      → set cards c note ≡ noted_to h old (c + 1)
  unfolding noted_to
  noted_more cards c note e q = rw (add-one, e, q)

  pub length-noted : (n : ℕ) → length (noted_to h old n) ≡ length old
  unfolding noted_to
  length-noted zero = refl
  length-noted (suc n) = length-set (noted_to h old n) n (card_note (card_at h n)) ∙ length-noted n

  module _ (room : length old ≡ largest) where
    note_at_lem : (n : ℕ) → n ≤ largest → (c : ℕ) → c < n → get_or (noted_to h old n) c 0 ≡ card_note (card_at h c)
    unfolding noted_to
    note_at_lem zero few c l = absurd (omega arith)
    note_at_lem (suc n) few c l = elim (ℕ_discrete n c) [
      | yes q ↦
          ap (λ j. get_or (set (noted_to h old n) n (card_note (card_at h n))) j 0) (sym q)
          ∙ get_or-set_same (noted_to h old n) n (card_note (card_at h n)) 0 (omega (arith, length-noted n, room, few))
          ∙ ap (λ j. card_note (card_at h j)) q
      | no q ↦
          get_or-set_other (noted_to h old n) n c (card_note (card_at h n)) 0 (λ r. q (sym r))
          ∙ note_at_lem n (omega (arith, few)) c (omega (arith, l, q))
    ]

    -- so the array tells of all cards
    pub all_noted : (cards : List ℕ) (n : ℕ) → cards ≡ noted_to h old n → n ≤ largest → Noted h n cards
    all_noted cards n e few = rw e (record {
      room = length-noted n ∙ room;
      layouts_are = λ c l. ap layout_in (note_at_lem n few c l) ∙ told-layout (card_at h c);
      sures_are = λ c l. ap is_sure (note_at_lem n few c l) ∙ told-sure (card_at h c);
    })
