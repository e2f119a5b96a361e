-- A flag at a card is there, stays, and changes nothing of what the notes tell.
use Prim.Native.Nat.{ℕ, ◌+◌, ◌%◌, ◌<◌}
use native.Mathlib.Decide.{ℕ_discrete, dec_lt}
use native.Mathlib.Omega.{arith}
use mathlib.Core.Path.{◌≡◌, refl, sym, ap, ◌∙◌}
use mathlib.Core.Bool.{Bool, true, false, cond}
use mathlib.Core.List.{List}
use lib.ListN.{length, get_or, length-set}
use lib.Seq.{set_out, get_or-set_same, get_or-set_other}
use borrow.Author.Tests.{le-leb, lt-leb, leb-false}
use Rattle.header_check.specs.packed.Noted.{layout_in, is_sure, is_flagged, with_flag, flagged, Noted}

-- the note of a card
module _ (note : ℕ) where
  same_layout : layout_in (with_flag note) ≡ layout_in note
  unfolding with_flag is_flagged
  same_layout = go (is_flagged note) refl
    where
      go : (b : Bool) → is_flagged note ≡ b → layout_in (cond b note (note + 64)) ≡ layout_in note
      go true e = refl
      go false e = omega (arith, leb-false 64 (note % 128) e)

  same_sure : is_sure (with_flag note) ≡ is_sure note
  unfolding with_flag is_flagged
  same_sure = go (is_flagged note) refl
    where
      go : (b : Bool) → is_flagged note ≡ b → is_sure (cond b note (note + 64)) ≡ is_sure note
      go true e = refl
      go false e =
          let l = leb-false 64 (note % 128) e in
          elim (dec_lt note 128) [
            | yes m ↦ lt-leb 128 (note + 64) (omega (arith, l, m)) ∙ sym (lt-leb 128 note m)
            | no m ↦ le-leb 128 (note + 64) (omega arith) ∙ sym (le-leb 128 note (omega arith))
          ]

  has_flag : is_flagged (with_flag note) ≡ true
  unfolding with_flag is_flagged
  has_flag = go (is_flagged note) refl
    where
      go : (b : Bool) → is_flagged note ≡ b → is_flagged (cond b note (note + 64)) ≡ true
      go true e = e
      go false e = le-leb 64 ((note + 64) % 128) (omega (arith, leb-false 64 (note % 128) e))

-- all notes
module _ (cards : List ℕ) (c : ℕ) where
  pub length-flagged : length (flagged cards c) ≡ length cards
  unfolding flagged
  length-flagged = length-set cards c (with_flag (get_or cards c 0))

  beyond : (c < length cards → ⊥) → flagged cards c ≡ cards
  unfolding flagged
  beyond n = set_out cards c (with_flag (get_or cards c 0)) (omega arith)

  here : c < length cards → get_or (flagged cards c) c 0 ≡ with_flag (get_or cards c 0)
  unfolding flagged
  here below = get_or-set_same cards c (with_flag (get_or cards c 0)) 0 below

  elsewhere : (i : ℕ) → (c ≡ i → ⊥) → get_or (flagged cards c) i 0 ≡ get_or cards i 0
  unfolding flagged
  elsewhere i n = get_or-set_other cards c i (with_flag (get_or cards c 0)) 0 (λ e. n (sym e))

  pub flag_here : c < length cards → is_flagged (get_or (flagged cards c) c 0) ≡ true
  flag_here below = ap is_flagged (here below) ∙ has_flag (get_or cards c 0)

  pub flag-stays : (i : ℕ) → is_flagged (get_or cards i 0) ≡ true → is_flagged (get_or (flagged cards c) i 0) ≡ true
  flag-stays i h = elim (dec_lt c (length cards)) [
    | yes l ↦ elim (ℕ_discrete c i) [
      | yes q ↦ ap (λ j. is_flagged (get_or (flagged cards c) j 0)) (sym q) ∙ flag_here l
      | no q ↦ ap is_flagged (elsewhere i q) ∙ h
    ]
    | no l ↦ ap (λ (x : List ℕ). is_flagged (get_or x i 0)) (beyond l) ∙ h
  ]

  -- what does not depend on the flag
  stays {ℓ} : {A : Type ℓ} (f : ℕ → A) → ((note : ℕ) → f (with_flag note) ≡ f note) → (i : ℕ)
      → f (get_or (flagged cards c) i 0) ≡ f (get_or cards i 0)
  stays f same i = elim (dec_lt c (length cards)) [
    | yes l ↦ elim (ℕ_discrete c i) [
      | yes q ↦ ap (λ j. f (get_or (flagged cards c) j 0)) (sym q) ∙ ap f (here l) ∙ same (get_or cards c 0) ∙ ap (λ j. f (get_or cards j 0)) q
      | no q ↦ ap f (elsewhere i q)
    ]
    | no l ↦ ap (λ (x : List ℕ). f (get_or x i 0)) (beyond l)
  ]

pub flagged-noted : (h cards : List ℕ) (n c : ℕ) → Noted h n cards → Noted h n (flagged cards c)
flagged-noted h cards n c w = record {
  room = length-flagged cards c ∙ w.room;
  layouts_are = λ i m. stays cards c layout_in same_layout i ∙ w.layouts_are i m;
  sures_are = λ i m. stays cards c is_sure same_sure i ∙ w.sures_are i m;
}
