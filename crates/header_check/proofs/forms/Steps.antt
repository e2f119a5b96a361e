-- One step of the pass over the cards, by what the card is.
use Prim.Native.Nat.{ℕ, ◌+◌, ◌*◌, ◌-◌, ◌/◌, ◌≤◌, ◌<◌}
use native.Mathlib.Nat.{mul_comm, div-mul-le_self, mul-le-mul_right}
use native.Mathlib.Omega.{arith}
use native.Mathlib.Numerals.{add-one}
use mathlib.Core.Path.{◌≡◌, refl, sym, ap, ◌∙◌}
use mathlib.Core.List.{List}
use mathlib.Core.Bool.{Bool, true, false, cond}
use lib.Dec.{ltb}
use lib.ListN.{length, take, drop, length-take, length-drop}
use lib.Seq.{length-take-le}
use Rattle.base_lists.specs.Parts.{part}
use borrow.Author.Tests.{ne_eqb, ltb-true}
use Rattle.format_code.specs.declared.Code.{Code}
use Rattle.format_code.specs.declared.Code.TheVariants as code
use Rattle.format_code.specs.Codes.{codes, place_in, code_at, code_of}
use Rattle.format_code.proofs.Walk.{wrong_length}
use Rattle.format_layout.specs.Table.{layouts}
use Rattle.format_layout.specs.packed.Rows.{layout_count}
use Rattle.format_layout.proofs.Places.{layouts-count}
use Rattle.header_check.specs.forms.Cards.{card_at, number_of, unread, code_by, layout_of}
use Rattle.header_check.specs.packed.Notes.{note_card, notes_to}

-- a card too short for a code is not read
pub too_short : (s : List ℕ) → length s < 5 → unread + 1 ≡ layout_of s
unfolding layout_of
too_short s h = ap number_of (wrong_length (take 5 s) (λ e. omega (arith, length-take 5 s)))

pub coded : (s : List ℕ) (k : Code) (n : ℕ) → k ≡ code_of (take 5 s) → n ≡ number_of k → n ≡ layout_of s
unfolding layout_of
coded s k n e q = q ∙ ap number_of e

-- a layout's number is small
pub layout-small : (s : List ℕ) → layout_of s < 64
unfolding layout_of code_of code_at
layout-small s = go (place_in codes (take 5 s)) _ (ltb (place_in codes (take 5 s)) (length codes)) refl
  where
    go : (n : ℕ) (a b : Bool) → ltb n (length layouts) ≡ a → number_of (cond a (code.Read n) (cond b code.Passed code.Unknown)) < 64
    go n true b e = omega (arith, ltb-true n (length layouts) e, layouts-count)
    go n false true e = omega arith
    go n false false e = omega arith

-- and is that of a single code
pub code_back : (s : List ℕ) (k : ℕ) → k ≡ layout_of s → code_by k ≡ code_of (take 5 s)
unfolding layout_of code_of code_at code_by
code_back s k e = ap code_by e ∙ go (place_in codes (take 5 s)) _ (ltb (place_in codes (take 5 s)) (length codes)) refl
  where
    go : (n : ℕ) (a b : Bool) → ltb n (length layouts) ≡ a
        → code_by (number_of (cond a (code.Read n) (cond b code.Passed code.Unknown))) ≡ cond a (code.Read n) (cond b code.Passed code.Unknown)
    go n true b e =
        let l = ltb-true n (length layouts) e in
        rw (
          ne_eqb n unread (λ q. omega (arith, l, layouts-count, q)),
          ne_eqb n (unread + 1) (λ q. omega (arith, l, layouts-count, q)),
        )
    go n false true e = refl
    go n false false e = refl

pub read-code : (s : List ℕ) (k : ℕ) → k ≡ layout_of s → k < layout_count → code.Read k ≡ code_of (take 5 s)
unfolding code_by
read-code s k e l =
    sym (rw (
      ne_eqb k unread (λ q. omega (arith, l, layouts-count, q)),
      ne_eqb k (unread + 1) (λ q. omega (arith, l, layouts-count, q)),
    ))
    ∙ code_back s k e

-- one card more
pub one_more : (h t s : List ℕ) (c : ℕ) → t ≡ notes_to h c → s ≡ card_at h c
    → (r : List ℕ) → r ≡ note_card t s → r ≡ notes_to h (c + 1)
unfolding notes_to
one_more h t s c e q r f = rw (add-one, ← e, ← q) f

-- a card as a part of the header
pub card_part : (h : List ℕ) (c : ℕ) → take (c * 80 + 80 - c * 80) (drop (c * 80) h) ≡ card_at h c
unfolding card_at part
card_part h c =
    let e : c * 80 + 80 - c * 80 ≡ 80 = omega arith in
    rw (e, mul_comm c 80)

pub card_ends : (h : List ℕ) (c : ℕ) → c < length h / 80 → c * 80 + 80 ≤ length h
card_ends h c l = omega (arith, div-mul-le_self (length h) 80, mul-le-mul_right 80 l)

pub card_whole : (h : List ℕ) (c : ℕ) → c < length h / 80 → length (take (c * 80 + 80 - c * 80) (drop (c * 80) h)) ≡ 80
card_whole h c l =
    let e : c * 80 + 80 - c * 80 ≡ 80 = omega arith in
    rw e (length-take-le 80 (drop (c * 80) h) (rw length-drop (omega (arith, card_ends h c l))))
