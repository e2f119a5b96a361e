-- An append that is judged well can be written, and leaves the volume with a header more.
use Prim.Native.Nat.{ℕ, ◌+◌, ◌-◌, ◌*◌, ◌/◌, ◌^◌, ◌≤◌, ◌<◌}
use native.Mathlib.Nat.{pow-le-pow_right}
use native.Mathlib.Omega.{arith}
use mathlib.Core.Path.{◌≡◌, refl, sym, ap, ap₂, ◌∙◌}
use mathlib.Core.Bool.{Bool, true, false}
use mathlib.Core.List.{List, [], ◌∷◌, ◌++◌}
use lib.ListN.{length, take, drop, take-append-drop}
use lib.Seq.{drop-drop}
use borrow.Author.Tests.{eq-eqb, ne_eqb}
use Rattle.base_refusal.specs.declared.Refusal.{Refusal}
use Rattle.base_refusal.specs.Refusals.{refusal, no_refusal}
use Rattle.header_check.specs.forms.Cards.{cards_in}
use Rattle.volume_form.specs.declared.Form.{Form}
use Rattle.volume_form.specs.Moved.{laid_at}
use Rattle.volume_form.specs.Rows.{Row, row_of}
use Rattle.volume_form.specs.Marked.{trailer_card}
use Rattle.volume_form.proofs.Cards.{Good, good_row, most-small, length-trailer}
use Rattle.volume_rules.specs.Volume.{joined, directory, volume_of, Wholes}
use Rattle.volume_rules.specs.Sound.{first_of, headers_of}
use Rattle.volume_rules.specs.Appended.{appended}
use Rattle.volume_rules.specs.Judged.{stated, header_answer, volume_answer, Holds}
use Rattle.volume_rules.proofs.Promises.{total}
use Rattle.volume_rules.proofs.Covering.{back}
use Rattle.volume_rules.proofs.Exactly.{first-is, volume_long}
use Rattle.volume_rules.proofs.Appending.{appended_volume}
use Rattle.volume_rules.proofs.Judging.{Stated, stated_so, Taken, header_taken, then_passed, unless-passed, accepted_volume, taken_wholes}
use Rattle.volume_check.specs.Steps as steps
use Rattle.volume_check.proofs.Placing.{trailed, held, count-is}
use Rattle.volume_check.proofs.judging.Parts.{least, before_last}
use Rattle.volume_edit.specs.Written.{Fits, room_answer, append_checked, cards_by, append_answer, empty_answer, left_by}
use Rattle.std.specs.Prelude.{Result, Ok, Err, ⊤}

-- what is known of an append that is judged well
pub record May (f : Row) (n : ℕ) (buffer h : List ℕ) : Type 0 where
  pub volume : volume_answer f n buffer ≡ no_refusal
  pub header : header_answer f h ≡ no_refusal
  pub room : Stated f (n + cards_in h + 1) (cards_in buffer)

pub may_append : (f : Row) (n : ℕ) (buffer h : List ℕ) → append_checked f n buffer h ≡ no_refusal → May f n buffer h
unfolding append_checked room_answer
may_append f n buffer h e =
    let a = then_passed (volume_answer f n buffer) _ e in
    let b = then_passed (header_answer f h) _ a.1 in
    let c = unless-passed (stated f (n + cards_in h + 1) (cards_in buffer)) 20 no_refusal b.1 in
    record { volume = a.0; header = b.0; room = stated_so f (n + cards_in h + 1) (cards_in buffer) c.0 }

module _ (form : Form) (n : ℕ) (buffer h : List ℕ) (may : append_checked (row_of form) n buffer h ≡ no_refusal) where
  abbrev f : Row
  f = row_of form

  abbrev v : List ℕ
  v = take (80 * n) buffer

  abbrev hs : List (List ℕ)
  hs = headers_of (row_of form) n v

  good : Good (row_of form)
  good = good_row form

  m : May (row_of form) n buffer h
  m = may_append (row_of form) n buffer h may

  new : Taken (row_of form) h
  new = header_taken (row_of form) h m.header

  is : Holds (row_of form) n buffer hs
  is = accepted_volume (row_of form) good n buffer m.volume

  ws : Wholes hs
  ws = taken_wholes (row_of form) hs is.accepted

  fits : total hs < 10 ^ (row_of form).width
  fits = omega (arith, is.cards, is.few, good.roomy)

  pub first-least : 1 ≤ first_of (row_of form) n v
  first-least = least (row_of form) n v (trailed (row_of form) good n buffer m.volume)

  pub first-within : first_of (row_of form) n v ≤ n
  first-within = before_last (row_of form) n v (trailed (row_of form) good n buffer m.volume)

  -- the volume's own cards
  pub may_cards : steps.Cards n v
  may_cards = (trailed (row_of form) good n buffer m.volume).cards

  pub may_held : 80 * n ≤ length buffer
  may_held = held (row_of form) good n buffer m.volume

  pub may_count : n + length h / 80 + 1 ≤ length buffer / 80
  unfolding cards_in
  may_count = m.room.held

  -- it can be written
  pub may_fit : (first : ℕ) → first ≡ first_of (row_of form) n v → Fits form first (n - first) h buffer
  unfolding cards_in
  may_fit first e =
      let a : n + length h / 80 + 1 ≤ (row_of form).most = m.room.few in
      let b : n + length h / 80 + 1 ≤ length buffer / 80 = m.room.held in
      record {
        least = omega (arith, e, first-least);
        some = new.whole.some;
        whole = new.whole.whole;
        room = omega (arith, e, first-least, first-within);
        small = omega (arith, e, first-least, first-within, good.roomy);
      }

  first-told : first_of (row_of form) n v ≡ 1 + cards_in (joined hs)
  first-told = ap₂ (λ k l. first_of (row_of form) k l) is.cards is.bytes ∙ first-is (row_of form) good hs ws fits

  -- and leaves the volume with a header more, and what lay behind its trailer
  pub left_is : (first : ℕ) → first ≡ first_of (row_of form) n v → (r : List ℕ) → r ≡ appended (row_of form) first (n - first) h buffer
      → r ≡ volume_of (row_of form) (hs ++ (h ∷ [])) ++ drop (80 * (n + length h / 80 + 1)) buffer
  unfolding cards_in
  left_is first e r w =
      let k : n - first ≡ length hs = ap (λ i. n - i) e ∙ sym (count-is (row_of form) good n buffer m.volume) in
      let x : buffer ≡ volume_of (row_of form) hs ++ drop (80 * n) buffer =
      sym (take-append-drop (80 * n) buffer) ∙ ap (λ l. l ++ drop (80 * n) buffer) is.bytes in
      let b = back (row_of form) good 1 hs ws (omega (arith, fits)) in
      let z : 80 * n + 80 * (length h / 80 + 1) ≡ 80 * (n + length h / 80 + 1) = omega arith in
      w
      ∙ ap₂ (λ i j. appended (row_of form) i j h buffer) (e ∙ first-told) k
      ∙ ap (appended (row_of form) (1 + cards_in (joined hs)) (length hs) h) x
      ∙ appended_volume (row_of form) hs h (drop (80 * n) buffer) ws new.whole b.whole b.long (volume_long (row_of form) good hs ws fits)
      ∙ ap (λ l. volume_of (row_of form) (hs ++ (h ∷ [])) ++ l) (drop-drop (80 * (length h / 80 + 1)) (80 * n) buffer ∙ ap (λ i. drop i buffer) z)

-- the answers of an append, by what was judged
module _ (f : Row) (n : ℕ) (buffer h : List ℕ) (x : Result ⊤ Refusal) (told : x ≡ append_checked f n buffer h) where
  pub append-refused : (r : Refusal) → x ≡ Err r → (t : List ℕ) → t ≡ buffer
      → (Err r ≡ append_answer f n buffer h)
      × (t ≡ left_by f (append_answer f n buffer h) (headers_of f n (take (80 * n) buffer) ++ (h ∷ [])) buffer)
  unfolding append_answer
  append-refused r e t u =
      let z : append_checked f n buffer h ≡ Err r = sym told ∙ e in (
        sym (ap (λ a. cards_by a (n + cards_in h + 1)) z),
        u ∙ sym (ap (λ a. left_by f (cards_by a (n + cards_in h + 1)) (headers_of f n (take (80 * n) buffer) ++ (h ∷ [])) buffer) z),
      )

  pub append-done : x ≡ no_refusal → (k : ℕ) (t : List ℕ) → k ≡ n + length h / 80 + 1
      → t ≡ volume_of f (headers_of f n (take (80 * n) buffer) ++ (h ∷ [])) ++ drop (80 * (n + length h / 80 + 1)) buffer
      → (Ok k ≡ append_answer f n buffer h)
      × (t ≡ left_by f (append_answer f n buffer h) (headers_of f n (take (80 * n) buffer) ++ (h ∷ [])) buffer)
  unfolding append_answer cards_in
  append-done e k t i u =
      let z : append_checked f n buffer h ≡ no_refusal = sym told ∙ e in (
        ap Ok i ∙ sym (ap (λ a. cards_by a (n + length h / 80 + 1)) z),
        u ∙ sym (ap (λ a. left_by f (cards_by a (n + length h / 80 + 1)) (headers_of f n (take (80 * n) buffer) ++ (h ∷ [])) buffer) z),
      )

-- the header and the room, in turn
module _ (f : Row) (n room : ℕ) (h : List ℕ) (x : Result ⊤ Refusal) (told : x ≡ header_answer f h) where
  pub header_refused : (r : Refusal) → x ≡ Err r → x ≡ room_answer f n room h
  unfolding room_answer
  header_refused r e = rw (← told, e)

  pub room_left : x ≡ no_refusal → (t : Bool) → t ≡ stated f (n + length h / 80 + 1) room → t ≡ true → no_refusal ≡ room_answer f n room h
  unfolding room_answer cards_in
  room_left e t s q = rw (← told, e, ← s, q)

  pub no_room : x ≡ no_refusal → (t : Bool) → t ≡ stated f (n + length h / 80 + 1) room → t ≡ false
      → Err (refusal 20 0 0) ≡ room_answer f n room h
  unfolding room_answer cards_in
  no_room e t s q = rw (← told, e, ← s, q)

-- the volume, and then these
module _ (f : Row) (n : ℕ) (buffer h : List ℕ) (x : Result ⊤ Refusal) (told : x ≡ volume_answer f n buffer) where
  pub volume_refused : (r : Refusal) → x ≡ Err r → Err r ≡ append_checked f n buffer h
  unfolding append_checked
  volume_refused r e = rw (← told, e)

  pub volume_good : x ≡ no_refusal → (y : Result ⊤ Refusal) → y ≡ room_answer f n (length buffer / 80) h → y ≡ append_checked f n buffer h
  unfolding append_checked cards_in
  volume_good e y a = rw (← told, e) a

-- the number of cards of an accepted volume is small
pub few-cards : (form : Form) (n : ℕ) (buffer : List ℕ) → volume_answer (row_of form) n buffer ≡ no_refusal → n ≤ 1000000
few-cards form n buffer a =
    let few : n ≤ (row_of form).most = (accepted_volume (row_of form) (good_row form) n buffer a).few in
    omega (arith, most-small form)

-- a number of one digit has its columns
pub one_small : (form : Form) → 1 < 10 ^ (row_of form).width
one_small form = let p : 10 ^ 1 ≤ 10 ^ (row_of form).width = pow-le-pow_right (omega arith) (good_row form).some in omega arith

-- the empty volume
pub empty-is : (f : Row) → volume_of f [] ≡ trailer_card f 1 0
unfolding volume_of joined directory cards_in
empty-is f = refl

module _ (form : Form) (buffer : List ℕ) where
  pub empty-refused : length buffer / 80 ≡ 0 → (t : List ℕ) → t ≡ buffer
      → (Err (refusal 20 0 0) ≡ empty_answer buffer) × (t ≡ left_by (row_of form) (empty_answer buffer) [] buffer)
  unfolding empty_answer cards_in
  empty-refused e t u = (rw (eq-eqb (length buffer / 80) 0 e), rw (eq-eqb (length buffer / 80) 0 e) u)

  pub empty-laid : (length buffer / 80 ≡ 0 → ⊥) → (c t : List ℕ) → c ≡ trailer_card (row_of form) 1 0 → t ≡ laid_at buffer 0 c
      → (Ok 1 ≡ empty_answer buffer) × (t ≡ left_by (row_of form) (empty_answer buffer) [] buffer)
  unfolding empty_answer cards_in laid_at
  empty-laid e c t i u =
      let l : length c ≡ 80 = ap length i ∙ length-trailer (row_of form) (good_row form) 1 0 (one_small form) (omega (arith, one_small form)) in
      let z : 0 + length c ≡ 80 * 1 = omega arith in (
        rw (ne_eqb (length buffer / 80) 0 e),
        rw (ne_eqb (length buffer / 80) 0 e) (u ∙ ap (λ k. c ++ drop k buffer) z ∙ ap (λ y. y ++ drop (80 * 1) buffer) (i ∙ sym (empty-is (row_of form)))),
      )
