-- A volume brought into another form within its buffer: when it is, what is left, and the way back.
use Prim.Native.Nat.{ℕ, zero, suc, ◌*◌, ◌≤◌, ◌<◌}
use native.Mathlib.Nat.{not-suc-le-zero, le_of_suc-le-suc}
use native.Mathlib.Decide.{dec_le}
use native.Mathlib.Omega.{arith}
use mathlib.Core.Path.{◌≡◌, refl, sym, ap, ◌∙◌}
use mathlib.Core.Bool.{Bool, true, false, ◌&&◌, false≢true}
use mathlib.Core.Logic.{◌↔◌, ◌⊎◌, inl, inr}
use mathlib.Core.List.{List, [], ◌∷◌, ◌++◌}
use lib.Dec.{leb}
use lib.ListN.{length, take, drop, get_or, take-append-drop}
use lib.Seq.{take_at, drop_at}
use borrow.Author.Tests.{le-leb, leb-true}
use Rattle.base_digits.proofs.digits.Bools.{and_left, and_right}
use Rattle.base_refusal.specs.Refusals.{refusal}
use Rattle.header_check.specs.forms.Cards.{cards_in}
use Rattle.volume_form.specs.declared.Form.{Form}
use Rattle.volume_form.specs.declared.Form.TheVariants.{Old, Wide}
use Rattle.volume_form.specs.Rows.{Row, row_of}
use Rattle.volume_form.proofs.Cards.{Good, good_row}
use Rattle.volume_rules.specs.Volume.{volume_of}
use Rattle.volume_rules.specs.Sound.{headers_of}
use Rattle.volume_rules.specs.Judged.{Holds, Accepteds, form_in}
use Rattle.volume_rules.specs.Converted.{few, holds, convert_checked}
use Rattle.volume_rules.proofs.Exactly.{volume_long}
use Rattle.volume_rules.proofs.Judging.{header_taken, taken_header, taken_wholes, volume_accepted, volume_tells}
use Rattle.volume_edit.specs.Written.{convert_answer, left_by}
use Rattle.promises.specs.Rewritten.{form_answer, form_left}
use Rattle.promises.proofs.Forms.{form-told}
use Rattle.std.specs.Prelude.{Result, Ok, Err}
use Rattle.base_refusal.specs.declared.Refusal.{Refusal}

-- headers that one form takes another takes if none is too large for it
accepteds_there : (f g : Row) (hs : List (List ℕ)) → Accepteds f hs → few g.largest hs ≡ true → Accepteds g hs
unfolding few
accepteds_there f g [] a e = tt
accepteds_there f g (h ∷ hs) a e =
    let l : cards_in h ≤ g.largest = leb-true (cards_in h) g.largest (and_left (leb (cards_in h) g.largest) _ e) in (
      taken_header g h (header_taken f h a.0).accepted l,
      accepteds_there f g hs a.1 (and_right (leb (cards_in h) g.largest) _ e),
    )

few_own : (f : Row) (hs : List (List ℕ)) → Accepteds f hs → few f.largest hs ≡ true
unfolding few
few_own f [] a = refl
few_own f (h ∷ hs) a = rw (le-leb (cards_in h) f.largest (header_taken f h a.0).few) (few_own f hs a.1)

-- a buffer that begins with a volume
module _ (f : Row) (good : Good f) (n : ℕ) (buffer : List ℕ) (hs : List (List ℕ)) (is : Holds f n buffer hs) where
  pub long : length (volume_of f hs) ≡ 80 * n
  long =
      volume_long f good hs (taken_wholes f hs is.accepted) (omega (arith, is.cards, is.few, good.roomy)) ∙ ap (λ k. 80 * k) (sym is.cards)

  -- is the volume and what lies behind it
  pub whole_buffer : volume_of f hs ++ drop (80 * n) buffer ≡ buffer
  whole_buffer = ap (λ l. l ++ drop (80 * n) buffer) (sym is.bytes) ∙ take-append-drop (80 * n) buffer

  -- its own form holds it
  pub own_held : holds f n hs ≡ true
  unfolding holds
  own_held = rw (le-leb n f.most is.few) (few_own f hs is.accepted)

  module _ (g : Row) where
    answer_done : holds g n hs ≡ true → convert_answer f g n buffer ≡ Ok n
    unfolding convert_answer convert_checked
    answer_done e = rw (volume_accepted f good n buffer hs is, volume_tells f good n buffer hs is, e)

    answer_not : holds g n hs ≡ false → convert_answer f g n buffer ≡ Err (refusal 21 0 0)
    unfolding convert_answer convert_checked
    answer_not e = rw (volume_accepted f good n buffer hs is, volume_tells f good n buffer hs is, e)

    -- the volume of the same headers in a form that holds it
    there : Good g → holds g n hs ≡ true → Holds g n (volume_of g hs ++ drop (80 * n) buffer) hs
    unfolding holds
    there good' e =
        let most : n ≤ g.most = leb-true n g.most (and_left (leb n g.most) _ e) in
        let taken : Accepteds g hs = accepteds_there f g hs is.accepted (and_right (leb n g.most) _ e) in
        let l : length (volume_of g hs) ≡ 80 * n =
        volume_long g good' hs (taken_wholes g hs taken) (omega (arith, is.cards, good'.roomy)) ∙ ap (λ k. 80 * k) (sym is.cards) in
        record { bytes = take_at (volume_of g hs) (drop (80 * n) buffer) (80 * n) l; cards = is.cards; few = most; accepted = taken }

module _ (from to : Form) (n : ℕ) (buffer : List ℕ) (hs : List (List ℕ)) (is : Holds (row_of from) n buffer hs) where
  told : form_in n buffer ≡ from
  told = form-told from n buffer hs is

  tells : headers_of (row_of from) n (take (80 * n) buffer) ≡ hs
  tells = volume_tells (row_of from) (good_row from) n buffer hs is

  -- a form that does not hold the volume refuses it
  pub form-refused : holds (row_of to) n hs ≡ false → form_answer to n buffer ≡ Err (refusal 21 0 0)
  form-refused e =
      ap (λ form. convert_answer (row_of form) (row_of to) n buffer) told ∙ answer_not (row_of from) (good_row from) n buffer hs is (row_of to) e

  module _ (e : holds (row_of to) n hs ≡ true) where
    -- one that holds it takes it
    pub form-done : form_answer to n buffer ≡ Ok n
    form-done =
        ap (λ form. convert_answer (row_of form) (row_of to) n buffer) told ∙ answer_done (row_of from) (good_row from) n buffer hs is (row_of to) e

    -- the volume of the same headers, and what lay behind it
    pub form_left_lem : form_left to n buffer ≡ volume_of (row_of to) hs ++ drop (80 * n) buffer
    form_left_lem =
        ap (λ a. left_by (row_of to) a (headers_of (row_of (form_in n buffer)) n (take (80 * n) buffer)) buffer) form-done
        ∙ ap (λ form. volume_of (row_of to) (headers_of (row_of form) n (take (80 * n) buffer)) ++ drop (80 * n) buffer) told
        ∙ ap (λ gs. volume_of (row_of to) gs ++ drop (80 * n) buffer) tells

    pub form-holds : Holds (row_of to) n (form_left to n buffer) hs
    form-holds = rw form_left_lem (there (row_of from) (good_row from) n buffer hs is (row_of to) (good_row to) e)

    pub form-behind : drop (80 * n) (form_left to n buffer) ≡ drop (80 * n) buffer
    form-behind =
        ap (drop (80 * n)) form_left_lem
        ∙ drop_at (volume_of (row_of to) hs) (drop (80 * n) buffer) (80 * n) (long (row_of to) (good_row to) n (form_left to n buffer) hs form-holds)

-- a volume that has the form keeps its bytes
pub form-kept : (form : Form) (n : ℕ) (buffer : List ℕ) (hs : List (List ℕ)) → Holds (row_of form) n buffer hs
    → (form_answer form n buffer ≡ Ok n) × (form_left form n buffer ≡ buffer)
form-kept form n buffer hs is =
    let e = own_held (row_of form) (good_row form) n buffer hs is in
    (form-done form form n buffer hs is e, form_left_lem form form n buffer hs is e ∙ whole_buffer (row_of form) (good_row form) n buffer hs is)

-- and the way back gives the bytes of before
pub form_back : (from to : Form) (n : ℕ) (buffer : List ℕ) (hs : List (List ℕ)) → Holds (row_of from) n buffer hs → holds (row_of to) n hs ≡ true
    → (form_answer from n (form_left to n buffer) ≡ Ok n) × (form_left from n (form_left to n buffer) ≡ buffer)
form_back from to n buffer hs is e =
    let own = own_held (row_of from) (good_row from) n buffer hs is in
    let left = form-holds from to n buffer hs is e in (
      form-done to from n (form_left to n buffer) hs left own,
      form_left_lem to from n (form_left to n buffer) hs left own
          ∙ ap (λ l. volume_of (row_of from) hs ++ l) (form-behind from to n buffer hs is e)
          ∙ whole_buffer (row_of from) (good_row from) n buffer hs is,
    )

-- a header of more than so many cards
pub record Over (most : ℕ) (hs : List (List ℕ)) : Type 0 where
  pub place : ℕ
  pub there : place < length hs
  pub large : most < cards_in (get_or hs place [])

over_none : (most : ℕ) (hs : List (List ℕ)) → few most hs ≡ true → (p : ℕ) → p < length hs → cards_in (get_or hs p []) ≤ most
unfolding few
over_none most [] e p l = absurd (not-suc-le-zero l)
over_none most (h ∷ hs) e zero l = leb-true (cards_in h) most (and_left (leb (cards_in h) most) _ e)
over_none most (h ∷ hs) e (suc p) l = over_none most hs (and_right (leb (cards_in h) most) _ e) p (le_of_suc-le-suc l)

over-some : (most : ℕ) (hs : List (List ℕ)) → few most hs ≡ false → Over most hs
unfolding few
over-some most [] e = absurd (false≢true (sym e))
over-some most (h ∷ hs) e = elim (dec_le (cards_in h) most) [
  | yes l ↦
      let o = over-some most hs (sym (ap (λ t. t && few most hs) (le-leb (cards_in h) most l)) ∙ e) in
      record { place = suc o.place; there = omega (arith, o.there); large = o.large }
  | no l ↦ record { place = 0; there = omega arith; large = omega arith }
]

refused-apart : (n : ℕ) → ◌≡◌ {A = Result ℕ Refusal} (Ok n) (Err (refusal 21 0 0)) → ⊥
refused-apart n e = false≢true (sym (ap done e))
  where
    done : Result ℕ Refusal → Bool
    done (Ok n) = true
    done (Err r) = false

-- a wide volume is a 21 in the old form exactly if it has more than 999 cards or a header of more than 800
module _ (n : ℕ) (buffer : List ℕ) (hs : List (List ℕ)) (is : Holds (row_of Wide) n buffer hs) where
  pub narrow_not : (form_answer Old n buffer ≡ Err (refusal 21 0 0)) ↔ ((999 < n) ⊎ Over 800 hs)
  unfolding holds row_of
  narrow_not = (to-over (holds (row_of Old) n hs) refl, of_over)
    where
      to-over : (t : Bool) → holds (row_of Old) n hs ≡ t → form_answer Old n buffer ≡ Err (refusal 21 0 0) → (999 < n) ⊎ Over 800 hs
      to-over true e r = absurd (refused-apart n (sym (form-done Wide Old n buffer hs is e) ∙ r))
      to-over false e r = elim (dec_le n 999) [
        | yes l ↦ inr (over-some 800 hs (sym (ap (λ t. t && few 800 hs) (le-leb n 999 l)) ∙ e))
        | no l ↦ inl (omega arith)
      ]

      none : (t : Bool) → holds (row_of Old) n hs ≡ t → (999 < n) ⊎ Over 800 hs → holds (row_of Old) n hs ≡ false
      none false e o = e
      none true e (inl l) = let x : n ≤ 999 = leb-true n 999 (and_left (leb n 999) _ e) in absurd (omega arith)
      none true e (inr o) = let x = over_none 800 hs (and_right (leb n 999) _ e) o.place o.there in absurd (omega (arith, o.large))

      of_over : (999 < n) ⊎ Over 800 hs → form_answer Old n buffer ≡ Err (refusal 21 0 0)
      of_over o = form-refused Wide Old n buffer hs is (none (holds (row_of Old) n hs) refl o)

  pub narrow_done : (form_answer Old n buffer ≡ Ok n) ↔ (((999 < n) ⊎ Over 800 hs) → ⊥)
  narrow_done = (
    λ d o. refused-apart n (sym d ∙ narrow_not.1 o),
    λ x. go (holds (row_of Old) n hs) refl x,
  )
    where
      go : (t : Bool) → holds (row_of Old) n hs ≡ t → (((999 < n) ⊎ Over 800 hs) → ⊥) → form_answer Old n buffer ≡ Ok n
      go true e x = form-done Wide Old n buffer hs is e
      go false e x = absurd (x (narrow_not.0 (form-refused Wide Old n buffer hs is e)))
