-- Slips ruled out by name: a vessel digit in a key, and only the second of two equal definitions listed.
use Prim.Native.Nat.{ℕ, ◌+◌, ◌-◌, ◌≤◌, ◌<◌}
use native.Mathlib.Omega.{arith}
use mathlib.Core.Path.{◌≡◌, refl, sym, ap, ap₂, ◌∙◌}
use mathlib.Core.Bool.{Bool, true, false, cond, ◌&&◌}
use mathlib.Core.List.{List, [], ◌∷◌, Memᴰ}
use lib.Dec.{eqb, leb}
use lib.ListN.{take, set}
use lib.Seq.{drop-set-lt, get_or-set_other}
use borrow.Author.Tests.{leb-true, eqb-true}
use Rattle.base_lists.specs.Parts.{alike, part}
use Rattle.base_lists.proofs.Comparing.{alike_equal}
use Rattle.base_digits.specs.digits.Figures.{blanks, unpadded, leading, behind, value_from}
use Rattle.base_digits.specs.signs.Signs.{signed_of}
use Rattle.value_number.specs.number.Reading.{point_of, figures_of, held_of, sign_of, number_of}
use Rattle.value_text.specs.text.Texts.{text_end, text_of}
use Rattle.value_field.specs.spelling.Reading.{number_in, whole_reading, reading_of}
use Rattle.format_layout.specs.Table.{layouts, passed_codes}
use Rattle.format_code.specs.Codes.{byte_fits, fits_at, fits, codes, place_in, code_at, code_of}
use Rattle.header_check.specs.forms.Cards.{card_at, cards_in, byte_in, layout_of}
use Rattle.tie_rules.specs.Ties.{Source, digit, whole, serial, waypoint, only, allotted, nothing, Role, defines, refers, Tie, ties, is_for, line_in, line_for}
use Rattle.tie_rules.specs.Keys.{is_none, between, whole_key, whole_in, key_in, class_at, key_at, holds_key, defines_key, vessel_of}
use Rattle.tie_rules.specs.Definitions.{place_of}
use Rattle.tie_laws.proofs.Tests.{both}
use Rattle.tie_laws.proofs.Complete.{list_of, broken-listed}
use Rattle.tie_laws.proofs.Places.{Defines, Elsewhere, Differ, one_exactly, place_named}
use Rattle.tie_laws.proofs.Questions.{both_listed}
use Rattle.tie_laws.proofs.ExampleCards.{example}
use Rattle.tie_laws.proofs.ExampleSteps.{one_streamer}

-- where a key stands, it stands behind column 4
abbrev behind_four : Source → Bool
behind_four digit = true
behind_four (whole first last) = leb 5 first
behind_four (serial first last) = leb 5 first
behind_four (waypoint first last) = leb 5 first
behind_four only = true
behind_four (allotted first last least most) = leb 5 first
behind_four nothing = true

abbrev all_behind : List Tie → Bool
all_behind [] = true
all_behind (t ∷ ts) = behind_four t.source && all_behind ts

table_behind : all_behind ties ≡ true
unfolding ties
table_behind = refl

line-behind : (ts : List Tie) → all_behind ts ≡ true → (r : Role) (k column : ℕ) → behind_four (line_in ts r k column).source ≡ true
unfolding line_in
line-behind [] e r k column = refl
line-behind (t ∷ ts) e r k column = go (is_for r k column t) (line-behind ts w.1 r k column)
  where
    w : (behind_four t.source ≡ true) × (all_behind ts ≡ true)
    w = (both (behind_four t.source) (all_behind ts)).0 e

    go : (b : Bool) → behind_four (line_in ts r k column).source ≡ true
        → behind_four (cond b t (line_in ts r k column)).source ≡ true
    go true ih = w.0
    go false ih = ih

-- a card with another byte in column 4, the vessel's
abbrev pub with_vessel : List ℕ → ℕ → List ℕ
with_vessel s b = set s 3 b

module _ (s : List ℕ) (b : ℕ) where
  same_between : (first last : ℕ) → 5 ≤ first → between first last (with_vessel s b) ≡ between first last s
  unfolding between
  same_between first last l = ap (take (last - (first - 1))) (drop-set-lt (first - 1) s 3 b (omega arith))

  same_whole : (first last : ℕ) → 5 ≤ first → whole_in first last (with_vessel s b) ≡ whole_in first last s
  unfolding whole_in
  same_whole first last l = rw (same_between first last l)

  same_key_in : (x : Source) → behind_four x ≡ true → key_in x (with_vessel s b) ≡ key_in x s
  unfolding key_in byte_in
  same_key_in digit e = ap (λ n. (n - 48) ∷ []) (get_or-set_other s 3 4 b 0 (λ q. omega arith))
  same_key_in (whole first last) e = same_whole first last (leb-true 5 first e)
  same_key_in (serial first last) e = rw (same_between first last (leb-true 5 first e))
  same_key_in (waypoint first last) e = rw (same_whole 7 7 (omega arith), same_whole first last (leb-true 5 first e))
  same_key_in only e = refl
  same_key_in (allotted first last least most) e = rw (same_whole first last (leb-true 5 first e))
  same_key_in nothing e = refl

  module _ (same_layout : layout_of (with_vessel s b) ≡ layout_of s) where
    -- the vessel digit of a code is no part of a key that the card defines or refers to
    pub vessel_not_in_key : (r : Role) (column : ℕ) → key_at r (with_vessel s b) column ≡ key_at r s column
    unfolding key_at line_for
    vessel_not_in_key r column = rw same_layout
        (same_key_in (line_in ties r (layout_of s) column).source (line-behind ties table_behind r (layout_of s) column))

    same_class : (r : Role) (column : ℕ) → class_at r (with_vessel s b) column ≡ class_at r s column
    unfolding class_at
    same_class r column = ap (λ k. (line_for r k column).class) same_layout

    -- so a definition counts for a key whatever the digit
    pub vessel_not-counted : (class : ℕ) (key : List ℕ) (column : ℕ)
        → defines_key (with_vessel s b) class key column ≡ defines_key s class key column
    unfolding defines_key holds_key
    vessel_not-counted class key column = rw (vessel_not_in_key defines column, same_class defines column)

-- a place is listed as one whose key is defined elsewhere too
abbrev pub ListedTwice : List ℕ → ℕ → ℕ → Type 0
ListedTwice h card column = Memᴰ (card ∷ column ∷ 2 ∷ vessel_of (card_at h (card - 1)) ∷ []) (list_of h)

module _ (h : List ℕ) (class : ℕ) (key : List ℕ) where
  -- what a place defines is what its column says
  told : (s : List ℕ) (column : ℕ) → defines_key s class key column ≡ true
      → (holds_key defines s column ≡ true) × (class_at defines s column ≡ class) × (key_at defines s column ≡ key)
  unfolding defines_key
  told s column e =
      let w = (both (holds_key defines s column) _).0 e in
      let v = (both (eqb (class_at defines s column) class) (alike (key_at defines s column) key)).0 w.1 in
      (w.0, eqb-true (class_at defines s column) class v.0, alike_equal (key_at defines s column) key v.1)

  -- a place, its card counted from 0, that defines a key which is defined elsewhere too
  listed-there : (n column : ℕ) → n < cards_in h → 1 ≤ column → column ≤ 80 → defines_key (card_at h n) class key column ≡ true
      → Elsewhere h class key (n + 1) column → Memᴰ ((n + 1) ∷ column ∷ 2 ∷ vessel_of (card_at h n) ∷ []) (list_of h)
  listed-there n column l a b e x =
      let t = told (card_at h n) column e in
      (broken-listed h n column 2 _ l).1 ((both_listed h n column l a b t.0).1 (rw (t.1, t.2) x), refl)

  listed_here : (card column c d : ℕ) → Defines h class key card column → Defines h class key c d → Differ c d card column
      → ListedTwice h card column
  listed_here card column c d x y apart =
      let e : card - 1 + 1 ≡ card = omega (arith, x.first_card) in
      rw e at (listed-there (card - 1) column (omega (arith, x)) x.first-column x.last-column x.defines_it
      (record { other_card = c; other-column = d; there = y; another = λ q. apart (q.0 ∙ e, q.1) }))

  -- of two equal definitions both are listed
  pub both_of_two : (card column c d : ℕ) → Defines h class key card column → Defines h class key c d → Differ c d card column
      → ListedTwice h card column × ListedTwice h c d
  both_of_two card column c d x y apart =
      (listed_here card column c d x y apart, listed_here c d card column y x (λ q. apart (sym q.0, sym q.1)))

-- the streamer on H2110 is the one that H2220 refers to, card 12 of the example
pub referred_to : (class_at refers (card_at example 11) 7 ≡ 2) × (key_at refers (card_at example 11) 7 ≡ 1 ∷ [])
unfolding part blanks unpadded leading behind value_from signed_of point_of figures_of held_of sign_of number_of text_end text_of number_in
    whole_reading reading_of layouts passed_codes byte_fits fits_at fits codes place_in code_at code_of card_at layout_of ties line_in line_for between
    whole_key whole_in key_in class_at key_at example
referred_to = (refl, refl)

defined_there : defines_key (card_at example 9) 2 (1 ∷ []) 7 ≡ true
unfolding alike part blanks unpadded leading behind value_from signed_of point_of figures_of held_of sign_of number_of text_end text_of number_in
    whole_reading reading_of layouts passed_codes byte_fits fits_at fits codes place_in code_at code_of card_at layout_of ties line_in line_for is_none
    between whole_key whole_in key_in class_at key_at holds_key defines_key example
defined_there = refl

-- and it is found on card 10
pub found_at : place_of example 2 (1 ∷ []) ≡ 10 ∷ 7 ∷ []
unfolding cards_in example
found_at =
    let r = (one_exactly example 2 (1 ∷ [])).0 one_streamer in
    let q = r.2.nowhere_else 10 7 (record {
      first_card = omega arith;
      last_card = omega arith;
      first-column = omega arith;
      last-column = omega arith;
      defines_it = defined_there;
    }) in
    place_named example 2 (1 ∷ []) r.0 r.1 r.2 ∙ sym (ap₂ (λ a b. a ∷ b ∷ []) q.0 q.1)
