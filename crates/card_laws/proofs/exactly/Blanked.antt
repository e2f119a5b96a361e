-- The card as it stands once a field is blank: its code and its other fields are as they were.
use Prim.Native.Nat.{ℕ, zero, suc, ◌+◌, ◌-◌, ◌≤◌, ◌<◌}
use native.Mathlib.Omega.{arith}
use native.Mathlib.Decide.{ℕ_discrete, dec_lt}
use mathlib.Core.Path.{◌≡◌, refl, sym, ap, ap₂, subst, ◌∙◌}
use mathlib.Core.List.{List, [], ◌∷◌}
use mathlib.Core.Bool.{Bool, true, false, ◌&&◌, ◌||◌, not}
use lib.ListN.{length, get_or, take, drop, replicate, length-replicate}
use lib.Seq.{take-take, take-add, drop_at, drop-drop, length-take-le}
use lib.Dec.{eqb}
use borrow.Author.Tests.{eq-eqb, ne_eqb}
use borrow.Rule.Slice.PartMut.{take_put, drop_put}
use Rattle.value_text.specs.text.Texts.{text_end, printable}
use Rattle.value_text.proofs.text.Back.{end_blanks}
use Rattle.format_layout.specs.declared.Field.{Field}
use Rattle.format_layout.specs.Layouts.{fields_of, no_field}
use Rattle.format_layout.proofs.Columns.{Lies, after_label, ends-before}
use Rattle.format_layout.proofs.Numbers.{numbered, found_lies}
use Rattle.card_field.specs.seeking.Card.{sought_of}
use Rattle.card_field.specs.needing.Needs.{columns_of, is_blank, second_at, any_second, other_second, needed_after}
use Rattle.card_field.proofs.seeking.Steps.{found-there}
use Rattle.format_layout.specs.Columns.{width}
use Rattle.card_put.specs.Putting.{placed_in}
use Rattle.card_put.proofs.Back.{still_there, now_holds}
use Rattle.card_laws.specs.exactly.Words.{is_needed, blanked_in}
use Rattle.card_laws.proofs.exactly.Way.{found-fields}
use Rattle.std.specs.Prelude.{Ok}
use Rattle.card_field.specs.seeking.Found.{sought}

-- a part of two lists that are the same up to its end, or from its start
part-before : (a b m : ℕ) (u v : List ℕ) → b + a ≤ m → b ≤ length u → b ≤ length v → take m u ≡ take m v
    → take a (drop b u) ≡ take a (drop b v)
part-before a b m u v h p q e =
    sym (cut u p) ∙ ap (drop b) (sym (take-take (b + a) m u h) ∙ ap (take (b + a)) e ∙ take-take (b + a) m v h) ∙ cut v q
  where
    cut : (l : List ℕ) → b ≤ length l → drop b (take (b + a) l) ≡ take a (drop b l)
    cut l r = ap (drop b) (take-add b a l) ∙ drop_at (take b l) (take a (drop b l)) b (length-take-le b l r)

part-behind : (a b m : ℕ) (u v : List ℕ) → m ≤ b → drop m u ≡ drop m v → take a (drop b u) ≡ take a (drop b v)
part-behind a b m u v h e = ap (take a) (sym (onward u) ∙ ap (drop (b - m)) e ∙ onward v)
  where
    onward : (l : List ℕ) → drop (b - m) (drop m l) ≡ drop b l
    onward l = let q : m + (b - m) ≡ b = omega arith in drop-drop (b - m) m l ∙ ap (λ j. drop j l) q

pub blank_printable : (w : ℕ) → printable (replicate w 32) ≡ true
unfolding printable
blank_printable zero = refl
blank_printable (suc w) = blank_printable w

blank_blank : (w : ℕ) → is_blank (replicate w 32) ≡ true
unfolding is_blank text_end
blank_blank w = eq-eqb (text_end (replicate w 32)) 0 (end_blanks [] w)

-- the second set but for one field is the second set on a card where that field is blank
walk : (s t : List ℕ) (n i : ℕ) (fs : List Field)
    → ((j : ℕ) → j < length fs → second_at t (get_or fs j no_field) ≡ (not (eqb (i + j) n) && second_at s (get_or fs j no_field)))
    → any_second t fs ≡ other_second s n i fs
unfolding any_second other_second
walk s t n i [] h = refl
walk s t n i (f ∷ fs) h =
    ap₂ (λ a b. a || b) (h 0 (omega arith) ∙ ap (λ j. not (eqb j n) && second_at s f) (omega arith))
    (walk s t n (suc i) fs
    (λ j l. h (suc j) (omega arith) ∙ ap (λ x. not (eqb x n) && second_at s (get_or fs j no_field)) (omega arith)))

module _ (s : List ℕ) (n form k : ℕ) (f : Field) (q : sought_of s n form ≡ Ok (sought k f)) where
  whole : length s ≡ 80
  whole = (found-there s n form k f q).whole

  lies : Lies 6 f
  lies =
      let l = found_lies k n f (found-there s n form k f q).field in
      record { after = omega (arith, l.after); forward = l.forward; on_card = l.on_card }

  wide : length {A = ℕ} (replicate (width f) 32) ≡ width f
  wide = length-replicate (width f) 32

  -- the field is found again, and it is blank
  found-again : sought_of (blanked_in f s) n form ≡ Ok (sought k f)
  unfolding blanked_in
  found-again = still_there s n form k f q (replicate (width f) 32) wide (blank_printable (width f))

  own_columns : columns_of f (blanked_in f s) ≡ replicate (width f) 32
  unfolding blanked_in
  own_columns = now_holds s n form k f q (replicate (width f) 32) wide (blank_printable (width f))

  same_front : take (f.first - 1) (blanked_in f s) ≡ take (f.first - 1) s
  unfolding blanked_in placed_in
  same_front = take_put (f.first - 1) (width f) s (replicate (width f) 32) (omega (arith, whole, lies.forward, lies.on_card))

  same_behind : drop f.last (blanked_in f s) ≡ drop f.last s
  unfolding blanked_in placed_in
  same_behind =
      drop_put (f.first - 1) f.last s (replicate (width f) 32) (omega (arith, lies.forward))
      (omega (arith, whole, lies.on_card)) wide

  still_whole : length (blanked_in f s) ≡ 80
  still_whole = (found-there (blanked_in f s) n form k f found-again).whole

  -- another field's columns are as they were
  module _ (j : ℕ) (h : j < length (fields_of k)) where
    abbrev g : Field
    g = get_or (fields_of k) j no_field

    there : Lies 6 g
    there =
        let l = after_label k j h in
        record { after = omega (arith, l.after); forward = l.forward; on_card = l.on_card }

    place : (1 ≤ n) × (n ≤ length (fields_of k)) × (get_or (fields_of k) (n - 1) no_field ≡ f)
    place = let m = numbered k n f (found-there s n form k f q).field in (m.counted, m.within, m.is)

    before : suc j < n → g.last < f.first
    before l =
        subst (λ (x : Field). g.last < x.first) place.2
        (ends-before k j (n - 1) (omega arith) (omega (arith, place.0, place.1)))

    after : n < suc j → f.last < g.first
    after l = subst (λ (x : Field). x.last < g.first) place.2 (ends-before k (n - 1) j (omega (arith, place.0)) h)

    other-columns : (suc j ≡ n → ⊥) → columns_of g (blanked_in f s) ≡ columns_of g s
    unfolding columns_of
    other-columns ne = elim (dec_lt (suc j) n) [
      | yes l ↦
          part-before (g.last - (g.first - 1)) (g.first - 1) (f.first - 1) (blanked_in f s) s
          (omega (arith, before l, there.after, there.forward)) (omega (arith, still_whole, there.forward, there.on_card))
          (omega (arith, whole, there.forward, there.on_card)) same_front
      | no l ↦
          part-behind (g.last - (g.first - 1)) (g.first - 1) f.last (blanked_in f s) s
          (omega (arith, after (omega arith))) same_behind
    ]

    second-again : second_at (blanked_in f s) g ≡ (not (eqb (1 + j) n) && second_at s g)
    second-again = elim (ℕ_discrete (1 + j) n) [
      | yes e ↦
          let d : n - 1 ≡ j = omega arith in
          let is : g ≡ f = ap (λ i. get_or (fields_of k) i no_field) (sym d) ∙ place.2 in
          ap (second_at (blanked_in f s)) is
          ∙ ap (λ (c : List ℕ). f.second && not (is_blank c)) own_columns
          ∙ ap (λ b. f.second && not b) (blank_blank (width f))
          ∙ never f.second
          ∙ sym (ap (λ b. not b && second_at s g) (eq-eqb (1 + j) n e))
      | no e ↦
          ap (λ (c : List ℕ). g.second && not (is_blank c)) (other-columns (λ x. e (omega arith)))
          ∙ sym (ap (λ b. not b && second_at s g) (ne_eqb (1 + j) n e))
    ]
      where
        never : (b : Bool) → (b && false) ≡ false
        never true = refl
        never false = refl

  -- the field is needed on the card as it then stands
  pub needed_blank : is_needed (blanked_in f s) f ≡ needed_after k s n f
  unfolding is_needed needed_after
  needed_blank =
      ap (λ (fs : List Field). f.needed && (not f.second || any_second (blanked_in f s) fs))
      (found-fields (blanked_in f s) n form k f found-again)
      ∙ ap (λ b. f.needed && (not f.second || b)) (walk s (blanked_in f s) n 1 (fields_of k) second-again)
