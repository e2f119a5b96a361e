-- Once a field is blank, its need looks only at columns outside it, and there the fields of two cards are alike.
use Prim.Native.Nat.{ℕ, zero, suc, ◌+◌, ◌-◌, ◌≤◌, ◌<◌}
use native.Mathlib.Omega.{arith}
use mathlib.Core.Path.{◌≡◌, refl, sym, ap, subst, ◌∙◌}
use mathlib.Core.List.{List, [], ◌∷◌}
use mathlib.Core.Bool.{Bool, true, false, ◌&&◌, ◌||◌, not}
use lib.ListN.{length, get_or, take, drop}
use lib.Seq.{take-take, drop-drop}
use lib.Dec.{eqb, ltb}
use borrow.Author.Tests.{eqb-true, eqb-false, ltb-true, ltb-false}
use Rattle.format_layout.specs.declared.Field.{Field}
use Rattle.format_layout.specs.Layouts.{fields_of, field_of, no_field}
use Rattle.format_layout.proofs.Columns.{after_label, ends-before}
use Rattle.format_layout.proofs.Numbers.{numbered}
use Rattle.card_field.specs.needing.Needs.{columns_of, is_blank, second_at, any_second, needed_on, other_second, needed_after}
use Rattle.card_put.proofs.Untouched.{Outside}
use Rattle.std.specs.Prelude.{Some}

-- a part of two lists that begin alike, and of two that end alike
front_part : (at k n : ℕ) (s : List ℕ) → at + k ≤ n → take k (drop at (take n s)) ≡ take k (drop at s)
front_part zero k n s h = take-take k n s (omega arith)
front_part (suc at) k zero s h = absurd (omega arith)
front_part (suc at) k (suc n) [] h = refl
front_part (suc at) k (suc n) (b ∷ s) h = front_part at k n s (omega arith)

begun_alike : (at k n : ℕ) (s r : List ℕ) → at + k ≤ n → take n r ≡ take n s → take k (drop at r) ≡ take k (drop at s)
begun_alike at k n s r h e = sym (front_part at k n r h) ∙ ap (λ (l : List ℕ). take k (drop at l)) e ∙ front_part at k n s h

ended_alike : (at n : ℕ) (s r : List ℕ) → n ≤ at → drop n r ≡ drop n s → drop at r ≡ drop at s
ended_alike at n s r h e =
    let q : n + (at - n) ≡ at = omega arith in
    ap (λ i. drop i r) (sym q) ∙ sym (drop-drop (at - n) n r) ∙ ap (drop (at - n)) e
    ∙ drop-drop (at - n) n s ∙ ap (λ i. drop i s) q

-- another field's columns on two cards that are alike outside a field
module _ (f g : Field) (s r : List ℕ) (o : Outside f s r) (forward : g.first ≤ g.last) where
  before-alike : g.last < f.first → columns_of g r ≡ columns_of g s
  unfolding columns_of
  before-alike h = begun_alike (g.first - 1) (g.last - (g.first - 1)) (f.first - 1) s r (omega arith) o.before

  behind-alike : f.last < g.first → columns_of g r ≡ columns_of g s
  unfolding columns_of
  behind-alike h = ap (take (g.last - (g.first - 1))) (ended_alike (g.first - 1) f.last s r (omega arith) o.behind)

-- the second set but for one field, on two cards alike in the others' columns
other-alike : (s r : List ℕ) (n m : ℕ) (fs : List Field)
    → ((i : ℕ) → i < length fs → (m + i ≡ n → ⊥) → columns_of (get_or fs i no_field) r ≡ columns_of (get_or fs i no_field) s)
    → other_second r n m fs ≡ other_second s n m fs
unfolding other_second
other-alike s r n m [] h = refl
other-alike s r n m (f ∷ fs) h =
    ap (λ b. (not (eqb m n) && second_at r f) || b)
    (other-alike s r n (suc m) fs (λ i l d. h (suc i) (omega arith) (λ e. d (omega arith))))
    ∙ ap (λ b. b || other_second s n (suc m) fs) (go (eqb m n) refl)
  where
    go : (b : Bool) → eqb m n ≡ b → (not b && second_at r f) ≡ (not b && second_at s f)
    go true q = refl
    go false q = ap (λ c. f.second && not (is_blank c)) (h 0 (omega arith) (λ e. eqb-false m n q (omega arith)))

-- where that field is blank, the second set is present by the others alone
blank_other : (s : List ℕ) (n m : ℕ) (fs : List Field)
    → ((i : ℕ) → i < length fs → m + i ≡ n → is_blank (columns_of (get_or fs i no_field) s) ≡ true)
    → any_second s fs ≡ other_second s n m fs
unfolding any_second other_second
blank_other s n m [] h = refl
blank_other s n m (f ∷ fs) h =
    ap (λ b. second_at s f || b) (blank_other s n (suc m) fs (λ i l e. h (suc i) (omega arith) (omega arith)))
    ∙ ap (λ b. b || other_second s n (suc m) fs) (go (eqb m n) refl)
  where
    none : (b : Bool) → (b && false) ≡ false
    none true = refl
    none false = refl

    go : (b : Bool) → eqb m n ≡ b → second_at s f ≡ (not b && second_at s f)
    go true q =
        let e : m ≡ n = eqb-true m n q in
        ap (λ b. f.second && not b) (h 0 (omega arith) (omega arith)) ∙ none f.second
    go false q = refl

module _ (k n : ℕ) (f : Field) (e : field_of k n ≡ Some f) where
  others : (s r : List ℕ) → Outside f s r → (i : ℕ) → i < length (fields_of k) → (1 + i ≡ n → ⊥)
      → columns_of (get_or (fields_of k) i no_field) r ≡ columns_of (get_or (fields_of k) i no_field) s
  others s r o i h d = go (ltb (1 + i) n) refl
    where
      go : (b : Bool) → ltb (1 + i) n ≡ b → columns_of (get_or (fields_of k) i no_field) r ≡ columns_of (get_or (fields_of k) i no_field) s
      go true q =
          let w = numbered k n f e in
          let l : 1 + i < n = ltb-true (1 + i) n q in
          before-alike f (get_or (fields_of k) i no_field) s r o (after_label k i h).forward
          (subst (λ (x : Field). (get_or (fields_of k) i no_field).last < x.first) w.is
          (ends-before k i (n - 1) (omega arith) (omega arith)))
      go false q =
          let w = numbered k n f e in
          let l : n ≤ 1 + i = ltb-false (1 + i) n q in
          let m : n - 1 < i = omega (arith, w.counted) in
          behind-alike f (get_or (fields_of k) i no_field) s r o (after_label k i h).forward
          (subst (λ (x : Field). x.last < (get_or (fields_of k) i no_field).first) w.is (ends-before k (n - 1) i m h))

  -- a field's need once it is blank is the same on two cards that are alike outside it
  pub need_alike : (s r : List ℕ) → Outside f s r → needed_after k r n f ≡ needed_after k s n f
  unfolding needed_after
  need_alike s r o = ap (λ b. f.needed && (not f.second || b)) (other-alike s r n 1 (fields_of k) (others s r o))

  -- and it is the need of the field as the card stands, where the field is blank
  pub blank_need : (s : List ℕ) → is_blank (columns_of f s) ≡ true → needed_on k s f ≡ needed_after k s n f
  unfolding needed_on needed_after
  blank_need s b = ap (λ b. f.needed && (not f.second || b)) (blank_other s n 1 (fields_of k) own)
    where
      own : (i : ℕ) → i < length (fields_of k) → 1 + i ≡ n → is_blank (columns_of (get_or (fields_of k) i no_field) s) ≡ true
      own i h q =
          let p : i ≡ n - 1 = omega arith in
          ap (λ j. is_blank (columns_of (get_or (fields_of k) j no_field) s)) p
          ∙ ap (λ (x : Field). is_blank (columns_of x s)) (numbered k n f e).is ∙ b

  -- so a put that blanks the field is held against the need that reading then finds
  pub blanked_need : (s r : List ℕ) → Outside f s r → is_blank (columns_of f r) ≡ true → needed_on k r f ≡ needed_after k s n f
  blanked_need s r o b = blank_need r b ∙ need_alike s r o
