-- What the pass notes is what the definition says: the form that the only card states.
use Prim.Native.Nat.{ℕ, zero, suc, ◌+◌, ◌≤◌, ◌<◌}
use native.Mathlib.Nat.{le_step, lt-suc_self}
use native.Mathlib.Decide.{ℕ_discrete, dec_lt}
use native.Mathlib.Omega.{arith}
use mathlib.Core.Path.{◌≡◌, refl, sym, ap, ◌∙◌}
use mathlib.Core.List.{List}
use mathlib.Core.Bool.{Bool, true, false, cond, ◌&&◌}
use lib.Dec.{eqb}
use lib.ListN.{length, get_or, set, length-set, length-replicate, get_or-replicate}
use lib.Seq.{get_or-set_same, get_or-set_other}
use borrow.Author.Tests.{eq-eqb, ne_eqb}
use Rattle.base_lists.specs.Count.{bit, count, first}
use Rattle.base_lists.proofs.Counting.{count_none, none_pass}
use Rattle.base_lists.proofs.Finding.{first_below, first_passes, first_unique}
use Rattle.format_layout.specs.declared.Form.TheVariants.{Angles, Grid, Unknown}
use Rattle.header_check.specs.forms.Cards.{card_at, cards_in, byte_in, layout_of}
use Rattle.header_check.specs.forms.Forms.{form_said, only_form, states_line, states_grid, line_form, grid_form, form_of}
use Rattle.header_check.specs.packed.Notes.{mark, noted, told, note_at, note_card, notes_to, form_by}

-- a byte that is marked says the same form
told-mark : (b : ℕ) → told (mark b) ≡ form_said b
unfolding told mark form_said
told-mark b = go (eqb b 48) (eqb b 49)
  where
    go : (x y : Bool) → told (cond x 1 (cond y 2 3)) ≡ cond x Angles (cond y Grid Unknown)
    go true y = refl
    go false true = refl
    go false false = refl

mark-some : (b : ℕ) → eqb (mark b) 0 ≡ false
unfolding mark
mark-some b = go (eqb b 48) (eqb b 49)
  where
    go : (x y : Bool) → eqb (cond x 1 (cond y 2 3)) 0 ≡ false
    go true y = refl
    go false true = refl
    go false false = refl

module _ (p : ℕ → Bool) (byte : ℕ → ℕ) where
  -- what is noted of the cards below n that pass
  unfoldable noted_to : ℕ → ℕ
  noted_to zero = 0
  noted_to (suc n) = cond (p n) (noted (noted_to n) (byte n)) (noted_to n)

  -- a note by how many passed
  record Says (n m : ℕ) : Type 0 where
    none : count p n ≡ 0 → m ≡ 0
    one : count p n ≡ 1 → m ≡ mark (byte (first p n))
    several : 2 ≤ count p n → m ≡ 3

  first_new : (n : ℕ) → count p n ≡ 0 → p n ≡ true → first p (suc n) ≡ n
  first_new n z e = first_unique p (suc n) n (lt-suc_self n) e (λ j l. none_pass p n z j l)

  first-kept : (n : ℕ) → count p n ≡ 1 → first p (suc n) ≡ first p n
  first-kept n o = elim (dec_lt (first p n) n) [
    | yes l ↦ first_unique p (suc n) (first p n) (le_step l) (first_passes p n l) (λ j k. first_below p n j k)
    | no l ↦
        let z : count p n ≡ 0 = count_none p n (λ i k. first_below p n i (omega arith)) in
        absurd (omega arith)
  ]

  says : (n : ℕ) → Says n (noted_to n)
  unfolding noted_to count noted
  says zero = record {
    none = λ e. refl;
    one = λ e. absurd (omega arith);
    several = λ h. absurd (omega arith);
  }
  says (suc n) = go (p n) refl (says n)
    where
      go : (b : Bool) → p n ≡ b → Says n (noted_to n) → Says (suc n) (noted_to (suc n))
      go false e s = rw e (record {
        none = λ h. s.none (omega (arith, ap bit e));
        one = λ h. let o : count p n ≡ 1 = omega (arith, ap bit e) in s.one o ∙ ap (λ i. mark (byte i)) (sym (first-kept n o));
        several = λ h. s.several (omega (arith, ap bit e));
      })
      go true e s = rw e (record {
        none = λ h. absurd (omega (arith, ap bit e));
        one = λ h.
            let z : count p n ≡ 0 = omega (arith, ap bit e) in
            rw (s.none z) (ap (λ i. mark (byte i)) (sym (first_new n z e)));
        several = λ h. elim (ℕ_discrete (count p n) 1) [
          | yes o ↦ rw (s.one o, mark-some (byte (first p n)))
          | no o ↦ rw (s.several (omega (arith, ap bit e)))
        ];
      })

  -- so it tells the form that the only one says
  only-told : (n : ℕ) → told (noted_to n) ≡ only_form p byte n
  unfolding only_form told
  only-told n = elim (ℕ_discrete (count p n) 1) [
    | yes o ↦ rw ((says n).one o, eq-eqb (count p n) 1 o) (told-mark (byte (first p n)))
    | no o ↦ rw (ne_eqb (count p n) 1 o) (elim (ℕ_discrete (count p n) 0) [
      | yes z ↦ rw ((says n).none z) nothing
      | no z ↦ rw ((says n).several (omega arith)) three
    ])
  ]
    where
      nothing : told 0 ≡ Unknown
      nothing = refl

      three : told 3 ≡ Unknown
      three = refl

-- a card seen
module _ (t s : List ℕ) where
  kept-length : length (note_card t s) ≡ length t
  unfolding note_card note_at
  kept-length = go (eqb (layout_of s) 8) (eqb (layout_of s) 12)
    where
      go : (x y : Bool) → length (cond x (set t (1 + byte_in s 30) (noted (get_or t (1 + byte_in s 30) 0) (byte_in s 32)))
          (cond y (set t 0 (noted (get_or t 0 0) (byte_in s 21))) t)) ≡ length t
      go true y = simp length-set
      go false true = simp length-set
      go false false = refl

  at_line : (v : ℕ) → 1 + v < length t → get_or (note_card t s) (1 + v) 0
      ≡ cond (eqb (layout_of s) 8 && eqb (byte_in s 30) v) (noted (get_or t (1 + v) 0) (byte_in s 32)) (get_or t (1 + v) 0)
  unfolding note_card note_at
  at_line v h = elim (ℕ_discrete (layout_of s) 8) [
    | yes q ↦ rw (eq-eqb (layout_of s) 8 q) (elim (ℕ_discrete (byte_in s 30) v) [
      | yes e ↦ rw (e, eq-eqb v v refl) (get_or-set_same t (1 + v) _ 0 h)
      | no e ↦ rw (ne_eqb (byte_in s 30) v e) (get_or-set_other t (1 + byte_in s 30) (1 + v) _ 0 (λ r. e (omega arith)))
    ])
    | no q ↦ rw (ne_eqb (layout_of s) 8 q) (elim (ℕ_discrete (layout_of s) 12) [
      | yes e ↦ rw (eq-eqb (layout_of s) 12 e) (get_or-set_other t 0 (1 + v) _ 0 (λ r. omega arith))
      | no e ↦ rw (ne_eqb (layout_of s) 12 e)
    ])
  ]

  at_grid : 0 < length t → get_or (note_card t s) 0 0
      ≡ cond (eqb (layout_of s) 12) (noted (get_or t 0 0) (byte_in s 21)) (get_or t 0 0)
  unfolding note_card note_at
  at_grid h = elim (ℕ_discrete (layout_of s) 8) [
    | yes q ↦
        let l : layout_of s ≡ 12 → ⊥ = λ r. omega arith in
        rw (eq-eqb (layout_of s) 8 q, ne_eqb (layout_of s) 12 l) (get_or-set_other t (1 + byte_in s 30) 0 _ 0 (λ r. omega arith))
    | no q ↦ rw (ne_eqb (layout_of s) 8 q) (elim (ℕ_discrete (layout_of s) 12) [
      | yes e ↦ rw (eq-eqb (layout_of s) 12 e) (get_or-set_same t 0 _ 0 h)
      | no e ↦ rw (ne_eqb (layout_of s) 12 e)
    ])
  ]

module _ (h : List ℕ) where
  noted-length : (c : ℕ) → length (notes_to h c) ≡ 257
  unfolding notes_to
  noted-length zero = length-replicate {A = ℕ} 257 0
  noted-length (suc c) = kept-length (notes_to h c) (card_at h c) ∙ noted-length c

  line-noted : (v : ℕ) → v < 256 → (c : ℕ)
      → get_or (notes_to h c) (1 + v) 0 ≡ noted_to (states_line h v) (λ i. byte_in (card_at h i) 32) c
  unfolding notes_to noted_to states_line
  line-noted v l zero = get_or-replicate 257 (1 + v) 0 0 (omega arith)
  line-noted v l (suc c) =
      let s = card_at h c in
      at_line (notes_to h c) s v (omega (arith, noted-length c))
      ∙ ap (λ n. cond (eqb (layout_of s) 8 && eqb (byte_in s 30) v) (noted n (byte_in s 32)) n) (line-noted v l c)

  grid_noted : (c : ℕ) → get_or (notes_to h c) 0 0 ≡ noted_to (states_grid h) (λ i. byte_in (card_at h i) 21) c
  unfolding notes_to noted_to states_grid
  grid_noted zero = get_or-replicate 257 0 0 0 (omega arith)
  grid_noted (suc c) =
      at_grid (notes_to h c) (card_at h c) (omega (arith, noted-length c))
      ∙ ap (λ n. cond (eqb (layout_of (card_at h c)) 12) (noted n (byte_in (card_at h c) 21)) n) (grid_noted c)

  -- the form of a card by the notes of all cards is the form that the header gives it
  pub form-noted : (s : List ℕ) → byte_in s 7 < 256 → form_by (notes_to h (cards_in h)) (layout_of s) s ≡ form_of h s
  unfolding form_by form_of line_form grid_form
  form-noted s l = rw (
    told-mark (byte_in s 32),
    told-mark (byte_in s 29),
    line-noted (byte_in s 7) l (cards_in h),
    grid_noted (cards_in h),
    only-told (states_line h (byte_in s 7)) (λ i. byte_in (card_at h i) 32) (cards_in h),
    only-told (states_grid h) (λ i. byte_in (card_at h i) 21) (cards_in h),
  )
