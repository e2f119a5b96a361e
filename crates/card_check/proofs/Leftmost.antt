-- Walking from field to field finds the first column with an offence.
use Prim.Native.Nat.{ℕ, zero, suc, ◌+◌, ◌-◌, ◌≤◌, ◌<◌}
use native.Mathlib.Omega.{arith}
use native.Mathlib.Nat.{add-zero}
use native.Mathlib.Numerals.{add-one}
use native.Mathlib.Decide.{ℕ_discrete}
use mathlib.Core.Path.{◌≡◌, refl, sym, ap, ◌∙◌}
use mathlib.Core.List.{List, [], ◌∷◌}
use mathlib.Core.Bool.{Bool, true, false, cond, not}
use lib.Dec.{T, eqb, ltb}
use borrow.Author.Tests.{eq-eqb, ne_eqb, le-leb, lt-leb, lt-ltb, le-ltb}
use Rattle.base_lists.specs.Count.{first_from}
use Rattle.base_lists.proofs.Finding.{stops, goes}
use Rattle.format_layout.specs.declared.Field.{Field}
use Rattle.format_layout.specs.declared.Form.{Form}
use Rattle.format_layout.proofs.Columns.{is_in_order, Lies, front, rest}
use Rattle.card_check.specs.Judging.{field_offence, filled_at, gap_offence, column_offence, next_verdict, verdict_at, verdict_from}
use Rattle.std.specs.Prelude.{Result, Ok, Err, ⊤}
use Rattle.card_check.specs.declared.Offence.{Offence}
use Rattle.base_refusal.specs.Refusals.{no_refusal}
use Rattle.card_check.specs.Verdicts.{offending}

module _ (offence : ℕ → ℕ) where
  -- a column with an offence decides
  pub decides : (c : ℕ) → c ≤ 80 → (offence c ≡ 0 → ⊥) → verdict_from offence c ≡ Err (offending (offence c) c)
  unfolding verdict_from verdict_at
  decides c h e =
      rw (stops (λ j. not (eqb (offence j) 0)) 81 c (omega arith) (ap not (ne_eqb (offence c) 0 e)), le-leb c 80 h)

  -- one without goes on to the next
  pub passes : (c : ℕ) → c ≤ 80 → offence c ≡ 0 → verdict_from offence c ≡ verdict_from offence (suc c)
  unfolding verdict_from
  passes c h e =
      ap (verdict_at offence) (goes (λ j. not (eqb (offence j) 0)) 81 c (omega arith) (ap not (eq-eqb (offence c) 0 e)))
      ∙ ap (verdict_from offence) (add-one c)

  pub ends : verdict_from offence 81 ≡ no_refusal
  unfolding verdict_from verdict_at first_from
  ends = refl

  -- so many without
  pub skips : (n c : ℕ) → c + n ≤ 81 → ((j : ℕ) → c ≤ j → j < c + n → offence j ≡ 0) → verdict_from offence c ≡ verdict_from offence (c + n)
  skips zero c h none = ap (verdict_from offence) (sym (add-zero c))
  skips (suc n) c h none =
      passes c (omega arith) (none c (omega arith) (omega arith))
      ∙ skips n (suc c) (omega arith) (λ j a b. none j (omega arith) (omega arith))
      ∙ ap (verdict_from offence) (omega arith)

-- where two give every column from c on the same offence, their verdict is the same
agrees : (p q : ℕ → ℕ) (n c : ℕ) → c + n ≡ 81 → ((j : ℕ) → c ≤ j → p j ≡ q j) → verdict_from p c ≡ verdict_from q c
agrees p q zero c h same =
    let e : c ≡ 81 = omega arith in
    rw e (ends p ∙ sym (ends q))
agrees p q (suc n) c h same = elim (ℕ_discrete (p c) 0) [
  | yes z ↦
      passes p c (omega arith) z
      ∙ agrees p q n (suc c) (omega arith) (λ j a. same j (omega arith))
      ∙ sym (passes q c (omega arith) (sym (same c (omega arith)) ∙ z))
  | no z ↦
      decides p c (omega arith) z
      ∙ ap (λ n. Err (offending n c)) (same c (omega arith))
      ∙ sym (decides q c (omega arith) (λ y. z (same c (omega arith) ∙ y)))
]

pub agree : (p q : ℕ → ℕ) (c : ℕ) → c ≤ 81 → ((j : ℕ) → c ≤ j → p j ≡ q j) → verdict_from p c ≡ verdict_from q c
agree p q c h same = agrees p q (81 - c) c (omega arith) same

-- columns that no field covers
module _ (s : List ℕ) (offence : ℕ → ℕ) where
  pub gap : (n c : ℕ) → c + n ≤ 81 → ((j : ℕ) → c ≤ j → j < c + n → offence j ≡ gap_offence s j)
      → verdict_from offence c
      ≡ cond (ltb (first_from (filled_at s) n c) (c + n)) (Err (offending 7 (first_from (filled_at s) n c))) (verdict_from offence (c + n))
  unfolding first_from gap_offence
  gap zero c h is = rw (add-zero c, le-ltb c c (omega arith))
  gap (suc n) c h is = go (filled_at s c) refl (gap n (suc c) (omega arith) (λ j a b. is j (omega arith) (omega arith)))
    where
      e : c + suc n ≡ suc c + n
      e = omega arith

      seven : (b : Bool) → filled_at s c ≡ b → offence c ≡ cond b 7 0
      seven b q = is c (omega arith) (omega arith) ∙ rw q

      go : (b : Bool) → filled_at s c ≡ b
          → verdict_from offence (suc c)
          ≡ cond (ltb (first_from (filled_at s) n (suc c)) (suc c + n)) (Err (offending 7 (first_from (filled_at s) n (suc c)))) (verdict_from offence (suc c + n))
          → verdict_from offence c
          ≡ cond (ltb (cond b c (first_from (filled_at s) n (suc c))) (c + suc n)) (Err (offending 7 (cond b c (first_from (filled_at s) n (suc c))))) (verdict_from offence (c + suc n))
      go true q ih =
          rw (lt-ltb c (c + suc n) (omega arith))
          (decides offence c (omega arith) (λ z. absurd (omega (arith, seven true q))) ∙ ap (λ n. Err (offending n c)) (seven true q))
      go false q ih = rw e (passes offence c (omega arith) (seven false q) ∙ ih)

-- first one verdict, then another
abbrev pub then_on : Result ⊤ Offence → Result ⊤ Offence → Result ⊤ Offence
then_on (Ok _) v = v
then_on (Err o) v = Err o

module _ (k : ℕ) (form : Form) (s : List ℕ) where
  -- a column before all fields
  before-all : (c : ℕ) (fs : List Field) → T (is_in_order c fs) → (j : ℕ) → j < c → column_offence k form s fs j ≡ gap_offence s j
  unfolding column_offence
  before-all c [] t j h = refl
  before-all c (f ∷ fs) t j h =
      let l = front c f fs t in
      rw (ne_eqb j f.first (λ q. absurd (omega (arith, l.after))), lt-leb f.first j (omega (arith, l.after)))
      (before-all (suc f.last) fs (rest c f fs t) j (omega (arith, l.after, l.forward)))

  module _ (f : Field) (fs : List Field) (c : ℕ) (t : T (is_in_order c (f ∷ fs))) where
    abbrev here : ℕ → ℕ
    here = column_offence k form s (f ∷ fs)

    abbrev later : ℕ → ℕ
    later = column_offence k form s fs

    lie : Lies c f
    lie = front c f fs t

    before-field : (j : ℕ) → j < f.first → here j ≡ gap_offence s j
    unfolding column_offence
    before-field j h =
        rw (ne_eqb j f.first (λ q. absurd (omega arith)), lt-leb f.first j h)
        (before-all (suc f.last) fs (rest c f fs t) j (omega (arith, lie.forward)))

    at_first : here f.first ≡ field_offence k form s f
    unfolding column_offence
    at_first = rw (eq-eqb f.first f.first refl)

    inside : (j : ℕ) → f.first < j → j ≤ f.last → here j ≡ 0
    unfolding column_offence
    inside j a b = rw (ne_eqb j f.first (λ q. absurd (omega arith)), le-leb f.first j (omega arith), le-leb j f.last b)

    behind : (j : ℕ) → f.last < j → here j ≡ later j
    unfolding column_offence
    behind j h =
        rw (ne_eqb j f.first (λ q. absurd (omega (arith, lie.forward))), le-leb f.first j (omega (arith, lie.forward)), lt-leb j f.last h)

    from_field : verdict_from here f.first
        ≡ then_on (cond (eqb (field_offence k form s f) 0) no_refusal (Err (offending (field_offence k form s f) f.first))) (verdict_from later (f.last + 1))
    from_field = elim (ℕ_discrete (field_offence k form s f) 0) [
      | yes z ↦
          let w : f.first + (f.last + 1 - f.first) ≡ f.last + 1 = omega (arith, lie.forward) in
          rw (eq-eqb (field_offence k form s f) 0 z)
          (skips here (f.last + 1 - f.first) f.first (omega (arith, lie.forward, lie.on_card)) (λ j a b. none z j a (omega (arith, w)))
          ∙ ap (verdict_from here) w
          ∙ agree here later (f.last + 1) (omega (arith, lie.on_card)) (λ j a. behind j (omega arith)))
      | no z ↦
          rw (ne_eqb (field_offence k form s f) 0 z)
          (decides here f.first (omega (arith, lie.forward, lie.on_card)) (λ y. z (sym at_first ∙ y)) ∙ ap (λ n. Err (offending n f.first)) at_first)
    ]
      where
        none : field_offence k form s f ≡ 0 → (j : ℕ) → f.first ≤ j → j < f.last + 1 → here j ≡ 0
        none z j a b = elim (ℕ_discrete f.first j) [
          | yes q ↦ ap here (sym q) ∙ at_first ∙ z
          | no q ↦ inside j (omega arith) (omega arith)
        ]

    -- the columns up to a field, the field, and then the columns behind it
    pub next_field : verdict_from here c ≡ then_on (next_verdict k form s f c) (verdict_from later (f.last + 1))
    unfolding next_verdict
    next_field = gap s here (f.first - c) c (omega (arith, lie.after, lie.forward, lie.on_card)) (λ j a b. before-field j (omega (arith, e))) ∙ rw e (go (ltb (first_from (filled_at s) (f.first - c) c) f.first) (first_from (filled_at s) (f.first - c) c))
      where
        e : c + (f.first - c) ≡ f.first
        e = omega (arith, lie.after)

        go : (b : Bool) (q : ℕ)
            → cond b (Err (offending 7 q)) (verdict_from here f.first)
            ≡ then_on (cond b (Err (offending 7 q)) (cond (eqb (field_offence k form s f) 0) no_refusal (Err (offending (field_offence k form s f) f.first)))) (verdict_from later (f.last + 1))
        go true q = refl
        go false q = from_field
