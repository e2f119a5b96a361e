-- The first row whose test holds: found by its place, and nothing is given where no test holds.
use Prim.Native.Nat.{ℕ, zero, suc, ◌<◌}
use native.Mathlib.Omega.{arith}
use mathlib.Core.Path.{◌≡◌, refl, sym, ap, subst, ◌∙◌}
use mathlib.Core.List.{List, [], ◌∷◌, ◌++◌}
use mathlib.Core.Bool.{Bool, true, false, cond, false≢true}
use mathlib.Core.Logic.{◌↔◌}
use Rattle.base_refusal.specs.declared.Refusal.{Refusal}
use Rattle.value_field.proofs.spelling.Absence.{zero_one}
use Rattle.card_laws.specs.exactly.Rows.{Row, given, row_at, Decides, Exactly}
use Rattle.std.specs.Prelude.{Option, None, Some}

-- one table behind another
abbrev pub or_else : Option Refusal → Option Refusal → Option Refusal
or_else None b = b
or_else (Some r) b = Some r

pub given-append : (a b : List Row) → given (a ++ b) ≡ or_else (given a) (given b)
unfolding given
given-append [] b = refl
given-append (r ∷ a) b = go r.test (given-append a b)
  where
    go : (t : Bool) → given (a ++ b) ≡ or_else (given a) (given b)
        → cond t (Some r.gives) (given (a ++ b)) ≡ or_else (cond t (Some r.gives) (given a)) (given b)
    go true e = refl
    go false e = e

module _ (r : Row) (rows : List Row) where
  given_here : r.test ≡ true → given (r ∷ rows) ≡ Some r.gives
  unfolding given
  given_here h = rw h

  given_on : r.test ≡ false → given (r ∷ rows) ≡ given rows
  unfolding given
  given_on h = rw h

some_same : (a b : Refusal) → Some a ≡ Some b → a ≡ b
some_same a b e = cc

some-none : (a : Refusal) → Some a ≡ None → ⊥
some-none a e = zero_one cc

bool : {A : Type 0} (b : Bool) → (b ≡ true → A) → (b ≡ false → A) → A
bool true t f = t refl
bool false t f = f refl

-- the row that gives a refusal
abbrev By : List Row → Refusal → Type 0
By rows r = (i : ℕ) × Decides rows i × ((row_at rows i).gives ≡ r)

front : (x : Row) (rows : List Row) → x.test ≡ true → By (x ∷ rows) x.gives
unfolding row_at
front x rows h = (0, record { holds = h; none_before = λ j b. absurd (omega arith) }, refl)

later : (x : Row) (rows : List Row) (r : Refusal) → x.test ≡ false → By rows r → By (x ∷ rows) r
unfolding row_at
later x rows r h f = (suc f.0, record { holds = f.1.holds; none_before = before f.1.none_before }, f.2)
  where
    before : {i : ℕ} → ((j : ℕ) → j < i → (row_at rows j).test ≡ false) → (j : ℕ) → j < suc i → (row_at (x ∷ rows) j).test ≡ false
    before n zero b = h
    before n (suc j) b = n j (omega arith)

decided : (rows : List Row) (r : Refusal) → given rows ≡ Some r → By rows r
unfolding given
decided [] r e = absurd (some-none r (sym e))
decided (x ∷ rows) r e = bool x.test
    (λ h. subst (By (x ∷ rows)) (some_same x.gives r (sym (given_here x rows h) ∙ e)) (front x rows h))
    (λ h. later x rows r h (decided rows r (sym (given_on x rows h) ∙ e)))

-- and what a row that decides gives
gave : (rows : List Row) (i : ℕ) → Decides rows i → given rows ≡ Some (row_at rows i).gives
unfolding given row_at
gave [] zero d = absurd (false≢true d.holds)
gave [] (suc i) d = absurd (false≢true d.holds)
gave (x ∷ rows) zero d = given_here x rows d.holds
gave (x ∷ rows) (suc i) d =
    given_on x rows (d.none_before 0 (omega arith))
    ∙ gave rows i (record { holds = d.holds; none_before = λ j b. d.none_before (suc j) (omega arith) })

-- no test holds
nothing : (rows : List Row) → given rows ≡ None → (i : ℕ) → (row_at rows i).test ≡ false
unfolding given row_at
nothing [] e zero = refl
nothing [] e (suc i) = refl
nothing (x ∷ rows) e i = bool x.test
    (λ h. absurd (some-none x.gives (sym (given_here x rows h) ∙ e)))
    (λ h. go i h (nothing rows (sym (given_on x rows h) ∙ e)))
  where
    go : (i : ℕ) → x.test ≡ false → ((j : ℕ) → (row_at rows j).test ≡ false) → (row_at (x ∷ rows) i).test ≡ false
    go zero h n = h
    go (suc i) h n = n i

none-given : (rows : List Row) → ((i : ℕ) → (row_at rows i).test ≡ false) → given rows ≡ None
unfolding given row_at
none-given [] n = refl
none-given (x ∷ rows) n = given_on x rows (n 0) ∙ none-given rows (λ i. n (suc i))

-- where an answer's refusal is the one that the table gives, the operation is refused exactly as the table says
pub exactly : {Refused : Refusal → Type 0} {Done : Type 0} (rows : List Row) (answer : Option Refusal) → answer ≡ given rows
    → ((r : Refusal) → Refused r ↔ (answer ≡ Some r)) → Done ↔ (answer ≡ None) → Exactly rows Refused Done
exactly rows answer q as-refused as-done =
    record {
      refused = λ r. (
        λ x. decided rows r (sym q ∙ (as-refused r).0 x),
        λ f. (as-refused r).1 (q ∙ gave rows f.0 f.1 ∙ ap Some f.2),
      );
      numbered = λ n. (
        λ a. let f = decided rows a.0 (sym q ∙ (as-refused a.0).0 a.1) in
            (f.0, f.1, ap (λ (r : Refusal). r.number) f.2 ∙ a.2),
        λ f. ((row_at rows f.0).gives, (as-refused (row_at rows f.0).gives).1 (q ∙ gave rows f.0 f.1), f.2),
      );
      done = (λ d. nothing rows (sym q ∙ as-done.0 d), λ n. as-done.1 (q ∙ none-given rows n));
    }
