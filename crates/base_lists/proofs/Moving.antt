-- Laws of `count` under a map of the numbers: into other places, in another order, and with some left out.
-- Assumes nothing.
use mathlib.Core.Path.{◌≡◌, refl, sym, ◌∙◌, ap}
use mathlib.Core.Bool.{Bool, true, false, not, ◌&&◌, true≢false}
use Prim.Native.Nat.{ℕ, zero, suc, ◌+◌, ◌*◌, ◌/◌, ◌%◌, ◌≤◌, ◌<◌}
use native.Mathlib.Nat.{le_antisymm, le_step, lt-suc_self, not-suc-le-zero, add-zero}
use native.Mathlib.Nat.{mul_comm, mul-suc, mul-le-mul_left, mul-add-div, mul-add-mod_self_left, div-eq_of_lt, mod-eq_of_lt, mod-lt, div-lt_iff_lt-mul, div-add-mod}
use native.Mathlib.Decide.{ℕ_discrete}
use native.Mathlib.Omega.{arith}
use lib.Dec.{eqb}
use borrow.Author.Tests.{eq-eqb, ne_eqb}
use Rattle.base_lists.specs.Count.{bit, count, carried, Rearranged}
use Rattle.base_lists.proofs.Counting.{count_le, count-all, count_same}

-- the test p, with y taken out
abbrev without : ℕ → (ℕ → Bool) → ℕ → Bool
without y p i = not (eqb i y) && p i

without_other : (y : ℕ) (p : ℕ → Bool) (i : ℕ) → (i ≡ y → ⊥) → without y p i ≡ p i
without_other y p i h = rw (ne_eqb i y h)

without_one : (y : ℕ) (p : ℕ → Bool) (n : ℕ) → y < n → p y ≡ true → count p n ≡ suc (count (without y p) n)
unfolding count
without_one y p zero h e = absurd (not-suc-le-zero h)
without_one y p (suc n) h e = elim (ℕ_discrete n y) [
  | yes q ↦ rw (ap p q ∙ e, eq-eqb n y q, count_same (without y p) p n (λ i l. without_other y p i (λ r. omega arith))) (omega arith)
  | no q ↦ rw (without_one y p n (omega arith) e, without_other y p n q) (omega arith)
]

-- each place that passes p goes to a place of its own that passes q
pub record Into (p : ℕ → Bool) (n : ℕ) (q : ℕ → Bool) (m : ℕ) (f : ℕ → ℕ) : Type 0 where
  pub below : (i : ℕ) → i < n → p i ≡ true → f i < m
  pub passes : (i : ℕ) → i < n → p i ≡ true → q (f i) ≡ true
  pub apart : (i j : ℕ) → i < n → j < n → p i ≡ true → p j ≡ true → f i ≡ f j → i ≡ j

-- then no more pass p than q
pub count_into : (p : ℕ → Bool) (n : ℕ) (q : ℕ → Bool) (m : ℕ) (f : ℕ → ℕ) → Into p n q m f → count p n ≤ count q m
unfolding count
count_into p zero q m f h = omega arith
count_into p (suc n) q m f h = go (p n) refl (λ r k. count_into p n r m f k)
  where
    go : (b : Bool) → p n ≡ b → ((r : ℕ → Bool) → Into p n r m f → count p n ≤ count r m) → count p n + bit (p n) ≤ count q m
    go false e ih = rw (e, add-zero) (ih q (record {
      below = λ i l. h.below i (le_step l);
      passes = λ i l. h.passes i (le_step l);
      apart = λ i j l k. h.apart i j (le_step l) (le_step k);
    }))
    go true e ih =
        let one : count q m ≡ suc (count (without (f n) q) m) = without_one (f n) q m (h.below n (lt-suc_self n) e) (h.passes n (lt-suc_self n) e) in
        let rest : count p n ≤ count (without (f n) q) m = ih (without (f n) q) (record {
          below = λ i l. h.below i (le_step l);
          passes = λ i l t. without_other (f n) q (f i) (λ r. omega (arith, h.apart i n (le_step l) (lt-suc_self n) t e r)) ∙ h.passes i (le_step l) t;
          apart = λ i j l k. h.apart i j (le_step l) (le_step k);
        }) in
        rw e (omega arith)

-- numbers below n of which those that stay take the places below m, each one of its own: i goes to the place `to i`, and `from`
-- takes it back
pub record Placed (stays : ℕ → Bool) (n m : ℕ) : Type 0 where
  pub to : ℕ → ℕ
  pub from : ℕ → ℕ
  pub to_below : (i : ℕ) → i < n → stays i ≡ true → to i < m
  pub from_below : (i : ℕ) → i < m → from i < n
  pub from-stays : (i : ℕ) → i < m → stays (from i) ≡ true
  pub from-to : (i : ℕ) → i < n → stays i ≡ true → from (to i) ≡ i
  pub to-from : (i : ℕ) → i < m → to (from i) ≡ i

-- another order is one where all stay
abbrev pub all_stay : {n m : ℕ} → m ≡ n → Rearranged n → Placed (λ i. true) n m
all_stay e π = record {
  to = π.to;
  from = π.from;
  to_below = λ i l t. omega (arith, e, π.to_below i l);
  from_below = λ i l. π.from_below i (omega arith);
  from-stays = λ i l. refl;
  from-to = λ i l t. π.from-to i l;
  to-from = λ i l. π.to-from i (omega arith);
}

-- the way back, where all stay
abbrev pub back : {stays : ℕ → Bool} {n m : ℕ} (π : Placed stays n m) → ((i : ℕ) → i < n → stays i ≡ true) → Placed (λ i. true) m n
back π all = record {
  to = π.from;
  from = π.to;
  to_below = λ i l t. π.from_below i l;
  from_below = λ i l. π.to_below i l (all i l);
  from-stays = λ i l. refl;
  from-to = λ i l t. π.to-from i l;
  to-from = λ i l. π.from-to i l (all i l);
}

module _ {stays : ℕ → Bool} {n m : ℕ} (π : Placed stays n m) where
  -- a test that follows the numbers that stay, and that no other passes, counts the same
  pub count-placed : (p q : ℕ → Bool) → ((i : ℕ) → i < n → stays i ≡ true → q (π.to i) ≡ p i)
      → ((i : ℕ) → i < n → stays i ≡ false → p i ≡ false) → count q m ≡ count p n
  count-placed p q same none = le_antisymm
      (count_into q m p n π.from (record {
        below = λ i l t. π.from_below i l;
        passes = λ i l t. sym (same (π.from i) (π.from_below i l) (π.from-stays i l)) ∙ ap q (π.to-from i l) ∙ t;
        apart = λ i j l k s t e. sym (π.to-from i l) ∙ ap π.to e ∙ π.to-from j k;
      }))
      (count_into p n q m π.to (record {
        below = λ i l t. π.to_below i l (there i l t);
        passes = λ i l t. same i l (there i l t) ∙ t;
        apart = λ i j l k s t e. sym (π.from-to i l (there i l s)) ∙ ap π.from e ∙ π.from-to j k (there j k t);
      }))
    where
      there : (i : ℕ) → i < n → p i ≡ true → stays i ≡ true
      there i l t = go (stays i) refl
        where
          go : (b : Bool) → stays i ≡ b → b ≡ true
          go true e = refl
          go false e = absurd (true≢false (sym t ∙ none i l e))

  -- there are no more places than numbers
  pub placed_le : m ≤ n
  placed_le = omega (
    arith,
    count-all (λ i. true) m (λ i l. refl),
    count-placed stays (λ i. true) (λ i l t. sym t) (λ i l t. t),
    count_le stays n,
  )

-- a number is carried with its run, and keeps its place in the run
pub carried_at : (size : ℕ) (f : ℕ → ℕ) (c j : ℕ) → j < size → carried size f (size * c + j) ≡ size * f c + j
unfolding carried
carried_at size f c j h =
    let s : 0 < size = omega arith in
    let d : (size * c + j) / size ≡ c = mul-add-div s c j ∙ ap (λ n. c + n) (div-eq_of_lt h) ∙ add-zero c in
    let m : (size * c + j) % size ≡ j = mul-add-mod_self_left size c j ∙ mod-eq_of_lt h in
    rw (d, m)

-- its run is carried
pub carried_run : (size : ℕ) (f : ℕ → ℕ) → 0 < size → (i : ℕ) → carried size f i / size ≡ f (i / size)
unfolding carried
carried_run size f s i =
    mul-add-div s (f (i / size)) (i % size) ∙ ap (λ n. f (i / size) + n) (div-eq_of_lt (mod-lt i s)) ∙ add-zero (f (i / size))

-- carried with its run to one below m, a number is one of m runs
pub carried_below : (size m : ℕ) (f : ℕ → ℕ) → 0 < size → (i : ℕ) → f (i / size) < m → carried size f i < size * m
unfolding carried
carried_below size m f s i h =
    let e : size * suc (f (i / size)) ≤ size * m = mul-le-mul_left size h in
    omega (arith, mul-suc size (f (i / size)), mod-lt i s)

-- carried by a map and by one that takes its run back, a number is back
pub carried_back : (size : ℕ) (f g : ℕ → ℕ) → 0 < size → (i : ℕ) → g (f (i / size)) ≡ i / size → carried size g (carried size f i) ≡ i
unfolding carried
carried_back size f g s i h = carried_at size g (f (i / size)) (i % size) (mod-lt i s) ∙ rw h (div-add-mod i size)

-- the run of a number of n runs is below n
pub run_below : (size n : ℕ) → 0 < size → (i : ℕ) → i < size * n → i / size < n
run_below size n s i l = (div-lt_iff_lt-mul s).1 (rw (mul_comm size n) at l)

-- runs that are placed place the numbers in them
abbrev pub spread : (size : ℕ) → 0 < size → {stays : ℕ → Bool} {n m : ℕ} → Placed stays n m
    → Placed (λ i. stays (i / size)) (size * n) (size * m)
spread size s {stays} {n} {m} π = record {
  to = carried size π.to;
  from = carried size π.from;
  to_below = λ i l t. carried_below size m π.to s i (π.to_below (i / size) (run_below size n s i l) t);
  from_below = λ i l. carried_below size n π.from s i (π.from_below (i / size) (run_below size m s i l));
  from-stays = λ i l. ap stays (carried_run size π.from s i) ∙ π.from-stays (i / size) (run_below size m s i l);
  from-to = λ i l t. carried_back size π.to π.from s i (π.from-to (i / size) (run_below size n s i l) t);
  to-from = λ i l. carried_back size π.from π.to s i (π.to-from (i / size) (run_below size m s i l));
}
