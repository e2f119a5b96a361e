-- The answer tells: from its bytes the refusal, or the number and every entry told, can be had again.
use Prim.Native.Nat.{ℕ, zero, suc, ◌+◌, ◌*◌, ◌/◌, ◌%◌, ◌^◌, ◌≤◌, ◌<◌, min}
use native.Mathlib.Nat.{mod-eq_of_lt}
use native.Mathlib.Omega.{arith}
use native.Mathlib.Decide.{dec_lt}
use mathlib.Core.Path.{◌≡◌, refl, sym, ap, ap₂, ◌∙◌}
use mathlib.Core.List.{List, [], ◌∷◌, ◌++◌, append_assoc, append-nil}
use lib.ListN.{length, get_or, drop}
use lib.Seq.{drop-append_seam}
use Rattle.base_digits.specs.digits.Digits.{digits, size}
use Rattle.base_digits.specs.digits.Figures.{leading, value_from}
use Rattle.base_digits.proofs.digits.Numbers.{digits_lead, digits_value, size_enough}
use Rattle.tie_rules.specs.Faults.{entry_size}
use Rattle.crew_answer.specs.lines.Text.{numeral, spaced, refused_text, count_text, entry_text, number_at, entry_at, entries_text, most, told, broken_text}

-- a number of the machine has at most twenty digits
abbrev pub Small : ℕ → Type 0
Small n = n < 10 ^ 20

value_again : (n : ℕ) → Small n → value_from 0 (numeral n) ≡ n
unfolding numeral
value_again n h =
    digits_value 0 (size n) n
    ∙ (let e : n % 10 ^ size n ≡ n = mod-eq_of_lt (size_enough 20 n h) in omega (arith, e))

-- every number of a list is one
abbrev pub SmallOnes : List ℕ → Type 0
SmallOnes l = (i : ℕ) → Small (get_or l i 0)

-- a numeral ends before what begins with no digit
numeral_leads : (n : ℕ) (r : List ℕ) → leading r ≡ [] → leading (numeral n ++ r) ≡ numeral n
unfolding numeral
numeral_leads n r e = digits_lead (size n) n r ∙ rw e (append-nil (digits (size n) n))

number-told : (n m : ℕ) (r s : List ℕ) → Small n → Small m → leading r ≡ [] → leading s ≡ []
    → numeral n ++ r ≡ numeral m ++ s → (n ≡ m) × (r ≡ s)
number-told n m r s sn sm nr ns q =
    let p : numeral n ≡ numeral m = sym (numeral_leads n r nr) ∙ ap leading q ∙ numeral_leads m s ns in
    let b : drop (length (numeral n)) (numeral m ++ s) ≡ s = rw p (drop-append_seam (numeral m) s) in (
      sym (value_again n sn) ∙ ap (value_from 0) p ∙ value_again m sm,
      sym (drop-append_seam (numeral n) r) ∙ ap (drop (length (numeral n))) q ∙ b,
    )

-- numbers, each behind a space, the end of the line, and something behind it
unfoldable line : List ℕ → List ℕ → List ℕ
line [] r = 10 ∷ r
line (n ∷ ns) r = 32 ∷ (numeral n ++ line ns r)

no_digit : (ns r : List ℕ) → leading (line ns r) ≡ []
unfolding line leading
no_digit [] r = refl
no_digit (n ∷ ns) r = refl

tail_same : {d e : ℕ} {r s : List ℕ} → d ∷ r ≡ e ∷ s → r ≡ s
tail_same q = ap (drop 1) q

-- two lines with as many numbers have the same ones
line-told : (ns ms : List ℕ) → length ns ≡ length ms → SmallOnes ns → SmallOnes ms → (r s : List ℕ)
    → line ns r ≡ line ms s → (ns ≡ ms) × (r ≡ s)
unfolding line
line-told [] [] e a b r s q = (refl, tail_same q)
line-told [] (m ∷ ms) e a b r s q = absurd (omega (arith, e))
line-told (n ∷ ns) [] e a b r s q = absurd (omega (arith, e))
line-told (n ∷ ns) (m ∷ ms) e a b r s q =
    let f = number-told n m (line ns r) (line ms s) (a 0) (b 0) (no_digit ns r) (no_digit ms s) (tail_same q) in
    let g = line-told ns ms (omega (arith, e)) (λ i. a (suc i)) (λ i. b (suc i)) r s f.1 in
    (ap₂ (λ (i : ℕ) (l : List ℕ). i ∷ l) f.0 g.0, g.1)

-- two refusals with one text are one refusal
pub refused_tells : (a b c x y z : ℕ) → SmallOnes (a ∷ b ∷ c ∷ []) → SmallOnes (x ∷ y ∷ z ∷ [])
    → refused_text a b c ≡ refused_text x y z → (a ∷ b ∷ c ∷ []) ≡ (x ∷ y ∷ z ∷ [])
unfolding refused_text spaced line
refused_tells a b c x y z sa sx q =
    (line-told (a ∷ b ∷ c ∷ []) (x ∷ y ∷ z ∷ []) refl sa sx [] [] (sym (flat a b c) ∙ ap (drop 7) q ∙ flat x y z)).0
  where
    flat : (a b c : ℕ) → (32 ∷ numeral a) ++ (32 ∷ numeral b) ++ (32 ∷ numeral c) ++ (10 ∷ []) ≡ line (a ∷ b ∷ c ∷ []) []
    flat a b c =
        append_assoc ((32 ∷ numeral a) ++ (32 ∷ numeral b)) (32 ∷ numeral c) (10 ∷ [])
        ∙ append_assoc (32 ∷ numeral a) (32 ∷ numeral b) (32 ∷ (numeral c ++ 10 ∷ []))

-- the numbers of the entry with a number, from 0
abbrev pub numbers_at : List ℕ → ℕ → List ℕ
numbers_at l i = number_at l i 0 ∷ number_at l i 1 ∷ number_at l i 2 ∷ number_at l i 3 ∷ []

small_numbers : (l : List ℕ) → SmallOnes l → (i : ℕ) → SmallOnes (numbers_at l i)
small_numbers l s i zero = s (entry_size * i + 0)
small_numbers l s i (suc zero) = s (entry_size * i + 1)
small_numbers l s i (suc (suc zero)) = s (entry_size * i + 2)
small_numbers l s i (suc (suc (suc zero))) = s (entry_size * i + 3)
small_numbers l s i (suc (suc (suc (suc j)))) = omega arith

-- the line of an entry with a space before it and something behind it
entry-line : (l : List ℕ) (i : ℕ) (r : List ℕ) → 32 ∷ (entry_at l i ++ r) ≡ line (numbers_at l i) r
unfolding entry_at entry_text spaced line
entry-line l i r = ap (λ t. 32 ∷ t) (flat (number_at l i 0) (number_at l i 1) (number_at l i 2) (number_at l i 3))
  where
    flat : (a b c d : ℕ)
        → (numeral a ++ (32 ∷ numeral b) ++ (32 ∷ numeral c) ++ (32 ∷ numeral d) ++ (10 ∷ [])) ++ r
        ≡ numeral a ++ 32 ∷ (numeral b ++ 32 ∷ (numeral c ++ 32 ∷ (numeral d ++ 10 ∷ r)))
    flat a b c d =
        append_assoc (numeral a ++ (32 ∷ numeral b) ++ (32 ∷ numeral c) ++ (32 ∷ numeral d)) (10 ∷ []) r
        ∙ append_assoc (numeral a ++ (32 ∷ numeral b) ++ (32 ∷ numeral c)) (32 ∷ numeral d) (10 ∷ r)
        ∙ append_assoc (numeral a ++ (32 ∷ numeral b)) (32 ∷ numeral c) (32 ∷ (numeral d ++ 10 ∷ r))
        ∙ append_assoc (numeral a) (32 ∷ numeral b) (32 ∷ (numeral c ++ 32 ∷ (numeral d ++ 10 ∷ r)))

module _ (l k : List ℕ) (sl : SmallOnes l) (sk : SmallOnes k) where
  entries-told : (t : ℕ) (r s : List ℕ) → entries_text l t ++ r ≡ entries_text k t ++ s
      → ((i : ℕ) → i < t → numbers_at l i ≡ numbers_at k i) × (r ≡ s)
  unfolding entries_text
  entries-told zero r s q = (λ i h. absurd (omega arith), q)
  entries-told (suc t) r s q =
      let f = entries-told t (entry_at l t ++ r) (entry_at k t ++ s)
      (sym (append_assoc (entries_text l t) (entry_at l t) r) ∙ q ∙ append_assoc (entries_text k t) (entry_at k t) s) in
      let g = line-told (numbers_at l t) (numbers_at k t) refl (small_numbers l sl t) (small_numbers k sk t) r s
      (sym (entry-line l t r) ∙ ap (λ w. 32 ∷ w) f.1 ∙ entry-line k t s) in
      (λ i h. elim (dec_lt i t) [ yes m ↦ f.0 i m | no m ↦ let e : i ≡ t = omega arith in rw e g.0 ], g.1)

  -- two lists with one text have the same number of faults, and every entry that is told is the same
  pub broken_tells : (n m : ℕ) → Small n → Small m
      → entry_size * min n most ≤ length l → entry_size * min m most ≤ length k
      → broken_text n l ≡ broken_text m k → (n ≡ m) × ((i : ℕ) → i < min n most → numbers_at l i ≡ numbers_at k i)
  unfolding broken_text count_text told spaced leading
  broken_tells n m sn sm rl rk q =
      let tl : min (min n most) (length l / entry_size) ≡ min n most = omega arith in
      let tk : min (min m most) (length k / entry_size) ≡ min m most = omega arith in
      let e : numeral n ++ (10 ∷ []) ++ entries_text l (min n most) ≡ numeral m ++ (10 ∷ []) ++ entries_text k (min m most)
      = sym (ap (λ t. numeral n ++ (10 ∷ []) ++ entries_text l t) tl) ∙ ap (drop 7) q ∙ ap (λ t. numeral m ++ (10 ∷ []) ++ entries_text k t) tk in
      let f = number-told n m (10 ∷ entries_text l (min n most)) (10 ∷ entries_text k (min m most)) sn sm refl refl
      (sym (append_assoc (numeral n) (10 ∷ []) (entries_text l (min n most))) ∙ e ∙ append_assoc (numeral m) (10 ∷ []) (entries_text k (min m most))) in
      let g : entries_text l (min n most) ++ [] ≡ entries_text k (min n most) ++ []
      = ap (λ t. t ++ []) (tail_same f.1 ∙ ap (λ v. entries_text k (min v most)) (sym f.0)) in
      (f.0, (entries-told (min n most) [] [] g).0)

-- no text says both
pub never_both : (a b c n : ℕ) (l : List ℕ) → refused_text a b c ≡ broken_text n l → ⊥
unfolding refused_text broken_text count_text
never_both a b c n l q = let e : ◌≡◌ {A = ℕ} 114 98 = ap (λ s. get_or s 0 0) q in omega (arith, e)
