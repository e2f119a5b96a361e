-- The bytes of a card by its five rows of sixteen.
use Prim.Native.Nat.{ℕ, zero, suc, ◌+◌, ◌-◌, ◌≤◌, ◌<◌}
use native.Mathlib.Numerals.{add-one}
use native.Mathlib.Omega.{arith}
use native.Mathlib.Decide.{dec_lt}
use mathlib.Core.Path.{◌≡◌, refl, sym, ap, ◌∙◌}
use mathlib.Core.List.{List}
use mathlib.Core.Bool.{true≢false, Bool, true, false, not, ◌&&◌}
use lib.ListN.{length, get_or}
use lib.Dec.{eqb}
use Rattle.base_lists.proofs.Finding.{first-none}
use borrow.Author.Tests.{ne_eqb, le-leb, eqb-true}
use Rattle.value_text.specs.printable.Bytes.{good_at, bad_at, first_bad}
use Rattle.value_text.specs.packed.Rows.{good_to, good_card}

both : (a b : Bool) → a && b ≡ true → (a ≡ true) × (b ≡ true)
both true true e = (refl, refl)
both true false e = (refl, e)
both false b e = absurd (true≢false (sym e))

-- a byte that is printable
pub good_byte : (s : List ℕ) (i : ℕ) → 32 ≤ get_or s i 0 → get_or s i 0 ≤ 126 → bad_at s i ≡ false
good_byte s i h k = rw (le-leb 32 (get_or s i 0) h, le-leb (get_or s i 0) 126 k)

-- all bytes of a card printable: one more in each of its rows, and the end
pub good_more : (s : List ℕ) (i : ℕ) (b g₀ g₁ g₂ g₃ g₄ : Bool) → b ≡ good_to s i
    → g₀ ≡ good_at s i → g₁ ≡ good_at s (i + 16) → g₂ ≡ good_at s (i + 32) → g₃ ≡ good_at s (i + 48) → g₄ ≡ good_at s (i + 64)
    → b && (((g₀ && g₁) && (g₂ && g₃)) && g₄) ≡ good_to s (i + 1)
unfolding good_to
good_more s i b g₀ g₁ g₂ g₃ g₄ e q₀ q₁ q₂ q₃ q₄ = rw (add-one, e, q₀, q₁, q₂, q₃, q₄)

-- the byte at a place of a row, by the row's number
good_row : (s : List ℕ) (n i : ℕ) → good_to s n ≡ true → i < n
    → (good_at s i ≡ true) × (good_at s (i + 16) ≡ true) × (good_at s (i + 32) ≡ true) × (good_at s (i + 48) ≡ true) × (good_at s (i + 64) ≡ true)
unfolding good_to
good_row s zero i g h = absurd (omega arith)
good_row s (suc n) i g h =
    let front = good_at s n && good_at s (n + 16) in
    let back = good_at s (n + 32) && good_at s (n + 48) in
    let t = both (good_to s n) ((front && back) && good_at s (n + 64)) g in
    elim (dec_lt i n) [
      | yes l ↦ good_row s n i t.0 l
      | no l ↦
          let e : n ≡ i = omega arith in
          let u = both (front && back) (good_at s (n + 64)) t.1 in
          let v = both front back u.0 in
          let a = both (good_at s n) (good_at s (n + 16)) v.0 in
          let b = both (good_at s (n + 32)) (good_at s (n + 48)) v.1 in
          (rw (← e) a.0, rw (← e) a.1, rw (← e) b.0, rw (← e) b.1, rw (← e) u.1)
    ]

placed : (s : List ℕ) (i j : ℕ) → i ≡ j → good_at s i ≡ true → bad_at s j ≡ false
placed s i j e g = ap not (ap (good_at s) (sym e) ∙ g)

good_place : (s : List ℕ) → good_to s 16 ≡ true → (j : ℕ) → j < 80 → bad_at s j ≡ false
good_place s g j h = elim (dec_lt j 16) [
  | yes a ↦ ap not (good_row s 16 j g a).0
  | no a ↦ elim (dec_lt j 32) [
    | yes b ↦ placed s (j - 16 + 16) j (omega arith) (good_row s 16 (j - 16) g (omega arith)).1
    | no b ↦ elim (dec_lt j 48) [
      | yes c ↦ placed s (j - 32 + 32) j (omega arith) (good_row s 16 (j - 32) g (omega arith)).2
      | no c ↦ elim (dec_lt j 64) [
        | yes d ↦ placed s (j - 48 + 48) j (omega arith) (good_row s 16 (j - 48) g (omega arith)).3
        | no d ↦ placed s (j - 64 + 64) j (omega arith) (good_row s 16 (j - 64) g (omega arith)).4
      ]
    ]
  ]
]

pub all_good : (s : List ℕ) (b : Bool) → b ≡ good_card s → b ≡ true → 80 ≡ first_bad s
unfolding first_bad good_card
all_good s b e t =
    let g = both (eqb (length s) 80) (good_to s 16) (sym e ∙ t) in
    let whole : length s ≡ 80 = eqb-true (length s) 80 g.0 in
    rw whole (sym (first-none (bad_at s) 80 (good_place s g.1)))

pub not-whole : (s : List ℕ) → (length s ≡ 80 → ⊥) → false ≡ good_card s
unfolding good_card
not-whole s h = rw (ne_eqb (length s) 80 h)

pub whole_good : (s : List ℕ) (b : Bool) → length s ≡ 80 → b ≡ good_to s 16 → b ≡ good_card s
unfolding good_card
whole_good s b h e = rw (h, e)
