-- The walk along the opening block: whether all cards so far belong to it, and whether an H00@8 is among them, card by card.
use Prim.Native.Nat.{ℕ, suc, ◌+◌, ◌≤◌, ◌<◌, min}
use native.Mathlib.Decide.{dec_lt, dec_le}
use native.Mathlib.Omega.{arith}
use mathlib.Core.Path.{◌≡◌, refl, sym, ◌∙◌}
use mathlib.Core.List.{List}
use mathlib.Core.Bool.{Bool, true, false, not, ◌&&◌, ◌||◌, true≢false}
use lib.Dec.{eqb, leb, ltb}
use borrow.Author.Tests.{lt-ltb, le-ltb, le-leb, lt-leb}
use Rattle.base_lists.specs.Count.{bit, count}
use Rattle.base_lists.proofs.Finding.{first_le, first_below, first_passes}
use Rattle.header_check.specs.forms.Cards.{card_at, cards_in, layout_of}
use Rattle.format_layout.specs.Names.{H00X8, H00X9}
use Rattle.header_check.specs.Opening.{continues, block_end, has_line, stands_at}

-- a test that failed
passed-not : (b : Bool) → not b ≡ false → b ≡ true
passed-not true e = refl
passed-not false e = absurd (true≢false e)

failed_not : (b : Bool) → not b ≡ true → b ≡ false
failed_not true e = absurd (true≢false (sym e))
failed_not false e = refl

or_false : (b : Bool) → b || false ≡ b
or_false true = refl
or_false false = refl

-- more than none, with one more or not
some_more : (n : ℕ) (b : Bool) → ltb 0 (n + bit b) ≡ ltb 0 n || b
some_more n true = elim (dec_lt 0 n) [
  | yes l ↦ lt-ltb 0 (n + 1) (omega arith) ∙ sym (rw (lt-ltb 0 n l))
  | no l ↦ lt-ltb 0 (n + 1) (omega arith) ∙ sym (rw (le-ltb 0 n (omega arith)))
]
some_more n false = elim (dec_lt 0 n) [
  | yes l ↦ lt-ltb 0 (n + 0) (omega arith) ∙ sym (rw (lt-ltb 0 n l))
  | no l ↦ le-ltb 0 (n + 0) (omega arith) ∙ sym (rw (le-ltb 0 n (omega arith)))
]

module _ (h : List ℕ) where
  pub block_le : block_end h ≤ cards_in h
  unfolding block_end
  block_le = first_le (λ c. not (continues h c)) (cards_in h)

  -- every card of the block goes on with it, and the first one behind it does not
  pub in_block : (c : ℕ) → c < block_end h → continues h c ≡ true
  unfolding block_end
  in_block c l = passed-not (continues h c) (first_below (λ d. not (continues h d)) (cards_in h) c l)

  pub block_ends : block_end h < cards_in h → continues h (block_end h) ≡ false
  unfolding block_end
  block_ends l = failed_not (continues h _) (first_passes (λ d. not (continues h d)) (cards_in h) l)

  -- the first cards, as many as c, belong to the block
  abbrev pub open_to : ℕ → Bool
  open_to c = leb c (block_end h)

  pub none_open : true ≡ open_to 0
  none_open = sym (le-leb 0 (block_end h) (omega arith))

  pub opens_on : (c : ℕ) → c < cards_in h → open_to (c + 1) ≡ open_to c && continues h c
  opens_on c l = elim (dec_lt c (block_end h)) [
    | yes m ↦ le-leb (c + 1) (block_end h) (omega arith) ∙ sym (rw (le-leb c (block_end h) (omega arith), in_block c m))
    | no m ↦ lt-leb (c + 1) (block_end h) (omega arith) ∙ sym (elim (dec_le c (block_end h)) [
      | yes n ↦
          let e : block_end h ≡ c = omega arith in
          rw (le-leb c (block_end h) n, ← e, block_ends (omega arith))
      | no n ↦ rw (lt-leb c (block_end h) (omega arith))
    ])
  ]

  -- an H00@8 is among those of them that belong to the block
  unfoldable pub line_to : ℕ → Bool
  line_to c = ltb 0 (count (λ d. eqb (layout_of (card_at h d)) H00X8) (min c (block_end h)))

  pub none-line : false ≡ line_to 0
  unfolding line_to count
  none-line =
      let p : min 0 (block_end h) ≡ 0 = omega arith in
      rw p

  pub line_on : (c : ℕ) → line_to (c + 1) ≡ line_to c || (open_to (c + 1) && eqb (layout_of (card_at h c)) H00X8)
  unfolding line_to count
  line_on c = elim (dec_lt c (block_end h)) [
    | yes m ↦
        let p : min (c + 1) (block_end h) ≡ suc c = omega arith in
        let q : min c (block_end h) ≡ c = omega arith in
        rw (p, q, le-leb (c + 1) (block_end h) (omega arith)) (some_more _ (eqb (layout_of (card_at h c)) H00X8))
    | no m ↦
        let p : min (c + 1) (block_end h) ≡ block_end h = omega arith in
        let q : min c (block_end h) ≡ block_end h = omega arith in
        rw (p, q, lt-leb (c + 1) (block_end h) (omega arith)) (sym (or_false _))
  ]

  -- behind the block it is whether the block has one
  pub line-behind : (c : ℕ) → block_end h ≤ c → line_to c ≡ has_line h
  unfolding line_to has_line
  line-behind c l =
      let p : min c (block_end h) ≡ block_end h = omega arith in
      rw p

  -- what is found at a card is whether it is in place
  pub stands_by : (c : ℕ) → stands_at h c ≡ open_to (c + 1) || (line_to c && ltb H00X9 (layout_of (card_at h c)))
  unfolding stands_at
  stands_by c = elim (dec_lt c (block_end h)) [
    | yes m ↦ rw (lt-ltb c (block_end h) m, le-leb (c + 1) (block_end h) (omega arith))
    | no m ↦ rw (le-ltb c (block_end h) (omega arith), lt-leb (c + 1) (block_end h) (omega arith), line-behind c (omega arith))
  ]
