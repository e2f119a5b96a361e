-- Cards that are all in place are an opening block and then the rest, told by its own rule. A block without H00@8 is refused at the
-- first card behind it, or one past the end.
use Prim.Native.Nat.{ℕ, zero, suc, ◌≤◌, ◌<◌}
use native.Mathlib.Decide.{ℕ_discrete, dec_lt}
use native.Mathlib.Omega.{arith}
use mathlib.Core.Path.{◌≡◌, refl, sym, ap, ◌∙◌}
use mathlib.Core.Logic.{◌↔◌, ◌⊎◌, inl, inr}
use mathlib.Core.List.{List}
use mathlib.Core.Bool.{Bool, true, false, cond, not, ◌&&◌, ◌||◌, true≢false}
use lib.Dec.{eqb, leb, ltb}
use lib.ListN.{take, get_or}
use lib.Seq.{get_or-take}
use borrow.Author.Tests.{eq-eqb, ne_eqb, lt-ltb, le-ltb, le-leb, eqb-true, leb-true, ltb-true}
use Rattle.base_lists.specs.Count.{count, first}
use Rattle.base_lists.proofs.Counting.{count-some, count_none}
use Rattle.base_lists.proofs.Finding.{first_below, first_passes, first_unique, first-none}
use Rattle.format_code.specs.Codes.{byte_fits, fits_at}
use Rattle.format_code.proofs.Apart.{Fits, in_each}
use Rattle.format_layout.specs.Table.{layouts}
use Rattle.format_layout.specs.Layouts.{layout_at}
use Rattle.format_layout.specs.packed.Rows.{layout_count}
use Rattle.format_layout.specs.Names.{H00X8, H00X9}
use Rattle.header_check.specs.forms.Cards.{card_at, cards_in, byte_in, layout_of}
use Rattle.header_check.specs.Opening.{first_cards, code_number, number_before, goes_on, continues, block_end, has_line, stands_at}
use Rattle.header_check.specs.Refusing.{readable, placed_verdict, end_verdict, verdict_at}
use Rattle.header_check.proofs.Block.{block_le, in_block}
use Rattle.header_check.proofs.forms.Named.{coded_exactly}
use Rattle.std.specs.Prelude.{Err}
use Rattle.card_check.specs.Verdicts.{offending}

-- where one passes, the first that does is below n
pub there : (p : ℕ → Bool) (n : ℕ) → 0 < count p n → first p n < n
there p n o = elim (dec_lt (first p n) n) [
  | yes l ↦ l
  | no l ↦ absurd (omega (arith, count_none p n (λ i k. first_below p n i (omega arith))))
]

both : (a b : Bool) → a && b ≡ true → (a ≡ true) × (b ≡ true)
both true true e = (refl, refl)
both true false e = (refl, e)
both false b e = absurd (true≢false (sym e))

-- H0000 to H0007 in that order; then H00@8 and H00@9 up to the end of the block, by code number, never falling, an H00@8 among
-- them; behind it none of these codes
pub record Opens (h : List ℕ) : Type 0 where
  pub end : ℕ
  pub inside : end ≤ cards_in h
  pub eight : (c : ℕ) → c < first_cards → layout_of (card_at h c) ≡ c
  pub vessels : (c : ℕ) → first_cards ≤ c → c < end → (layout_of (card_at h c) ≡ H00X8) ⊎ (layout_of (card_at h c) ≡ H00X9)
  pub rising : (c : ℕ) → first_cards ≤ c → suc c < end → code_number (card_at h c) ≤ code_number (card_at h (suc c))
  pub line : ℕ
  pub line-from : first_cards ≤ line
  pub line_below : line < end
  pub line-is : layout_of (card_at h line) ≡ H00X8
  pub later : (c : ℕ) → end ≤ c → c < cards_in h → H00X9 < layout_of (card_at h c)

-- a card of a layout has its code's bytes
coded : (s : List ℕ) (k : ℕ) → k < layout_count → layout_of s ≡ k → Fits (layout_at k).code (take 5 s)
coded s k l e = in_each (layout_at k).code (take 5 s) ((coded_exactly s k l).0 e)

byte-is : (s : List ℕ) (i b : ℕ) → i < 5 → eqb b (get_or (take 5 s) i 0) ≡ true → get_or s i 0 ≡ b
byte-is s i b l e = sym (get_or-take 5 s i 0 l) ∙ sym (eqb-true b (get_or (take 5 s) i 0) e)

-- H0007 has the code number 7, and H00@8 and H00@9 have none below it
number_seven : (s : List ℕ) → layout_of s ≡ 7 → code_number s ≡ 7
unfolding code_number byte_in fits_at byte_fits layout_at layouts
number_seven s e =
    let f : Fits (layout_at 7).code (take 5 s) = coded s 7 (omega arith) e in
    rw (
      byte-is s 1 48 (omega arith) f.second,
      byte-is s 2 48 (omega arith) f.third,
      byte-is s 3 48 (omega arith) f.fourth,
      byte-is s 4 55 (omega arith) f.fifth,
    )

number_after : (s : List ℕ) → (layout_of s ≡ H00X8) ⊎ (layout_of s ≡ H00X9) → 7 ≤ code_number s
unfolding code_number byte_in fits_at byte_fits layout_at layouts
number_after s (inl q) = omega (arith, byte-is s 4 56 (omega arith) (coded s H00X8 (omega arith) q).fifth)
number_after s (inr q) = omega (arith, byte-is s 4 57 (omega arith) (coded s H00X9 (omega arith) q).fifth)

-- what goes on with the block behind the first eight
follows_by : (c k before number : ℕ) → first_cards ≤ c → goes_on c k before number ≡ true
    → ((k ≡ H00X8) ⊎ (k ≡ H00X9)) × (before ≤ number)
unfolding goes_on
follows_by c k before number l e = (
  elim (ℕ_discrete k H00X8) [
    | yes q ↦ inl q
    | no q ↦ elim (ℕ_discrete k H00X9) [
      | yes r ↦ inr r
      | no r ↦ absurd (true≢false (sym two.0 ∙ rw (ne_eqb k H00X8 q, ne_eqb k H00X9 r)))
    ]
  ],
  leb-true before number two.1,
)
  where
    two : (eqb k H00X8 || eqb k H00X9 ≡ true) × (leb before number ≡ true)
    two = both (eqb k H00X8 || eqb k H00X9) (leb before number) (rw (le-ltb c 8 l) at e)

follows : (c k before number : ℕ) → first_cards ≤ c → (k ≡ H00X8) ⊎ (k ≡ H00X9) → before ≤ number
    → goes_on c k before number ≡ true
unfolding goes_on
follows c k before number l (inl q) m = rw (le-ltb c 8 l, eq-eqb k H00X8 q, le-leb before number m)
follows c k before number l (inr q) m =
    rw (le-ltb c 8 l, ne_eqb k H00X8 (λ r. omega arith), eq-eqb k H00X9 q, le-leb before number m)

-- no card with another code goes on with the block
pub never : (c k before number : ℕ) → H00X9 < k → goes_on c k before number ≡ false
unfolding goes_on
never c k before number l = elim (dec_lt c 8) [
  | yes m ↦ rw (lt-ltb c 8 m) (ne_eqb k c (λ r. omega arith))
  | no m ↦ rw (le-ltb c 8 (omega arith), ne_eqb k H00X8 (λ r. omega arith), ne_eqb k H00X9 (λ r. omega arith))
]

module _ (h : List ℕ) where
  early : (c : ℕ) → c < first_cards → continues h c ≡ eqb (layout_of (card_at h c)) c
  unfolding continues goes_on
  early c l = rw (lt-ltb c 8 l)

  eight_in : (c : ℕ) → c < first_cards → c < block_end h → layout_of (card_at h c) ≡ c
  eight_in c l m = eqb-true (layout_of (card_at h c)) c (sym (early c l) ∙ in_block h c m)

  follows_in : (c : ℕ) → first_cards ≤ c → c < block_end h
      → ((layout_of (card_at h c) ≡ H00X8) ⊎ (layout_of (card_at h c) ≡ H00X9)) × (number_before h c ≤ code_number (card_at h c))
  unfolding continues
  follows_in c l m = follows_by c (layout_of (card_at h c)) (number_before h c) (code_number (card_at h c)) l (in_block h c m)

  -- the first H00@8 of a block that has one
  abbrev is_line : ℕ → Bool
  is_line c = eqb (layout_of (card_at h c)) H00X8

  some-line : has_line h ≡ true → first is_line (block_end h) < block_end h
  unfolding has_line
  some-line e = there is_line (block_end h) (ltb-true 0 (count is_line (block_end h)) e)

  opens : ((c : ℕ) → c < cards_in h → stands_at h c ≡ true) → has_line h ≡ true → Opens h
  unfolding stands_at number_before
  opens f e = record {
    end = block_end h;
    inside = block_le h;
    eight = λ c l. eight_in c l (omega (arith, from, below));
    vessels = λ c l m. (follows_in c l m).0;
    rising = λ c l m. (follows_in (suc c) (omega arith) m).1;
    line = place;
    line-from = from;
    line_below = below;
    line-is = is;
    later = λ c l m. ltb-true H00X9 (layout_of (card_at h c)) (both (has_line h) (ltb H00X9 (layout_of (card_at h c)))
        (rw (le-ltb c (block_end h) l) at (f c m))).1;
  }
    where
      place : ℕ
      place = first is_line (block_end h)

      below : place < block_end h
      below = some-line e

      is : layout_of (card_at h place) ≡ H00X8
      is = eqb-true (layout_of (card_at h place)) H00X8 (first_passes is_line (block_end h) below)

      from : first_cards ≤ place
      from = elim (dec_lt place 8) [ yes l ↦ absurd (omega (arith, eight_in place l below, is)) | no l ↦ omega arith ]

  module _ (o : Opens h) where
    -- the number before does not fall; before the first stands H0007
    rises : (c : ℕ) → first_cards ≤ c → c < o.end → number_before h c ≤ code_number (card_at h c)
    unfolding number_before
    rises zero m l = absurd (omega arith)
    rises (suc d) m l = elim (ℕ_discrete d 7) [
      | yes q ↦ omega (
        arith,
        number_seven (card_at h d) (o.eight d (omega arith) ∙ q),
        number_after (card_at h (suc d)) (o.vessels (suc d) m l),
      )
      | no q ↦ o.rising d (omega arith) l
    ]

    goes_on_lem : (c : ℕ) → c < o.end → continues h c ≡ true
    unfolding continues
    goes_on_lem c l = elim (dec_lt c 8) [
      | yes m ↦ early c m ∙ eq-eqb (layout_of (card_at h c)) c (o.eight c m)
      | no m ↦ follows c (layout_of (card_at h c)) (number_before h c) (code_number (card_at h c)) (omega arith)
          (o.vessels c (omega arith) l) (rises c (omega arith) l)
    ]

    -- the block ends there
    ends_there : block_end h ≡ o.end
    unfolding block_end continues
    ends_there = elim (dec_lt o.end (cards_in h)) [
      | yes l ↦ first_unique stops (cards_in h) o.end l (ap not (over l)) (λ c m. ap not (goes_on_lem c m))
      | no l ↦ first-none stops (cards_in h) (λ c m. ap not (goes_on_lem c (omega arith))) ∙ omega (arith, o.inside)
    ]
      where
        stops : ℕ → Bool
        stops c = not (continues h c)

        over : o.end < cards_in h → continues h o.end ≡ false
        over l = never o.end (layout_of (card_at h o.end)) _ _ (o.later o.end (omega arith) l)

    lined : has_line h ≡ true
    unfolding has_line
    lined = rw ends_there (lt-ltb 0 (count is_line o.end)
        (count-some is_line o.end o.line o.line_below (eq-eqb (layout_of (card_at h o.line)) H00X8 o.line-is)))

    stands : (c : ℕ) → c < cards_in h → stands_at h c ≡ true
    unfolding stands_at
    stands c l = elim (dec_lt c o.end) [
      | yes m ↦ rw (ends_there, lt-ltb c o.end m)
      | no m ↦ rw (ends_there, le-ltb c o.end (omega arith), lined) (lt-ltb H00X9 (layout_of (card_at h c)) (o.later c (omega arith) l))
    ]

  -- all cards are in place and the block has an H00@8 exactly where they open with such a block and none of its codes stands later
  pub opens_exactly : (((c : ℕ) → c < cards_in h → stands_at h c ≡ true) × (has_line h ≡ true)) ↔ Opens h
  opens_exactly = (λ f. opens f.0 f.1, λ o. (stands o, lined o))

  -- a block without H00@8: the first card behind it is a 6, behind its own 4 and 5; where there is none, the place past the end is
  pub without-line : has_line h ≡ false → verdict_at h (block_end h)
      ≡ cond (ltb (block_end h) (cards_in h)) (readable (card_at h (block_end h)) (Err (offending 6 1))) (Err (offending 6 1))
  unfolding verdict_at end_verdict placed_verdict stands_at
  without-line e = rw (e, le-ltb (block_end h) (block_end h) (omega arith))
