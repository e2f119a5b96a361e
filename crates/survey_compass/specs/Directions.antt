-- The directions that a card of corrections lists, and the nearest of them round the circle.
use Rattle.std.specs.Prelude.{ℕ, zero, suc, ◌+◌, ◌-◌, ◌*◌, ◌%◌, min, List, [], ◌∷◌, Bool, cond, ◌&&◌, not, eqb, ltb}
use Rattle.base_lists.specs.Count.{count, first}
use Rattle.tie_rules.specs.Keys.{whole_in}

-- how many pairs of a direction and a correction a card has
abbrev pub pairs : ℕ
pairs = 8

-- a direction on the circle, where 360 is 0, counted from 1; 0 where there is none
unfoldable pub mark_of : List ℕ → ℕ
mark_of [] = 0
mark_of (d ∷ ds) = d % 360 + 1

-- that of the pair with a number, from 0
unfoldable pub mark_at : List ℕ → ℕ → ℕ
mark_at s i = mark_of (whole_in (21 + 7 * i) (23 + 7 * i) s)

-- how many pairs list a direction
unfoldable pub times_listed : List ℕ → ℕ → ℕ
times_listed s mark = count (λ i. eqb (mark_at s i) mark) pairs

-- a pair has a direction that is listed more than once; the card has such a pair
unfoldable pub is_again : List ℕ → ℕ → Bool
is_again s i = not (eqb (mark_at s i) 0) && ltb 1 (times_listed s (mark_at s i))

unfoldable pub listed_twice : List ℕ → Bool
listed_twice s = ltb 0 (count (is_again s) pairs)

-- how far two directions below 360 lie apart: the shorter way round
unfoldable pub apart : ℕ → ℕ → ℕ
apart a b = min ((a + 360 - b) % 360) ((b + 360 - a) % 360)

-- the rank of a direction: how far it is, and among those as far the smaller; behind all of them where there is none
abbrev pub unlisted : ℕ
unlisted = 129600

unfoldable pub rank_of : ℕ → ℕ → ℕ
rank_of asked mark = cond (eqb mark 0) unlisted (360 * apart asked (mark - 1) + (mark - 1))

unfoldable pub rank_at : List ℕ → ℕ → ℕ → ℕ
rank_at s asked i = rank_of asked (mark_at s i)

-- the least rank of the first n pairs, and of all
unfoldable pub least_to : List ℕ → ℕ → ℕ → ℕ
least_to s asked zero = unlisted
least_to s asked (suc n) = min (least_to s asked n) (rank_at s asked n)

unfoldable pub least_rank : List ℕ → ℕ → ℕ
least_rank s asked = least_to s asked pairs

-- the pair that has it
unfoldable pub is_nearest : List ℕ → ℕ → ℕ → Bool
is_nearest s asked i = eqb (rank_at s asked i) (least_rank s asked)

unfoldable pub nearest : List ℕ → ℕ → ℕ
nearest s asked = first (is_nearest s asked) pairs
