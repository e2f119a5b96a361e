-- The notes of the cards, with a flag at each whose definitions share a key with others.
use Rattle.std.specs.Prelude.{ℕ, zero, suc, ◌-◌, cond, List, eqb, get_or}
use Rattle.header_check.specs.packed.Noted.{flagged}
use Rattle.tie_store.specs.Store.{count_in, tag_at, holds, last}
use Rattle.tie_check.specs.packed.Numbers.{card_told}
use Rattle.tie_check.specs.packed.Gathered.{Store}

-- one more than the last entry before one that has its key, 0 where none has
abbrev pub before : List ℕ → ℕ → ℕ
before keys i = last (holds keys (get_or keys i 0)) i

-- with flags for an entry: at its card and at that of the one before, if there is one
unfoldable pub flagged_by : List ℕ → List ℕ → List ℕ → ℕ → List ℕ
flagged_by cards keys links i =
    cond (eqb (before keys i) 0) cards
    (flagged (flagged cards (card_told (tag_at links i))) (card_told (tag_at links (before keys i - 1))))

-- for the first entries, and for all
unfoldable pub flagged_to : List ℕ → List ℕ → List ℕ → ℕ → List ℕ
flagged_to cards keys links zero = cards
flagged_to cards keys links (suc i) = flagged_by (flagged_to cards keys links i) keys links i

unfoldable pub flagged_all : List ℕ → Store → List ℕ
flagged_all cards t = flagged_to cards t.keys t.links (count_in t.links)
