-- Entries of a key and a small tag each, in the order in which they came, and the chains that join those of one bucket: how the
-- code packs the definitions of a header. No promise to a caller cites this.
-- Assumes nothing.
use Rattle.std.specs.Prelude.{◌≡◌, Bool, cond, List, ℕ, zero, suc, ◌+◌, ◌*◌, ◌-◌, ◌%◌, ◌≤◌, ◌<◌, eqb, length, get_or, set}
use Rattle.base_lists.specs.Count.{count}
use Rattle.header_check.specs.Refusing.{largest}
use Rattle.tie_store.specs.declared.Told.{Told}

-- how many definitions a card has at most
abbrev pub on_card : ℕ
on_card = 4

-- how many entries there is room for: those of the largest header; and how many buckets there are
abbrev pub room : ℕ
room = on_card * largest

abbrev pub buckets : ℕ
buckets = 8093

-- the links: the number of entries; three numbers for each entry; a number for each bucket
abbrev pub next_from : ℕ
next_from = 1

abbrev pub times_from : ℕ
times_from = next_from + room

abbrev pub tags_from : ℕ
tags_from = times_from + room

abbrev pub heads_from : ℕ
heads_from = tags_from + room

abbrev pub link_room : ℕ
link_room = heads_from + buckets

-- how many entries there are
unfoldable pub count_in : List ℕ → ℕ
count_in links = get_or links 0 0

-- of an entry: the one before it in its bucket, how many up to and with it have its key, its tag
unfoldable pub next_at : List ℕ → ℕ → ℕ
next_at links i = get_or links (next_from + i) 0

unfoldable pub times_at : List ℕ → ℕ → ℕ
times_at links i = get_or links (times_from + i) 0

unfoldable pub tag_at : List ℕ → ℕ → ℕ
tag_at links i = get_or links (tags_from + i) 0

-- the last entry of a bucket
unfoldable pub head_at : List ℕ → ℕ → ℕ
head_at links b = get_or links (heads_from + b) 0

-- an entry has a key
unfoldable pub holds : List ℕ → ℕ → ℕ → Bool
holds keys key i = eqb (get_or keys i 0) key

-- one more than the last number below n that passes, 0 where none does
unfoldable pub last : (ℕ → Bool) → ℕ → ℕ
last p zero = 0
last p (suc n) = cond (p n) (suc n) (last p n)

-- a tag that says nothing
abbrev pub no_tag : ℕ
no_tag = 10

-- the tag of the only entry that has a key, none where there is not exactly one
unfoldable pub only_tag : List ℕ → List ℕ → ℕ → ℕ
only_tag keys links key =
    cond (eqb (count (holds keys key) (count_in links)) 1) (tag_at links (last (holds keys key) (count_in links) - 1)) no_tag

-- what is told of a key, and of none
unfoldable pub nothing_told : Told
nothing_told = record { times = 0; tag = no_tag }

unfoldable pub told_of : List ℕ → List ℕ → ℕ → Told
told_of keys links key =
    cond (eqb key 0) nothing_told (record { times = count (holds keys key) (count_in links); tag = only_tag keys links key })

-- the bucket of a key
unfoldable pub bucket : ℕ → ℕ
bucket key = key % buckets

-- the key of an entry is in a bucket
unfoldable pub in_bucket : List ℕ → ℕ → ℕ → Bool
in_bucket keys b i = eqb (bucket (get_or keys i 0)) b

-- a link of a bucket's chain: 0, or one more than an entry of the bucket
pub record On (keys : List ℕ) (b n link : ℕ) : Type 0 where
  pub upto : link ≤ n
  pub is_last : last (in_bucket keys b) link ≡ link

-- the entries are linked: each bucket's head names its last entry, each entry the one before it in its bucket; and each knows how
-- many up to and with itself have its key
pub record Linked (keys links : List ℕ) : Type 0 where
  pub within : count_in links ≤ room
  pub keys-room : length keys ≡ room
  pub links-room : length links ≡ link_room
  pub head-last : (b : ℕ) → b < buckets → head_at links b ≡ last (in_bucket keys b) (count_in links)
  pub next_last : (i : ℕ) → i < count_in links → next_at links i ≡ last (in_bucket keys (bucket (get_or keys i 0))) i
  pub times_are : (i : ℕ) → i < count_in links → times_at links i ≡ count (holds keys (get_or keys i 0)) (i + 1)

-- the arrays with one entry more
unfoldable pub keys_with : List ℕ → List ℕ → ℕ → List ℕ
keys_with keys links key = set keys (count_in links) key

unfoldable pub entry_with : List ℕ → ℕ → ℕ → ℕ → ℕ → List ℕ
entry_with links n tag times next = set (set (set links (tags_from + n) tag) (times_from + n) times) (next_from + n) next

unfoldable pub head_with : List ℕ → ℕ → ℕ → List ℕ
head_with links n b = set (set links (heads_from + b) (n + 1)) 0 (n + 1)

unfoldable pub links_with : List ℕ → List ℕ → ℕ → ℕ → List ℕ
links_with keys links key tag =
    head_with
    (entry_with links (count_in links) tag (count (holds keys key) (count_in links) + 1) (head_at links (bucket key)))
    (count_in links) (bucket key)
