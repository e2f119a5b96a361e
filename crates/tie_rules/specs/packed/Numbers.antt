-- A key as one number: its class above, its number, pair or text below. 0 stands for no key, and for one that no card can bear.
-- How the code packs keys: no promise to a caller cites this.
use Rattle.std.specs.Prelude.{ℕ, ◌+◌, ◌*◌, ◌-◌, ◌/◌, List, [], ◌∷◌, cond, ◌&&◌, eqb, leb, ltb, get_or}
use Rattle.value_text.specs.text.Texts.{printable}
use Rattle.tie_rules.specs.Offered.{text_class, pair_class, borne}

-- seven bits a byte, those of the first byte lowest
unfoldable pub bits_of : List ℕ → ℕ
bits_of [] = 0
bits_of (b ∷ s) = b + 128 * bits_of s

-- the same where every byte is printable
unfoldable pub bits_in : List ℕ → ℕ
bits_in t = cond (printable t) (bits_of t) 0

-- a key's number in its class
unfoldable pub within : ℕ → List ℕ → ℕ
within class key =
    cond (eqb class text_class) (bits_of key)
    (cond (eqb class pair_class) (get_or key 0 0 * 1000 + get_or key 1 0) (get_or key 0 0))

-- how many numbers each class has: those of eight bytes
abbrev pub room : ℕ
room = 72057594037927936

-- the key of a class as one number
unfoldable pub packed : ℕ → List ℕ → ℕ
packed class key = cond (borne class key) (class * room + within class key) 0

-- the numbers of waypoints: from here on, a thousand to a vessel
abbrev pub waypoints_from : ℕ
waypoints_from = pair_class * room

-- the vessel of a number that is a waypoint's, 10 for any other number
unfoldable pub vessel_in : ℕ → ℕ
vessel_in n = cond (leb waypoints_from n && ltb n (waypoints_from + 10000)) ((n - waypoints_from) / 1000) 10
