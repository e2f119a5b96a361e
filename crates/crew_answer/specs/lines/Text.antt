-- The answer to the crew, byte by byte: one line that says it is refused, or how much is broken and one line for each entry.
use Rattle.std.specs.Prelude.{ℕ, zero, suc, ◌+◌, ◌*◌, ◌/◌, min, List, [], ◌∷◌, ◌++◌, length, get_or}
use Prim.Native.String.{String, [] as ε, ◌∷◌ as ◌▸◌}
use Prim.Native.Char.{code}
use Rattle.base_digits.specs.digits.Digits.{digits, size}
use Rattle.tie_rules.specs.Faults.{entry_size}

-- the bytes of a word
abbrev pub bytes : String → List ℕ
bytes ε = []
bytes (c ▸ s) = code c ∷ bytes s

-- a number in decimal, without leading zeros; zero is one digit
unfoldable pub numeral : ℕ → List ℕ
numeral n = digits (size n) n

-- a number behind a space
unfoldable pub spaced : ℕ → List ℕ
spaced n = 32 ∷ numeral n

-- the end of a line
abbrev pub newline : List ℕ
newline = 10 ∷ []

-- refused, number, card, column
unfoldable pub refused_text : ℕ → ℕ → ℕ → List ℕ
refused_text number card column = bytes "refused" ++ spaced number ++ spaced card ++ spaced column ++ newline

-- how much is broken
unfoldable pub count_text : ℕ → List ℕ
count_text n = bytes "broken" ++ spaced n ++ newline

-- an entry: card, column, kind, vessel
unfoldable pub entry_text : ℕ → ℕ → ℕ → ℕ → List ℕ
entry_text card column kind vessel = numeral card ++ spaced column ++ spaced kind ++ spaced vessel ++ newline

-- a number of the entry with a number, both from 0, of a list of entries
abbrev pub number_at : List ℕ → ℕ → ℕ → ℕ
number_at l i j = get_or l (entry_size * i + j) 0

-- that entry
unfoldable pub entry_at : List ℕ → ℕ → List ℕ
entry_at l i = entry_text (number_at l i 0) (number_at l i 1) (number_at l i 2) (number_at l i 3)

-- the first k of them
unfoldable pub entries_text : List ℕ → ℕ → List ℕ
entries_text l zero = []
entries_text l (suc k) = entries_text l k ++ entry_at l k

-- the most entries that are told
abbrev pub most : ℕ
most = 4000

-- how many entries are told of n: the list may have fewer
unfoldable pub told : ℕ → List ℕ → ℕ
told n l = min (min n most) (length l / entry_size)

-- n that are broken, and the first of their entries
unfoldable pub broken_text : ℕ → List ℕ → List ℕ
broken_text n l = count_text n ++ entries_text l (told n l)

-- no line of an entry is longer, with ten digits a number; no answer is longer, with twenty for the number of all faults
abbrev pub longest_entry : ℕ
longest_entry = 11 * entry_size

abbrev pub longest : ℕ
longest = 28 + most * longest_entry
