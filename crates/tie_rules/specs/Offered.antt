-- The keys of each class: which a card can bear, and which a caller can offer.
use Rattle.std.specs.Prelude.{ℕ, List, [], ◌∷◌, Bool, false, cond, ◌&&◌, not, eqb, leb, ltb, ℤ, pos, negsuc, length}
use Rattle.value_text.specs.text.Texts.{text_end, text_of, printable}
use Rattle.tie_rules.specs.Ties.{classes}

-- the classes whose keys are texts and pairs; the keys of the others are whole numbers
abbrev pub text_class : ℕ
text_class = 4

abbrev pub pair_class : ℕ
pair_class = 7

unfoldable pub is_whole : ℕ → Bool
is_whole class = leb 1 class && leb class classes && not (eqb class text_class) && not (eqb class pair_class)

-- a whole number that columns of the table can hold, of which no key has more than four
unfoldable pub whole_fits : List ℕ → Bool
whole_fits [] = false
whole_fits (n ∷ []) = ltb n 10000
whole_fits (n ∷ m ∷ ns) = false

-- a pair: one column, and three
unfoldable pub pair_fits : List ℕ → Bool
pair_fits [] = false
pair_fits (a ∷ []) = false
pair_fits (a ∷ b ∷ []) = ltb a 10 && ltb b 1000
pair_fits (a ∷ b ∷ m ∷ ns) = false

-- a text: printable, of one to eight bytes, and no blank behind it
unfoldable pub text_fits : List ℕ → Bool
text_fits t = leb 1 (length t) && (leb (length t) 8 && (eqb (text_end t) (length t) && printable t))

-- a card can bear a key of a class
unfoldable pub borne : ℕ → List ℕ → Bool
borne class key =
    cond (eqb class text_class) (text_fits key) (cond (eqb class pair_class) (pair_fits key) (is_whole class && whole_fits key))

-- a number, a pair or a text that is offered as a key of a class: none in a class of another kind
unfoldable pub whole_offered : ℕ → List ℕ → List ℕ
whole_offered class key = cond (is_whole class) key []

unfoldable pub pair_offered : ℕ → List ℕ → List ℕ → List ℕ
pair_offered class [] b = []
pair_offered class (n ∷ ns) [] = []
pair_offered class (n ∷ ns) (m ∷ ms) = cond (eqb class pair_class) (n ∷ m ∷ []) []

unfoldable pub text_offered : ℕ → List ℕ → List ℕ
text_offered class t = cond (eqb class text_class) (text_of t) []

-- a number below zero is no key
unfoldable pub natural : ℤ → List ℕ
natural (pos n) = n ∷ []
natural (negsuc n) = []
