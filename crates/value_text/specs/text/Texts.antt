-- How a text stands in its columns: from the first of them to its last byte that is no blank.
use Rattle.std.specs.Prelude.{ℕ, suc, ◌-◌, List, [], ◌∷◌, ◌++◌, Bool, true, false, cond, ◌&&◌, ◌||◌, not, length, take, replicate, eqb, leb}
use Rattle.base_refusal.specs.declared.Unwritten.TheVariants.{Unprintable, Malformed, NoRoom}
use Rattle.base_digits.specs.digits.Columns.{Entry, agreed, refused}

-- how many columns the text takes, trailing blanks not counted
unfoldable pub text_end : List ℕ → ℕ
text_end [] = 0
text_end (b ∷ s) = cond (eqb (text_end s) 0 && eqb b 32) 0 (suc (text_end s))

-- the text, without trailing blanks
unfoldable pub text_of : List ℕ → List ℕ
text_of s = take (text_end s) s

-- the bytes 32 to 126 are printable
unfoldable pub printable : List ℕ → Bool
printable [] = true
printable (b ∷ s) = leb 32 b && (leb b 126 && printable s)

-- a text begins with a blank
unfoldable pub leading_blank : List ℕ → Bool
leading_blank [] = false
leading_blank (b ∷ s) = eqb b 32

-- a text that may be put: it is not empty, does not end in a blank and (unless it may) does not begin with one
unfoldable pub well_formed : Bool → List ℕ → Bool
well_formed lead t = not (eqb (length t) 0) && (eqb (text_end t) (length t) && (lead || not (leading_blank t)))

-- a text left adjusted in w columns
unfoldable pub text_in : Bool → ℕ → List ℕ → Entry
text_in lead w t =
    cond (not (printable t)) (refused Unprintable)
    (cond (not (well_formed lead t)) (refused Malformed)
    (cond (leb (length t) w) (agreed (t ++ replicate (w - length t) 32)) (refused NoRoom)))
