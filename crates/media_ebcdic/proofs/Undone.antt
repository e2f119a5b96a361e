-- Each table undoes the other: one test of all their entries, and the rule at each byte.
use Prim.Native.Nat.{ℕ, ◌<◌}
use mathlib.Core.Path.{◌≡◌, subst, sym}
use mathlib.Core.Bool.{Bool, ◌&&◌}
use mathlib.Core.List.{List}
use lib.Dec.{T, eqb, eqb→eq, ltb, ltb→lt}
use lib.ListN.{length, get_or}
use Rattle.format_layout.proofs.Every.{every, at, and_left, and_right}
use Rattle.media_ebcdic.specs.Tables.{ascii_rows, ebcdic_rows, ascii_of, ebcdic_of}

-- an entry is a byte, and the other table has there the place that it stands in
abbrev undone : List ℕ → ℕ → ℕ → Bool
undone other i entry = ltb entry 256 && eqb (get_or other entry 0) i

-- a table has an entry for each byte, and the other undoes all of them
abbrev undoes : List ℕ → List ℕ → Bool
undoes other table = eqb (length table) 256 && every (undone other) 0 table

-- each table undoes the other at every entry
pub each_undoes : T (undoes ebcdic_rows ascii_rows && undoes ascii_rows ebcdic_rows)
each_undoes = tt

module _ (other table : List ℕ) (t : T (undoes other table)) (b : ℕ) (h : b < 256) where
  there : T (undone other b (get_or table b 0))
  there =
      at (undone other) 0 table (and_right (eqb (length table) 256) (every (undone other) 0 table) t) b
      (subst (λ n. b < n) (sym (eqb→eq (length table) 256 (and_left (eqb (length table) 256) (every (undone other) 0 table) t))) h)

  byte_at : get_or table b 0 < 256
  byte_at = ltb→lt (get_or table b 0) 256 (and_left (ltb (get_or table b 0) 256) (eqb (get_or other (get_or table b 0) 0) b) there)

  back_at : get_or other (get_or table b 0) 0 ≡ b
  back_at = eqb→eq (get_or other (get_or table b 0) 0) b (and_right (ltb (get_or table b 0) 256) (eqb (get_or other (get_or table b 0) 0) b) there)

ascii_undone : T (undoes ebcdic_rows ascii_rows)
ascii_undone = and_left (undoes ebcdic_rows ascii_rows) (undoes ascii_rows ebcdic_rows) each_undoes

ebcdic_undone : T (undoes ascii_rows ebcdic_rows)
ebcdic_undone = and_right (undoes ebcdic_rows ascii_rows) (undoes ascii_rows ebcdic_rows) each_undoes

-- an entry is a byte
pub ascii_byte : (b : ℕ) → b < 256 → ascii_of b < 256
unfolding ascii_of
ascii_byte = byte_at ebcdic_rows ascii_rows ascii_undone

pub ebcdic_byte : (b : ℕ) → b < 256 → ebcdic_of b < 256
unfolding ebcdic_of
ebcdic_byte = byte_at ascii_rows ebcdic_rows ebcdic_undone

-- a byte there and back is itself
pub ascii_back : (b : ℕ) → b < 256 → ebcdic_of (ascii_of b) ≡ b
unfolding ascii_of ebcdic_of
ascii_back = back_at ebcdic_rows ascii_rows ascii_undone

pub ebcdic_back : (b : ℕ) → b < 256 → ascii_of (ebcdic_of b) ≡ b
unfolding ascii_of ebcdic_of
ebcdic_back = back_at ascii_rows ebcdic_rows ebcdic_undone
