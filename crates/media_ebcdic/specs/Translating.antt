-- Buffers translated byte by byte, and what is answered: the number of bytes written, or 17 where the output is shorter.
use Rattle.std.specs.Prelude.{ℕ, ◌<◌, cond, List, [], ◌∷◌, map, ltb, Result, Ok, Err}
use Rattle.base_refusal.specs.Refusals.{refusal}
use Rattle.media_ebcdic.specs.Tables.{ascii_of, ebcdic_of}
use Rattle.base_refusal.specs.declared.Refusal.{Refusal}

-- a buffer: each of its numbers is a byte
abbrev pub Bytes : List ℕ → Type 0
Bytes [] = Unit {0}
Bytes (b ∷ s) = (b < 256) × Bytes s

-- a tape in ASCII
unfoldable pub ascii_from : List ℕ → List ℕ
ascii_from tape = map ascii_of tape

-- a text in EBCDIC
unfoldable pub ebcdic_from : List ℕ → List ℕ
ebcdic_from text = map ebcdic_of text

-- what is answered for so many bytes and so much room
unfoldable pub translated_for : ℕ → ℕ → Result ℕ Refusal
translated_for bytes room = cond (ltb room bytes) (Err (refusal 17 0 0)) (Ok bytes)
