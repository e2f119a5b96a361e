-- Buffers: what a translation leaves of the output, and there and back is the buffer.
use Prim.Native.Nat.{ℕ, ◌≤◌, ◌<◌}
use mathlib.Core.Path.{◌≡◌, refl, ◌∙◌, ap, ap₂, subst}
use mathlib.Core.List.{List, [], ◌∷◌, ◌++◌, map}
use native.Mathlib.Nat.{zero-add}
use native.Mathlib.Omega.{arith}
use native.Mathlib.Decide.{dec_le}
use borrow.Author.Tests.{lt-ltb, le-ltb}
use lib.ListN.{length, take, drop, length-map}
use lib.Seq.{take-append_seam, drop-append_seam, length-sets}
use Rattle.base_lists.specs.Laid.{stored}
use Rattle.base_lists.proofs.Laying.{stored-fits, stored_full, stored_sets}
use Rattle.media_ebcdic.specs.Tables.{ascii_of, ebcdic_of}
use Rattle.media_ebcdic.specs.Translating.{Bytes, ascii_from, ebcdic_from, translated_for}
use Rattle.media_ebcdic.proofs.Undone.{ascii_byte, ebcdic_byte, ascii_back, ebcdic_back}
use Rattle.std.specs.Prelude.{Result, Ok, Err}
use Rattle.base_refusal.specs.declared.Refusal.{Refusal}

-- whatever is written from the front of a lent output
module _ (out w : List ℕ) where
  fits : length w ≤ length out → stored out 0 w ≡ w ++ drop (length w) out
  fits h = stored-fits out 0 w (omega arith) ∙ ap (λ n. w ++ drop n out) (zero-add (length w))

  -- it stands at the front
  pub written : length w ≤ length out → take (length w) (stored out 0 w) ≡ w
  written h = ap (take (length w)) (fits h) ∙ take-append_seam w (drop (length w) out)

  -- without room nothing is written
  pub kept : length out < length w → stored out 0 w ≡ out
  kept h = stored_full out 0 w (omega arith)

  -- what lies behind is as it was, and so is the length
  pub behind : drop (length w) (stored out 0 w) ≡ drop (length w) out
  behind = elim (dec_le (length w) (length out)) [
    | yes h ↦ ap (drop (length w)) (fits h) ∙ drop-append_seam w (drop (length w) out)
    | no h ↦ ap (drop (length w)) (kept (omega arith))
  ]

  pub as_long : length (stored out 0 w) ≡ length out
  as_long = elim (dec_le (length w) (length out)) [
    | yes h ↦ ap length (stored_sets out 0 w (omega arith)) ∙ length-sets out 0 w
    | no h ↦ ap length (kept (omega arith))
  ]

-- no more is written than there is room for

abbrev number_in : Result ℕ Refusal → ℕ
number_in (Ok n) = n
number_in (Err r) = 0

within : (bytes room : ℕ) → number_in (translated_for bytes room) ≤ room
unfolding translated_for
within bytes room = elim (dec_le bytes room) [
  | yes h ↦ rw (le-ltb room bytes h) h
  | no h ↦ rw (lt-ltb room bytes (omega arith)) (omega arith)
]

pub done-fits : (bytes room n : ℕ) → translated_for bytes room ≡ Ok n → n ≤ room
done-fits bytes room n e = subst (λ m. m ≤ room) (ap number_in e) (within bytes room)

-- a table and one that undoes it
module _ (f g : ℕ → ℕ) (byte : (b : ℕ) → b < 256 → f b < 256) (back : (b : ℕ) → b < 256 → g (f b) ≡ b) where
  map-bytes : (s : List ℕ) → Bytes s → Bytes (map f s)
  map-bytes [] h = tt
  map-bytes (b ∷ s) h = (byte b h.0, map-bytes s h.1)

  map_back : (s : List ℕ) → Bytes s → map g (map f s) ≡ s
  map_back [] h = refl
  map_back (b ∷ s) h = ap₂ ◌∷◌ (back b h.0) (map_back s h.1)

-- what is translated is bytes, as many as there were
pub ascii_bytes : (tape : List ℕ) → Bytes tape → Bytes (ascii_from tape)
unfolding ascii_from
ascii_bytes = map-bytes ascii_of ebcdic_of ascii_byte ascii_back

pub ebcdic_bytes : (text : List ℕ) → Bytes text → Bytes (ebcdic_from text)
unfolding ebcdic_from
ebcdic_bytes = map-bytes ebcdic_of ascii_of ebcdic_byte ebcdic_back

pub ascii_length : (tape : List ℕ) → length (ascii_from tape) ≡ length tape
unfolding ascii_from
ascii_length tape = length-map tape ascii_of

pub ebcdic_length : (text : List ℕ) → length (ebcdic_from text) ≡ length text
unfolding ebcdic_from
ebcdic_length text = length-map text ebcdic_of

-- there and back
pub tape_back : (tape : List ℕ) → Bytes tape → ebcdic_from (ascii_from tape) ≡ tape
unfolding ascii_from ebcdic_from
tape_back = map_back ascii_of ebcdic_of ascii_byte ascii_back

pub text_back : (text : List ℕ) → Bytes text → ascii_from (ebcdic_from text) ≡ text
unfolding ascii_from ebcdic_from
text_back = map_back ebcdic_of ascii_of ebcdic_byte ebcdic_back
