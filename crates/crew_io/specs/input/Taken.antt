-- What reading puts into a buffer where the reader's bytes are known: the next of them, in their order.
use Rattle.std.specs.Prelude.{ℕ, List, ◌<◌, length, take}
use Rattle.std.specs.Io.KnownBytes.{Consumes, IsAtEnd}
use Rattle.std.specs.declared.option.Option.{Option}

-- the n bytes that were counted are the reader's, and all that it had unless the buffer is full
abbrev pub Fills : Option (List ℕ) → Option (List ℕ) → ℕ → List ℕ → Type 0
Fills old new n is = Consumes old new (take n is) × (n < length is → IsAtEnd new)
