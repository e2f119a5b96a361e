-- `volume_room` is as long as it says: by a law, since counting so many zeros is too much for the checker.
use Prim.Native.Nat.{ℕ}
use mathlib.Core.Path.{◌≡◌, sym}
use lib.ListN.{length, replicate, length-replicate}
use Rattle.linevolume.proofs.volume_room.Goals as goal

zeros : (n : ℕ) → n ≡ length {0} {A = ℕ} (replicate {0} {A = ℕ} n 0)
zeros n = sym (length-replicate {0} {A = ℕ} n 0)

pub returns : goal.returns
returns c = zeros 1600080
