-- The lines of cards, card by card as `chunks_exact` takes them off the front.
use Prim.Native.Nat.{ℕ, suc, ◌/◌, ◌<◌}
use native.Mathlib.Omega.{arith}
use mathlib.Core.Path.{◌≡◌, refl}
use mathlib.Core.List.{List, [], ◌++◌}
use lib.ListN.{length, length-append}
use lib.Seq.{take_at, drop_at}
use Rattle.media_diskette.specs.Lines.{line_of, lines_of, disk_of}

-- fewer bytes than a card's have no line
pub no_line : (h : List ℕ) → length h < 80 → disk_of h ≡ []
unfolding disk_of lines_of
no_line h l = let e : length h / 80 ≡ 0 = omega arith in rw e refl

-- the first card's line stands before the others
pub first_line : (card h : List ℕ) → length card ≡ 80 → disk_of (card ++ h) ≡ line_of card ++ disk_of h
unfolding disk_of lines_of
first_line card h l =
    let e : length (card ++ h) / 80 ≡ suc (length h / 80) = omega (arith, length-append card h) in
    rw (e, take_at card h 80 l, drop_at card h 80 l) refl
