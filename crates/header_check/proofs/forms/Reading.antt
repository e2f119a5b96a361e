-- A `for` over the cards of a header with their places: `chunks_exact(CARD).enumerate()`.
use Prim.Native.Nat.{ℕ, ◌+◌, ◌*◌, ◌≤◌, ◌<◌}
use mathlib.Core.Path.{◌≡◌, ap, ◌∙◌}
use mathlib.Core.List.{List}
use native.Mathlib.Omega.{arith}
use native.Mathlib.Nat.{mul_comm}
use lib.ListN.{length, take, drop, length-drop}
use lib.Seq.{length-take-le}
use denote.Ref.{Bor}
use Rattle.std.specs.Prelude.{Option, None, Some}
use Rattle.std.specs.declared.slice.ChunksExact.{ChunksExact}
use Rattle.std.specs.declared.iter.Enumerate.{Enumerate}
use Rattle.std.specs.Slice.Iter.{chunks_exact_rest, chunks_exact_size, chunks_exact_steps}
use Rattle.std.specs.Iterator.{Yields}
use Rattle.std.specs.Iterator.Adapters.{enumerate_source, enumerate_count, enumerate_steps}
use Rattle.base_lists.specs.Parts.{part}
use Rattle.card_screen.proofs.Pieces as pieces
use Rattle.header_check.specs.forms.Cards.{card_at, cards_in}
use Rattle.header_check.proofs.forms.Steps.{card_ends}

-- the card that comes behind as many as c
pub record Comes (h : List ℕ) (c place : ℕ) (card : List ℕ) : Type 0 where
  pub inside : c < cards_in h
  pub ends : c * 80 + 80 ≤ length h
  pub place_is : place ≡ c
  pub card_is : card ≡ card_at h c
  pub whole : length card ≡ 80

module _ (s : Enumerate (ChunksExact ℕ)) (h : List ℕ) (rest : chunks_exact_rest (enumerate_source s) ≡ h)
    (size : chunks_exact_size (enumerate_source s) ≡ 80) (start : enumerate_count s ≡ 0)
    (ys : List (ℕ × Bor (List ℕ))) (t : Enumerate (ChunksExact ℕ)) (y : Yields (enumerate_steps chunks_exact_steps) s ys t)
    (r : Option (ℕ × Bor (List ℕ))) (u : Enumerate (ChunksExact ℕ)) (step : enumerate_steps chunks_exact_steps t r u) where
  pub card_comes : (x : ℕ × Bor (List ℕ)) → r ≡ Some x → Comes h (length ys) x.0 x.1.now
  unfolding cards_in card_at part
  card_comes x e =
      let p = pieces.turn 80 (omega arith) s h rest size start ys t y r u step x e in
      let n = card_ends h (length ys) p.0 in
      record {
        inside = p.0;
        ends = n;
        place_is = p.1;
        card_is = p.2 ∙ ap (λ j. take 80 (drop j h)) (mul_comm (length ys) 80);
        whole = ap length p.2 ∙ length-take-le 80 (drop (length ys * 80) h) (omega (arith, length-drop (length ys * 80) h, n));
      }

  pub cards_end : r ≡ None → length ys ≡ cards_in h
  unfolding cards_in
  cards_end e = pieces.at_end 80 (omega arith) s h rest size start ys t y r u step e
