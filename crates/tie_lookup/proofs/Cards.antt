-- A header card by card, as `chunks_exact` yields it.
use Prim.Native.Nat.{ℕ, zero, suc, ◌+◌, ◌*◌, ◌/◌}
use native.Mathlib.Omega.{arith}
use mathlib.Core.Path.{◌≡◌, refl, sym, ap, ◌∙◌}
use mathlib.Core.List.{List, [], ◌∷◌, ◌++◌, map}
use lib.ListN.{length, take, drop, length-append}
use lib.Seq.{take_at, drop_at}
use Rattle.std.specs.List.{range_with_len}
use Rattle.std.specs.Slice.Iter.{chunks_exact_rest, chunks_exact_size, chunks_exact_steps}
use Rattle.std.specs.declared.slice.ChunksExact.{ChunksExact}
use Rattle.std.proofs.lemmas.Iterator.{YieldsList}
use Rattle.std.proofs.lemmas.Iterator.Splits.{YieldsList-from_shown_while}
use Rattle.std.proofs.lemmas.List.{drop-drop}
use Rattle.base_lists.specs.Parts.{part}
use Rattle.header_check.specs.forms.Cards.{card_at, cards_in}

-- k cards in turn
cards : ℕ → List ℕ → List (List ℕ)
cards zero h = []
cards (suc k) h = take 80 h ∷ cards k (drop 80 h)

-- a card taken off the front
module _ (h card rest : List ℕ) (is : h ≡ card ++ rest) (long : length card ≡ 80) where
  first_card : card ≡ take 80 h
  first_card = rw is (sym (take_at card rest 80 long))

  other_cards : rest ≡ drop 80 h
  other_cards = rw is (sym (drop_at card rest 80 long))

  one_more : length h / 80 ≡ suc (length rest / 80)
  one_more = let l = ap length is ∙ length-append card rest in omega arith

  cards_off : cards (length h / 80) h ≡ card ∷ cards (length rest / 80) rest
  unfolding cards
  cards_off = rw (one_more, ← first_card, ← other_cards)

shown : ChunksExact ℕ → List (List ℕ)
shown s = cards (length (chunks_exact_rest s) / 80) (chunks_exact_rest s)

-- those from the card c on
cards-from : (h : List ℕ) (k c : ℕ) → cards k (drop (80 * c) h) ≡ map (card_at h) (range_with_len c k)
unfolding cards card_at part
cards-from h zero c = refl
cards-from h (suc k) c =
    let e : drop 80 (drop (80 * c) h) ≡ drop (80 * (c + 1)) h = drop-drop 80 (80 * c) h ∙ ap (λ m. drop m h) (omega arith) in
    rw e (ap (λ l. take 80 (drop (80 * c) h) ∷ l) (cards-from h k (c + 1)))

pub YieldsList-from_cards : {s : ChunksExact ℕ} (h : List ℕ) → chunks_exact_rest s ≡ h → chunks_exact_size s ≡ 80
    → YieldsList (chunks_exact_steps {A = ℕ}) (λ x. x.now) s (map (card_at h) (range_with_len 0 (cards_in h)))
unfolding cards shown cards_in
YieldsList-from_cards {s} h e p =
    rw (← cards-from h (length h / 80) 0, ← e) (YieldsList-from_shown_while (chunks_exact_steps {A = ℕ}) (λ x. x.now) shown (λ s. chunks_exact_size s ≡ 80)
    (λ s t q k. let z : length (chunks_exact_rest s) / 80 ≡ 0 = omega (arith, q, k.1.0) in rw z)
    (λ s x t q k. (k.0 ∙ q, cards_off _ _ _ k.1.0 (k.1.1 ∙ q))) s p)
