-- A directory card by card, as `chunks_exact` yields it.
use Prim.Native.Nat.{ℕ, zero, suc, ◌/◌}
use native.Mathlib.Omega.{arith}
use mathlib.Core.Path.{◌≡◌, refl, sym, ap, ◌∙◌}
use mathlib.Core.List.{List, [], ◌∷◌, ◌++◌}
use lib.ListN.{length, take, drop, length-append}
use lib.Seq.{take_at, drop_at}
use Rattle.std.proofs.lemmas.List.{take-take}
use Rattle.volume_rules.specs.Sound.{mixed}
use Rattle.volume_check.proofs.Comparing.{starts_as}
use Rattle.std.specs.declared.slice.ChunksExact.{ChunksExact}
use Rattle.std.specs.Prelude.{nat_eq}
use Rattle.std.specs.List.{list_any, starts_with}
use Rattle.std.specs.Slice.Iter.{chunks_exact_rest, chunks_exact_size, chunks_exact_steps}
use Rattle.std.proofs.lemmas.Iterator.{YieldsList}
use Rattle.std.proofs.lemmas.Iterator.Splits.{YieldsList-from_shown_while}

-- k cards in turn
unfoldable pub cards : ℕ → List ℕ → List (List ℕ)
cards zero d = []
cards (suc k) d = take 80 d ∷ cards k (drop 80 d)

-- a card taken off the front
module _ (d card e : List ℕ) (is : d ≡ card ++ e) (long : length card ≡ 80) where
  pub first_card : card ≡ take 80 d
  first_card = rw is (sym (take_at card e 80 long))

  pub other_cards : e ≡ drop 80 d
  other_cards = rw is (sym (drop_at card e 80 long))

  pub one_more : length d / 80 ≡ suc (length e / 80)
  one_more = let l = ap length is ∙ length-append card e in omega arith

  pub cards_off : cards (length d / 80) d ≡ card ∷ cards (length e / 80) e
  unfolding cards
  cards_off = rw (one_more, ← first_card, ← other_cards)

shown : ChunksExact ℕ → List (List ℕ)
shown s = cards (length (chunks_exact_rest s) / 80) (chunks_exact_rest s)

pub YieldsList-from_cards : {s : ChunksExact ℕ} (d : List ℕ) → chunks_exact_rest s ≡ d → chunks_exact_size s ≡ 80
    → YieldsList (chunks_exact_steps {A = ℕ}) (λ x. x.now) s (cards (length d / 80) d)
unfolding cards shown
YieldsList-from_cards {s} d e p =
    rw (← e) (YieldsList-from_shown_while (chunks_exact_steps {A = ℕ}) (λ x. x.now) shown (λ s. chunks_exact_size s ≡ 80)
    (λ s t q h. let z : length (chunks_exact_rest s) / 80 ≡ 0 = omega (arith, q, h.1.0) in rw z)
    (λ s x t q h. (h.0 ∙ q, cards_off _ _ _ h.1.0 (h.1.1 ∙ q))) s p)

-- one of k cards is of the other form where one of them begins with its code
pub mixed_any : (o : List ℕ) → length o ≡ 5 → (k : ℕ) (d : List ℕ) → list_any (λ card. starts_with nat_eq card o) (cards k d) ≡ mixed o d k
unfolding cards mixed
mixed_any o five zero d = refl
mixed_any o five (suc k) d =
    rw (five, take-take 5 80 d (omega arith), starts_as (take 5 d) o, mixed_any o five k (drop 80 d))
