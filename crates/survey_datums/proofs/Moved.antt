-- Cards that change places: every datum is defined as often, has as many shifts, and its route goes by the same datums. Only the
-- numbers of cards change.
use Prim.Native.Nat.{ℕ, ◌+◌, ◌-◌, ◌<◌}
use native.Mathlib.Omega.{arith}
use mathlib.Core.Path.{◌≡◌, refl, sym, ap, ◌∙◌}
use mathlib.Core.Bool.{Bool, true, false}
use mathlib.Core.List.{List, [], ◌∷◌, map}
use lib.Dec.{ltb}
use lib.ListN.{length}
use Rattle.base_lists.specs.Count.{Rearranged}
use Rattle.base_lists.specs.Parts.{up_to}
use Rattle.base_lists.proofs.Finding.{first_same}
use Rattle.header_check.specs.forms.Cards.{card_at, cards_in}
use Rattle.tie_laws.proofs.Moved.{as_many_cards, reordered, definitions_moved}
use Rattle.survey_datums.specs.routing.Chains.{next}
use Rattle.survey_datums.proofs.routing.Filling.{listed_same}
use Rattle.survey_datums.proofs.routing.Fewest.{distance_same, next_same}
use Rattle.survey_datums.specs.Datums.{times_defined, is_defined, some_twice, joins, joining}
use Rattle.survey_datums.specs.Chains.{Joined}
use Rattle.survey_datums.specs.Answer.{shifts_told}
use Rattle.survey_datums.proofs.Chained.{by, by_lowest, lowest_joins, lowest_card}

-- two tests that pass together
alike : (x y : Bool) → (x ≡ true → y ≡ true) → (y ≡ true → x ≡ true) → x ≡ y
alike true y f g = sym (f refl)
alike false true f g = g refl
alike false false f g = refl

module _ (h h' : List ℕ) (π : Rearranged (cards_in h)) (same : length h' ≡ length h)
    (card : (c : ℕ) → c < cards_in h → card_at h' (π.to c) ≡ card_at h c) where
  pub times_moved : (a : ℕ) → times_defined h' a ≡ times_defined h a
  unfolding times_defined
  times_moved a = definitions_moved h h' (reordered h h' π same card) 1 ((a + 1) ∷ [])

  pub twice_moved : some_twice h' ≡ some_twice h
  unfolding some_twice
  twice_moved = ap (λ n. ltb n 9) (first_same (λ a. ltb 1 (times_defined h' a)) (λ a. ltb 1 (times_defined h a)) 9 (λ a l. ap (ltb 1) (times_moved a)))

  -- a card joins the same datums at its new place
  joins-moved : (a b c : ℕ) → c < cards_in h → joins h' a b (π.to c) ≡ joins h a b c
  unfolding joins is_defined
  joins-moved a b c l = rw (times_moved a, times_moved b, card c l)

  back : (n : ℕ) → n + 1 - 1 ≡ n
  back n = omega arith

  there : (a b c : ℕ) → Joined h c a b → Joined h' (π.to (c - 1) + 1) a b
  there a b c j =
      let l : c - 1 < cards_in h = omega (arith, j.first_card, j.last_card) in
      record {
        first_card = omega arith;
        last_card = omega (arith, π.to_below (c - 1) l, as_many_cards h h' same);
        next_datum = j.next_datum;
        joins_them = rw (back (π.to (c - 1))) (joins-moved a b (c - 1) l ∙ j.joins_them);
      }

  again : (a b c : ℕ) → Joined h' c a b → Joined h (π.from (c - 1) + 1) a b
  again a b c j =
      let l : c - 1 < cards_in h = omega (arith, j.first_card, j.last_card, as_many_cards h h' same) in
      let m = π.from_below (c - 1) l in
      record {
        first_card = omega arith;
        last_card = omega (arith, m);
        next_datum = j.next_datum;
        joins_them = rw (back (π.from (c - 1)))
            (sym (joins-moved a b (π.from (c - 1)) m) ∙ ap (joins h' a b) (π.to-from (c - 1) l) ∙ j.joins_them);
      }

  -- so the same datums are joined
  joined-alike : (a b : ℕ) → a < 9 → b < 9 → ltb 0 (by h' a b) ≡ ltb 0 (by h a b)
  joined-alike a b l m = ap (ltb 0) (by_lowest h' a b l m)
      ∙ alike (ltb 0 (joining h' a b)) (ltb 0 (joining h a b))
      (λ e. let w = lowest_joins h' a b m e in (lowest_card h a b (π.from (joining h' a b - 1) + 1) w.0 (again a b (joining h' a b) w.1)).0)
      (λ e. let w = lowest_joins h a b m e in (lowest_card h' a b (π.to (joining h a b - 1) + 1) w.0 (there a b (joining h a b) w.1)).0)
      ∙ sym (ap (ltb 0) (by_lowest h a b l m))

  -- as many shifts, as they are told
  pub shifts_moved : (a : ℕ) → a < 9 → shifts_told h' a ≡ shifts_told h a
  unfolding shifts_told is_defined
  shifts_moved a l = rw (times_moved a, distance_same (by h') (by h) joined-alike a l)

  pub all_shifts_moved : map (shifts_told h') (up_to 9) ≡ map (shifts_told h) (up_to 9)
  all_shifts_moved = listed_same (shifts_told h') (shifts_told h) 9 shifts_moved

  -- and the same next datum at each step
  pub next-moved : (n a : ℕ) → a < 9 → next (by h') n a ≡ next (by h) n a
  next-moved n a l = next_same (by h') (by h) joined-alike n a l
