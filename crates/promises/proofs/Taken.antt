-- Cards that a reader may skip are taken away: what remains is accepted, with the faults of the whole.
use Prim.Native.Nat.{ℕ, ◌+◌, ◌*◌, ◌-◌, ◌≤◌, ◌<◌}
use native.Mathlib.Decide.{dec_lt}
use native.Mathlib.Omega.{arith}
use mathlib.Core.Path.{◌≡◌, refl, sym, ap, ap₂, ◌∙◌}
use mathlib.Core.Bool.{Bool, true, false, not, ◌||◌, false≢true}
use mathlib.Core.Logic.{◌⊎◌, inl, inr, ⊎_elim}
use mathlib.Core.List.{List, [], ◌∷◌, ◌++◌, map, flat_map}
use lib.ListN.{length, take, drop, length-map}
use borrow.Author.Tests.{not-false}
use Rattle.base_lists.specs.Count.{count}
use Rattle.base_lists.specs.Parts.{alike}
use Rattle.base_lists.proofs.Comparing.{alike_equal}
use Rattle.base_lists.proofs.Counting.{count-all}
use Rattle.base_lists.proofs.Laying.{laid-whole}
use Rattle.base_lists.proofs.Moving.{Placed}
use Rattle.base_lists.proofs.Taking.{count-not, closed_up, length_made, part_made}
use Rattle.format_layout.specs.Shape.{bytes}
use Rattle.format_layout.specs.Table.{layouts, passed_codes}
use Rattle.format_layout.specs.Names.{H00X9, H0100}
use Rattle.format_code.specs.declared.Code.{Code}
use Rattle.format_code.specs.declared.Code.TheVariants as code
use Rattle.format_code.specs.Codes.{byte_fits, fits_at, fits, codes, place_in, code_at, code_of}
use Rattle.header_check.specs.forms.Cards.{card_at, cards_in, layout_of, unread, number_of}
use Rattle.header_check.specs.Refusing.{refusal_of}
use Rattle.header_laws.proofs.Exactly.{accepted_exactly}
use Rattle.header_laws.proofs.Rows.{eighty}
use Rattle.header_laws.proofs.Opens.{Opens}
use Rattle.header_laws.proofs.Moved as header
use Rattle.tie_rules.specs.Faults.{broken, faults, entry_size, entry_of, entries}
use Rattle.tie_check.specs.Answer.{answer_for, list_for}
use Rattle.tie_laws.proofs.Complete as complete
use Rattle.tie_laws.proofs.Moved.{Reordered, broken-moved, gone_unbroken}
use Rattle.tie_laws.proofs.Untied.{Untied, C0001, C0002, first_comments, second_comments, passed_over}
use Rattle.tie_laws.proofs.Taken.{list_taken}
use Rattle.promises.specs.Words.{list_of, is_passed, may_skip, Skipped, without, new_number, moved_down}
use Rattle.base_refusal.specs.Refusals.{no_refusal}

-- the layout of a card that a reader may skip
data Skips (k : ℕ) : Type 0 where
  first : k ≡ C0001 → Skips k
  second : k ≡ C0002 → Skips k
  passed : k ≡ unread → Skips k

either : (a b : Bool) → (a || b) ≡ true → (a ≡ true) ⊎ (b ≡ true)
either true b e = inl refl
either false b e = inr e

passed-unread : (c : Code) → is_passed c ≡ true → number_of c ≡ unread
passed-unread code.Passed e = refl
passed-unread code.Unknown e = absurd (false≢true e)
passed-unread (code.Read k) e = absurd (false≢true e)

comment-codes : (number_of (code_of (bytes "C0001")) ≡ C0001) × (number_of (code_of (bytes "C0002")) ≡ C0002)
unfolding layouts passed_codes byte_fits fits_at fits codes place_in code_at code_of
comment-codes = (refl, refl)

skips : (s : List ℕ) → may_skip s ≡ true → Skips (layout_of s)
unfolding may_skip layout_of
skips s e = ⊎_elim
    (λ p. passed (passed-unread (code_of (take 5 s)) p))
    (λ p. ⊎_elim
    (λ q. first (ap (λ t. number_of (code_of t)) (alike_equal (take 5 s) (bytes "C0001") q) ∙ comment-codes.0))
    (λ q. second (ap (λ t. number_of (code_of t)) (alike_equal (take 5 s) (bytes "C0002") q) ∙ comment-codes.1))
    (either (alike (take 5 s) (bytes "C0001")) (alike (take 5 s) (bytes "C0002")) p))
    (either (is_passed (code_of (take 5 s))) (alike (take 5 s) (bytes "C0001") || alike (take 5 s) (bytes "C0002")) e)

-- it is behind the opening block, states no form and has no tie
behind : (k : ℕ) → Skips k → H00X9 < k
behind k (first e) = omega arith
behind k (second e) = omega arith
behind k (passed e) = omega arith

no_grid : (k : ℕ) → Skips k → k ≡ H0100 → ⊥
no_grid k (first e) q = omega arith
no_grid k (second e) q = omega arith
no_grid k (passed e) q = omega arith

untied : (k : ℕ) → Skips k → Untied k
untied k (first e) = rw e first_comments
untied k (second e) = rw e second_comments
untied k (passed e) = rw e passed_over

-- entries one after the other
flat_map_lem : {A B : Type 0} (f : A → List B) (l : List A) → flat_map f l ≡ flat_map (λ e. e) (map f l)
unfolding flat_map
flat_map_lem f [] = refl
flat_map_lem f (x ∷ l) = ap (λ r. f x ++ r) (flat_map_lem f l)

all-entries : (h : List ℕ) → entries h ≡ flat_map (λ e. e) (list_of h)
unfolding entries
all-entries h = flat_map_lem (entry_of h) (faults h)

module _ (away : ℕ → Bool) where
  abbrev stays : ℕ → Bool
  stays c = not (away c)

  -- as many stay before a card as its new number says
  new_number_lem : (c : ℕ) → count stays c ≡ new_number away c
  unfolding new_number
  new_number_lem c = omega (arith, count-not away c)

  renumbers : (c : ℕ) (rest : List ℕ) → moved_down away ((c + 1) ∷ rest) ≡ (count stays c + 1) ∷ rest
  unfolding moved_down
  renumbers c rest = let e : c + 1 - 1 ≡ c = omega arith in rw (e, new_number_lem c)

  module _ (h : List ℕ) where
    cards-length : length (without away h) ≡ 80 * count stays (cards_in h)
    unfolding without
    cards-length = length_made stays (card_at h) 80 (cards_in h) (eighty h)

    cards_left : cards_in (without away h) ≡ count stays (cards_in h)
    unfolding cards_in
    cards_left = omega (arith, cards-length)

    abbrev order : Placed stays (cards_in h) (cards_in (without away h))
    order = closed_up stays cards_left

    at_place : (c : ℕ) → c < cards_in h → stays c ≡ true → card_at (without away h) (count stays c) ≡ card_at h c
    unfolding without card_at
    at_place c l t = part_made stays (card_at h) 80 (cards_in h) (eighty h) c l t

    -- a card that stays stands under its new number
    pub taken_card : (c : ℕ) → c < cards_in h → away c ≡ false → card_at (without away h) (new_number away c) ≡ card_at h c
    taken_card c l t = rw (← new_number_lem c) (at_place c l (ap not t))

    -- as many are left
    pub taken_cards : cards_in (without away h) ≡ cards_in h - count away (cards_in h)
    taken_cards = omega (arith, cards_left, count-not away (cards_in h))

    module _ (s : Skipped away h) where
      skipped : (c : ℕ) → c < cards_in h → stays c ≡ false → Skips (layout_of (card_at h c))
      skipped c l t = skips (card_at h c) (s c l (not-false (away c) t))

      abbrev reordered : Reordered h (without away h)
      reordered = record {
        stays = stays;
        order = order;
        same_card = at_place;
        gone = λ c l t. untied (layout_of (card_at h c)) (skipped c l t);
      }

      pub taken_broken : (c column kind : ℕ) → c < cards_in h → away c ≡ false
          → broken (without away h) (new_number away c) column kind ≡ broken h c column kind
      taken_broken c column kind l t = rw (← new_number_lem c) (broken-moved h (without away h) reordered c column kind l (ap not t))

      pub away_unbroken : (c column kind : ℕ) → c < cards_in h → away c ≡ true → broken h c column kind ≡ false
      away_unbroken c column kind l t = gone_unbroken h (without away h) reordered c column kind l (ap not t)

      pub taken_list : list_of (without away h) ≡ map (moved_down away) (list_of h)
      taken_list = list_taken h (without away h) reordered (λ c. refl) (moved_down away) renumbers

      module _ (a : refusal_of h ≡ no_refusal) where
        abbrev opening : Opens h
        opening = header.accepted-opens h a

        block_stays : (c : ℕ) → c < opening.end → stays c ≡ true
        block_stays c l = go (stays c) refl
          where
            low : layout_of (card_at h c) ≤ H00X9
            low = elim (dec_lt c 8) [
              | yes i ↦ omega (arith, opening.eight c i)
              | no i ↦ ⊎_elim (λ e. omega (arith, e)) (λ e. omega (arith, e)) (opening.vessels c (omega arith) l)
            ]

            go : (b : Bool) → stays c ≡ b → b ≡ true
            go true e = refl
            go false e = absurd (omega (arith, low, behind (layout_of (card_at h c)) (skipped c (omega (arith, l, opening.inside)) e)))

        pub taken_accepted : refusal_of (without away h) ≡ no_refusal
        taken_accepted = header.accepted-there h (without away h) (record {
          stays = stays;
          order = order;
          same_rest = omega (arith, cards-length, ((accepted_exactly h).0 a).0.whole);
          same_card = at_place;
          no_form = λ c l t. no_grid (layout_of (card_at h c)) (skipped c l t);
          end = opening.end;
          inside = opening.inside;
          before = block_stays;
          kept = λ c l. count-all stays c (λ d k. block_stays d (omega arith));
          behind = opening.later;
        }) a

        same_number_lem : length (list_of (without away h)) ≡ length (list_of h)
        same_number_lem = rw (taken_list, length-map)

        -- the check answers the same number
        pub taken_number : answer_for (refusal_of (without away h)) (length (faults (without away h))) ≡ answer_for (refusal_of h) (length (faults h))
        taken_number = ap₂ answer_for (taken_accepted ∙ sym a)
            (sym (length-map (faults (without away h)) (entry_of (without away h))) ∙ same_number_lem ∙ length-map (faults h) (entry_of h))

        -- with room for all it leaves the list with the card numbers moved down, and the rest as it was
        pub taken_check : (l : List ℕ) → entry_size * length (list_of h) ≤ length l
            → list_for (refusal_of (without away h)) l (entries (without away h))
            ≡ flat_map (moved_down away) (list_of h) ++ drop (entry_size * length (list_of h)) l
        unfolding list_for
        taken_check l room =
            let size : length (entries (without away h)) ≡ entry_size * length (list_of h) =
            complete.whole-entries (without away h) ∙ ap (λ n. entry_size * n) same_number_lem in
            rw (taken_accepted)
            (laid-whole entry_size (omega arith) l (entries (without away h)) (length (list_of h)) size (omega arith)
            ∙ ap₂ (λ w n. w ++ drop n l) flat size)
          where
            flat : entries (without away h) ≡ flat_map (moved_down away) (list_of h)
            flat = all-entries (without away h) ∙ ap (flat_map (λ e. e)) taken_list ∙ sym (flat_map_lem (moved_down away) (list_of h))
