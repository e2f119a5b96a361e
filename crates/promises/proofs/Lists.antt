-- The laws of the list, said of what the check answers and leaves.
use Prim.Native.Nat.{ℕ, ◌+◌, ◌*◌, ◌-◌, ◌/◌, ◌≤◌, ◌<◌, min}
use native.Mathlib.Decide.{dec_lt}
use native.Mathlib.Omega.{arith}
use mathlib.Core.Path.{◌≡◌, refl, sym, ap₂, ◌∙◌}
use mathlib.Core.Bool.{true}
use mathlib.Core.Logic.{◌↔◌, ⊎_elim}
use mathlib.Core.List.{List, [], ◌∷◌, Memᴰ}
use lib.ListN.{length, get_or, length-map}
use borrow.Author.Tests.{le-leb}
use Rattle.base_refusal.specs.declared.Refusal.{Refusal}
use Rattle.base_lists.specs.Parts.{part}
use Rattle.base_lists.specs.Laid.{laid}
use Rattle.base_lists.proofs.Laying.{length-laid}
use Rattle.format_layout.specs.Names.{H00X9}
use Rattle.header_check.specs.forms.Cards.{card_at, cards_in, layout_of}
use Rattle.header_check.specs.Refusing.{refusal_of}
use Rattle.header_laws.proofs.Moved.{accepted-opens}
use Rattle.tie_rules.specs.Faults.{broken, faults, entry_size, entry_for, entry_of, entries}
use Rattle.tie_check.specs.Answer.{answer_for, list_for}
use Rattle.tie_laws.proofs.Complete as complete
use Rattle.tie_laws.proofs.Moved.{reordered, entry-moved}
use Rattle.tie_laws.proofs.Rearranged.{rearranged_alike}
use Rattle.promises.specs.Words.{list_of, opens, Moved}
use Rattle.std.specs.Prelude.{Result, Ok, Err, ⊤}
use Rattle.base_refusal.specs.Refusals.{no_refusal}

pub refused_check : (h l : List ℕ) (r : Refusal) → refusal_of h ≡ Err r → list_for (refusal_of h) l (entries h) ≡ l
unfolding list_for
refused_check h l r e = rw e

pub number : (h : List ℕ) → refusal_of h ≡ no_refusal → answer_for (refusal_of h) (length (faults h)) ≡ Ok (length (list_of h))
unfolding answer_for
number h a = rw (a, length-map (faults h) (entry_of h))

pub nothing_else : (h e : List ℕ) → Memᴰ e (list_of h)
    → (c : ℕ) × (column : ℕ) × (kind : ℕ) × (c < cards_in h) × (broken h c column kind ≡ true) × (e ≡ entry_for h c column kind)
nothing_else h e m =
    let r = complete.only-faults h e m in
    let f = r.5 in
    let q : r.0 - 1 + 1 ≡ r.0 = omega (arith, f.first_card) in (
      r.0 - 1,
      r.1,
      r.2,
      omega (arith, f.first_card, f.last_card),
      f.is-broken,
      r.4 ∙ ap₂ (λ n v. n ∷ r.1 ∷ r.2 ∷ v ∷ []) (sym q) f.is_vessel,
    )

module _ (h l : List ℕ) where
  module _ (a : refusal_of h ≡ no_refusal) where
    is-laid : list_for (refusal_of h) l (entries h) ≡ laid entry_size l (entries h)
    unfolding list_for
    is-laid = rw a

    pub first_that_fit : (i : ℕ) → i < min (length (list_of h)) (length l / entry_size)
        → part entry_size (list_for (refusal_of h) l (entries h)) i ≡ get_or (list_of h) i []
    first_that_fit i b = rw is-laid (complete.first-entries h l i b)

    pub rest_stays : (i : ℕ) → entry_size * min (length (list_of h)) (length l / entry_size) ≤ i
        → get_or (list_for (refusal_of h) l (entries h)) i 0 ≡ get_or l i 0
    rest_stays i b = rw is-laid (complete.rest_unchanged h l i b)

  pub as_long : length (list_for (refusal_of h) l (entries h)) ≡ length l
  unfolding list_for
  as_long = go (refusal_of h)
    where
      go : (c : Result ⊤ Refusal) → length (list_for c l (entries h)) ≡ length l
      go (Ok _) = length-laid entry_size l (entries h)
      go (Err r) = refl

pub moved : (h h' : List ℕ) (a : refusal_of h ≡ no_refusal) (m : Moved h h')
    → (refusal_of h' ≡ no_refusal)
    × (answer_for (refusal_of h') (length (faults h')) ≡ answer_for (refusal_of h) (length (faults h)))
    × ((c column kind vessel : ℕ) → c < cards_in h
    → Memᴰ ((c + 1) ∷ column ∷ kind ∷ vessel ∷ []) (list_of h)
    ↔ Memᴰ ((m.order.to c + 1) ∷ column ∷ kind ∷ vessel ∷ []) (list_of h'))
unfolding opens
moved h h' a m =
    let r = rearranged_alike h h' a m.order m.same_length m.same_card stays in
    let same : length (faults h') ≡ length (faults h) =
    sym (length-map (faults h') (entry_of h')) ∙ r.1.as_many ∙ length-map (faults h) (entry_of h) in (
      r.0,
      ap₂ answer_for (r.0 ∙ sym a) same,
      λ c column kind vessel l. entry-moved h h' (reordered h h' m.order m.same_length m.same_card) c column kind vessel l refl,
    )
  where
    -- the cards before the end of the block are opening cards
    stays : (c : ℕ) → c < (accepted-opens h a).end → m.order.to c ≡ c
    stays c l =
        let o = accepted-opens h a in
        m.block_stays c (omega (arith, l, o.inside)) (le-leb (layout_of (card_at h c)) H00X9 (elim (dec_lt c 8) [
          | yes i ↦ omega (arith, o.eight c i)
          | no i ↦ ⊎_elim (λ e. omega (arith, e)) (λ e. omega (arith, e)) (o.vessels c (omega arith) l)
        ]))
