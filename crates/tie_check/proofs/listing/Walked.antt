-- One step more, one card more.
use Prim.Native.Nat.{ℕ, zero, suc, ◌+◌, ◌≤◌, ◌<◌}
use native.Mathlib.Numerals.{add-one}
use native.Mathlib.Decide.{dec_lt}
use native.Mathlib.Omega.{arith}
use mathlib.Core.Path.{◌≡◌, sym, ap, ◌∙◌}
use mathlib.Core.Bool.{Bool, true}
use mathlib.Core.List.{List, [], ◌++◌, flat_map, append-nil}
use lib.ListN.{length, get_or, length-append}
use Rattle.base_lists.specs.Parts.{up_to}
use Rattle.base_lists.proofs.Entries.{entries_more}
use Rattle.format_layout.specs.Layouts.{fields_of}
use Rattle.header_check.specs.forms.Cards.{card_at, cards_in, layout_of}
use Rattle.header_check.specs.Refusing.{refusal_of}
use Rattle.header_laws.proofs.Accepted.{few-cards, printed}
use Rattle.tie_rules.specs.Keys.{vessel_of}
use Rattle.tie_rules.specs.Faults.{misplaced_among, misplaced}
use Rattle.tie_rules.specs.packed.Rows.{row_at, column_in, vessel_by}
use Rattle.tie_rules.proofs.keys.Table.{column-told}
use Rattle.tie_rules.proofs.key_laws.Told.{vessel_at}
use Rattle.tie_check.specs.declared.entries.Broken.{Broken}
use Rattle.tie_check.specs.declared.totals.Totals.{Totals}
use Rattle.tie_check.specs.packed.Numbers.{number_on}
use Rattle.tie_check.specs.packed.Gathered.{gathered}
use Rattle.tie_check.specs.packed.Totals.{totals_of}
use Rattle.tie_check.specs.packed.Kinds.{broken_for}
use Rattle.tie_check.specs.packed.Asked.{times_of, faults_by}
use Rattle.tie_check.specs.packed.Stored.{stored_all, entries_for}
use Rattle.tie_check.specs.packed.Listed.{step_entries}
use Rattle.tie_check.specs.packed.Begins.{walked}
use Rattle.tie_check.proofs.begins.Columns.{walked_below}
use Rattle.tie_check.proofs.judging.Judged.{judged}
use Rattle.tie_check.proofs.listing.Columns.{of_column}
use Rattle.tie_check.proofs.entries.Stored.{stored-append}
use Rattle.base_refusal.specs.Refusals.{no_refusal}

-- entries more, of whatever they are
pub run_more : (g : ℕ → List (List ℕ)) (l₀ l l' : List ℕ) (found m r i : ℕ)
    → l ≡ stored_all l₀ found (flat_map g (up_to i)) → m ≡ found + length (flat_map g (up_to i))
    → l' ≡ stored_all l m (g i) → r ≡ m + length (g i)
    → (l' ≡ stored_all l₀ found (flat_map g (up_to (i + 1)))) × (r ≡ found + length (flat_map g (up_to (i + 1))))
unfolding up_to
run_more g l₀ l l' found m r i a b d e =
    let w = flat_map g (up_to i) in
    let more : flat_map g (up_to (i + 1)) ≡ w ++ g i = ap (λ j. flat_map g (up_to j)) (add-one i) ∙ entries_more g (up_to i) i in (
      d ∙ rw (a, b) (stored-append w (g i) l₀ found) ∙ ap (stored_all l₀ found) (sym more),
      omega (arith, ap length more, length-append w (g i)),
    )

-- behind what gives nothing more
pub run_rest : (g : ℕ → List (List ℕ)) (m n : ℕ) → m ≤ n → ((i : ℕ) → m ≤ i → i < n → g i ≡ [])
    → flat_map g (up_to n) ≡ flat_map g (up_to m)
unfolding up_to
run_rest g m zero l h = let q : m ≡ 0 = omega arith in ap (λ i. flat_map g (up_to i)) (sym q)
run_rest g m (suc n) l h = elim (dec_lt n m) [
  | yes k ↦ let q : m ≡ suc n = omega arith in ap (λ i. flat_map g (up_to i)) (sym q)
  | no k ↦
      entries_more g (up_to n) n
      ∙ ap (λ e. flat_map g (up_to n) ++ e) (h n (omega arith) (omega arith))
      ∙ append-nil _
      ∙ run_rest g m n (omega arith) (λ i a b. h i a (omega arith))
]

-- what a step gives
module _ (h : List ℕ) (accepted : refusal_of h ≡ no_refusal) (c : ℕ) (below : c < cards_in h) (left : Bool) (layout i row : ℕ)
    (is : layout ≡ layout_of (card_at h c)) (found : row ≡ row_at layout (get_or (walked left layout) i 0)) where
  abbrev at : ℕ
  at = get_or (walked left (layout_of (card_at h c))) i 0

  row-there : row ≡ row_at (layout_of (card_at h c)) at
  row-there = found ∙ ap (λ k. row_at k (get_or (walked left k) i 0)) is

  low : at < 256
  low = omega (arith, walked_below left (layout_of (card_at h c)) i)

  pub step-column : column_in row ≡ at
  step-column = ap column_in row-there ∙ column-told (layout_of (card_at h c)) at low

  pub step-none : row ≡ 0 → at ≡ 0
  unfolding column_in
  step-none z = sym step-column ∙ ap column_in z

  pub step_gives : (s keys links : List ℕ) (totals : Totals) (once : Bool) (vessel column : ℕ) (b : Broken) (m : Bool)
      → (once ≡ true → (i : ℕ) → i ≤ 80 → times_of h (number_on (card_at h c) i) ≤ 1) → s ≡ card_at h c
      → vessel ≡ vessel_by layout s → keys ≡ (gathered h).keys → links ≡ (gathered h).links → totals ≡ totals_of h
      → column ≡ column_in row → b ≡ faults_by keys links totals once s vessel row
      → m ≡ misplaced_among (fields_of layout) s (get_or (walked left layout) i 0)
      → entries_for b m (c + 1) column vessel ≡ step_entries h c left i
  unfolding step_entries misplaced
  step_gives s keys links totals once vessel column b m unique card v p q r o w x =
      let own : vessel ≡ vessel_of (card_at h c) = v ∙ rw (card, is) (vessel_at (card_at h c)) in
      let e : b ≡ broken_for h (card_at h c) at = w ∙ rw (p, q, r, card, own, row-there)
      (judged h (few-cards h accepted) (printed h accepted) (card_at h c) (printed h accepted c below) at low once
      (λ t. unique t at (omega (arith, walked_below left (layout_of (card_at h c)) i)))) in
      let y : m ≡ misplaced (card_at h c) at = x ∙ rw (card, is) in
      rw (e, y, o ∙ step-column, own) (of_column h c at)
