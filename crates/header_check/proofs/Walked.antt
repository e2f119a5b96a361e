-- The walk from card to card: what the code finds at a card is the verdict there, and the first offence decides.
use Prim.Native.Nat.{ℕ, ◌+◌, ◌-◌, ◌*◌, ◌<◌}
use native.Mathlib.Numerals.{add-one}
use native.Mathlib.Omega.{arith}
use mathlib.Core.Path.{◌≡◌, sym, ap, ◌∙◌}
use mathlib.Core.List.{List}
use mathlib.Core.Bool.{Bool, true, false, not, ◌&&◌, ◌||◌}
use lib.Dec.{eqb, ltb}
use lib.ListN.{get_or}
use borrow.Author.Tests.{lt-ltb, le-ltb}
use Rattle.base_lists.specs.Count.{first, first_from}
use Rattle.base_lists.proofs.Finding.{stops, goes, over}
use Rattle.base_lists.proofs.Parting.{part-get_d}
use Rattle.format_layout.specs.declared.Form.{Form}
use Rattle.header_check.specs.forms.Cards.{card_at, cards_in, byte_in, layout_of}
use Rattle.header_check.specs.forms.Forms.{form_of}
use Rattle.header_check.specs.packed.Notes.{notes_to, form_by}
use Rattle.header_check.proofs.forms.Noting.{form-noted}
use Rattle.format_layout.specs.Names.{H00X8, H00X9}
use Rattle.header_check.specs.Opening.{code_number, number_before, goes_on, continues, has_line, stands_at}
use Rattle.header_check.proofs.Block.{block_le, open_to, opens_on, line_to, line_on, line-behind, stands_by}
use Rattle.header_check.specs.Refusing.{placed_verdict, end_verdict, verdict_at, is_fine, offends, answer_for, answer_at, cards_answer}
use Rattle.std.specs.Prelude.{Result, Err, ⊤}
use Rattle.card_check.specs.declared.Offence.{Offence}
use Rattle.base_refusal.specs.declared.Refusal.{Refusal}
use Rattle.base_refusal.specs.Refusals.{no_refusal}
use Rattle.card_check.specs.Verdicts.{offending}

offends_by : (h : List ℕ) (c : ℕ) (v : Result ⊤ Offence) → v ≡ verdict_at h c → offends h c ≡ not (is_fine v)
unfolding offends
offends_by h c v e = rw e

module _ (h : List ℕ) where
  -- the byte that names a card's vessel is a byte
  pub vessel_byte : ((i : ℕ) → get_or h i 0 < 256) → (c : ℕ) → byte_in (card_at h c) 7 < 256
  unfolding byte_in card_at
  vessel_byte bytes c = rw (part-get_d 80 h c 6 0 (omega arith)) (bytes (80 * c + 6))

  -- what is found at a card
  pub found : (t s : List ℕ) (c k : ℕ) (form : Form) (inside line placed : Bool) (v : Result ⊤ Offence)
      → t ≡ notes_to h (cards_in h) → s ≡ card_at h c → c < cards_in h → byte_in (card_at h c) 7 < 256
      → k ≡ layout_of s → form ≡ form_by t k s → inside ≡ open_to h (c + 1) → line ≡ line_to h c
      → placed ≡ inside || (line && ltb H00X9 k) → v ≡ placed_verdict s form placed → v ≡ verdict_at h c
  unfolding verdict_at
  found t s c k form inside line placed v et es l byte ek ef eo el ep ev =
      let n : k ≡ layout_of (card_at h c) = ek ∙ ap layout_of es in
      let f : form ≡ form_of h (card_at h c) = rw (et, n, es) at ef ∙ form-noted h (card_at h c) byte in
      let p : placed ≡ stands_at h c = rw (n, eo, el) at ep ∙ sym (stands_by h c) in
      rw (lt-ltb c (cards_in h) l) (rw (es, f, p) at ev)

  -- whether the block goes on to the next card, and whether it then has an H00@8
  pub next_open : (s : List ℕ) (c k before number : ℕ) (inside goes : Bool) → s ≡ card_at h c → c < cards_in h
      → k ≡ layout_of s → number ≡ code_number s → before ≡ number_before h c → inside ≡ open_to h c
      → goes ≡ goes_on c k before number → inside && goes ≡ open_to h (c + 1)
  unfolding continues
  next_open s c k before number inside goes es l ek en eb eo eg =
      let g : goes ≡ continues h c = rw (ek, en, eb, es) at eg in
      rw (eo, g) (sym (opens_on h c l))

  pub next-line : (s : List ℕ) (c k : ℕ) (inside line : Bool) → s ≡ card_at h c → k ≡ layout_of s
      → inside ≡ open_to h (c + 1) → line ≡ line_to h c → line || (inside && eqb k H00X8) ≡ line_to h (c + 1)
  next-line s c k inside line es ek eo el = rw (ek, es, eo, el) (sym (line_on h c))

  module _ (c : ℕ) (l : c < cards_in h) (on : first (offends h) (cards_in h) ≡ first_from (offends h) (cards_in h - c) c) where
    -- it goes on behind a card that is fine
    pub goes_on_lem : (v : Result ⊤ Offence) → v ≡ verdict_at h c → v ≡ no_refusal
        → first (offends h) (cards_in h) ≡ first_from (offends h) (cards_in h - (c + 1)) (c + 1)
    goes_on_lem v e q =
        let f : offends h c ≡ false = offends_by h c v e ∙ ap (λ x. not (is_fine x)) q in
        on ∙ goes (offends h) (cards_in h) c l f

    -- and ends at an offence
    pub ends_at : (v : Result ⊤ Offence) → v ≡ verdict_at h c → (n column : ℕ) → v ≡ Err (offending n column)
        → (r : Result ⊤ Refusal) → r ≡ answer_for v (c + 1) → r ≡ cards_answer h
    unfolding cards_answer answer_at
    ends_at v e n column q r a =
        let f : offends h c ≡ true = offends_by h c v e ∙ ap (λ x. not (is_fine x)) q in
        let at : first (offends h) (cards_in h) ≡ c = on ∙ stops (offends h) (cards_in h) c l f in
        rw (at, ← e) a

  -- past the last card
  pub ends_past : (c : ℕ) → c ≡ cards_in h → first (offends h) (cards_in h) ≡ first_from (offends h) (cards_in h - c) c
      → (line : Bool) → line ≡ line_to h c → (v : Result ⊤ Offence) → v ≡ end_verdict line
      → (r : Result ⊤ Refusal) → r ≡ answer_for v (cards_in h + 1) → r ≡ cards_answer h
  unfolding cards_answer answer_at verdict_at
  ends_past c q on line el v e r a =
      let at : first (offends h) (cards_in h) ≡ cards_in h = on ∙ over (offends h) (cards_in h) c (omega arith) ∙ q in
      let f : v ≡ end_verdict (has_line h) = e ∙ ap end_verdict (el ∙ line-behind h c (omega (arith, block_le h))) in
      rw (at, le-ltb (cards_in h) (cards_in h) (omega arith), ← f) a

-- the code number before the next card
pub next-before : (h s : List ℕ) (c n : ℕ) → s ≡ card_at h c → n ≡ code_number s → n ≡ number_before h (c + 1)
unfolding number_before
next-before h s c n es e = rw add-one (e ∙ ap code_number es)
