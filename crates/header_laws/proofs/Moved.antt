-- Cards behind the opening block that change places, or of which some are gone: each that stays keeps its form and its verdict, and
-- the header is accepted as before.
use Prim.Native.Nat.{ℕ, zero, suc, ◌/◌, ◌%◌, ◌≤◌, ◌<◌}
use native.Mathlib.Decide.{ℕ_discrete, dec_lt}
use native.Mathlib.Omega.{arith}
use mathlib.Core.Path.{◌≡◌, refl, sym, ap, ◌∙◌}
use mathlib.Core.Logic.{◌↔◌}
use mathlib.Core.List.{List}
use mathlib.Core.Bool.{Bool, true, false, not, ◌&&◌, true≢false}
use lib.Dec.{eqb, ltb}
use lib.ListN.{length}
use borrow.Author.Tests.{eq-eqb, ne_eqb, lt-ltb, le-ltb}
use Rattle.base_lists.specs.Count.{count, first, Rearranged}
use Rattle.base_lists.proofs.Counting.{count_one, count_same}
use Rattle.base_lists.proofs.Moving.{Placed, all_stay, back, count-placed, placed_le}
use Rattle.base_lists.proofs.Finding.{first_passes, first_same, first_cut}
use Rattle.header_check.specs.forms.Cards.{card_at, cards_in, byte_in, layout_of}
use Rattle.format_layout.specs.Names.{H00X8, H00X9, H0100}
use Rattle.header_check.specs.forms.Forms.{form_said, only_form, states_line, states_grid, line_form, grid_form, form_of}
use Rattle.header_check.specs.Opening.{code_number, number_before, continues, block_end, has_line, stands_at}
use Rattle.header_check.specs.Refusing.{verdict_at, refusal_of}
use Rattle.header_check.proofs.Block.{block_le, in_block}
use Rattle.header_laws.proofs.Exactly.{Sized, Fine-throughout, accepted_exactly}
use Rattle.header_laws.proofs.Rows.{fine_exactly, past_exactly}
use Rattle.header_laws.proofs.Opens.{there, never, Opens, opens_exactly}
use Rattle.base_refusal.specs.Refusals.{no_refusal}
use Rattle.card_check.proofs.Verdicts.{not_fine}

-- the form that the only card says, when those that stay are placed anew and no other says any
only-placed : {stays : ℕ → Bool} {n m : ℕ} (π : Placed stays n m) (p q : ℕ → Bool) (a b : ℕ → ℕ)
    → ((i : ℕ) → i < n → stays i ≡ true → q (π.to i) ≡ p i)
    → ((i : ℕ) → i < n → stays i ≡ false → p i ≡ false)
    → ((i : ℕ) → i < n → stays i ≡ true → b (π.to i) ≡ a i) → only_form q b m ≡ only_form p a n
unfolding only_form
only-placed {stays} {n} {m} π p q a b f none g = rw (count-placed π p q f none) (elim (ℕ_discrete (count p n) 1) [
  | yes o ↦ rw (eq-eqb (count p n) 1 o) (ap form_said (ap b (same o) ∙ g (first p n) (low o) (kept (low o))))
  | no o ↦ rw (ne_eqb (count p n) 1 o)
])
  where
    low : count p n ≡ 1 → first p n < n
    low o = there p n (omega arith)

    kept : first p n < n → stays (first p n) ≡ true
    kept l = go (stays (first p n)) refl
      where
        go : (t : Bool) → stays (first p n) ≡ t → t ≡ true
        go true e = refl
        go false e = absurd (true≢false (sym (first_passes p n l) ∙ none (first p n) l e))

    same : count p n ≡ 1 → first q m ≡ π.to (first p n)
    same o =
        let l : first p n < n = low o in
        let e : count q m ≡ 1 = count-placed π p q f none ∙ o in
        let k : first q m < m = there q m (omega arith) in
        count_one q m e (first q m) (π.to (first p n)) k (π.to_below (first p n) l (kept l)) (first_passes q m k)
        (f (first p n) l (kept l) ∙ first_passes p n l)

-- h' is h with its cards at other places, some of them gone: those before an end stay where they are, no opening code stands behind
-- it, and no card is gone that states a form
pub record Moved (h h' : List ℕ) : Type 0 where
  pub stays : ℕ → Bool
  pub order : Placed stays (cards_in h) (cards_in h')
  pub same_rest : length h' % 80 ≡ length h % 80
  pub same_card : (c : ℕ) → c < cards_in h → stays c ≡ true → card_at h' (order.to c) ≡ card_at h c
  pub no_form : (c : ℕ) → c < cards_in h → stays c ≡ false → layout_of (card_at h c) ≡ H0100 → ⊥
  pub end : ℕ
  pub inside : end ≤ cards_in h
  pub before : (c : ℕ) → c < end → stays c ≡ true
  pub kept : (c : ℕ) → c < end → order.to c ≡ c
  pub behind : (c : ℕ) → end ≤ c → c < cards_in h → H00X9 < layout_of (card_at h c)

-- an accepted header opens with a block
pub accepted-opens : (h : List ℕ) → refusal_of h ≡ no_refusal → Opens h
accepted-opens h a = (opens_exactly h).0 (λ c l. stands c l, lined (has_line h) refl)
  where
    fine : Fine-throughout h
    fine = ((accepted_exactly h).0 a).1

    lined : (b : Bool) → has_line h ≡ b → b ≡ true
    lined true e = refl
    lined false e = absurd (not_fine 6 1 (sym (fine (cards_in h) (omega arith)) ∙ (past_exactly h 6 1).1 (e, refl, refl)))

    stands : (c : ℕ) → c < cards_in h → stands_at h c ≡ true
    stands c l = ((fine_exactly h c l).0 (fine c (omega arith))).stands

module _ (h h' : List ℕ) (m : Moved h h') where
  -- a card that is gone stood behind the end
  gone_behind : (c : ℕ) → c < cards_in h → m.stays c ≡ false → H00X9 < layout_of (card_at h c)
  gone_behind c l e = m.behind c (elim (dec_lt c m.end) [
    | yes k ↦ absurd (true≢false (sym (m.before c k) ∙ e))
    | no k ↦ omega arith
  ]) l

  -- every card has the form that it had
  line-moved : (v : ℕ) → line_form h' v ≡ line_form h v
  unfolding line_form states_line
  line-moved v = only-placed m.order (states_line h v) (states_line h' v)
      (λ c. byte_in (card_at h c) 32) (λ c. byte_in (card_at h' c) 32)
      (λ i l t. ap (λ (s : List ℕ). eqb (layout_of s) H00X8 && eqb (byte_in s 30) v) (m.same_card i l t))
      (λ i l t. rw (ne_eqb (layout_of (card_at h i)) H00X8 (λ e. omega (arith, gone_behind i l t))))
      (λ i l t. ap (λ (s : List ℕ). byte_in s 32) (m.same_card i l t))

  grid_moved : grid_form h' ≡ grid_form h
  unfolding grid_form states_grid
  grid_moved = only-placed m.order (states_grid h) (states_grid h')
      (λ c. byte_in (card_at h c) 21) (λ c. byte_in (card_at h' c) 21)
      (λ i l t. ap (λ (s : List ℕ). eqb (layout_of s) H0100) (m.same_card i l t))
      (λ i l t. ne_eqb (layout_of (card_at h i)) H0100 (m.no_form i l t))
      (λ i l t. ap (λ (s : List ℕ). byte_in s 21) (m.same_card i l t))

  pub form-moved : (s : List ℕ) → form_of h' s ≡ form_of h s
  unfolding form_of
  form-moved s = rw (line-moved (byte_in s 7), grid_moved)

  -- a card before the end stands where it stood
  kept_card : (c : ℕ) → c < m.end → card_at h' c ≡ card_at h c
  kept_card c l = ap (card_at h') (sym (m.kept c l)) ∙ m.same_card c (omega (arith, m.inside)) (m.before c l)

  kept-before : (c : ℕ) → c < m.end → number_before h' c ≡ number_before h c
  unfolding number_before
  kept-before zero l = refl
  kept-before (suc c) l = ap code_number (kept_card c (omega arith))

  inside-there : m.end ≤ cards_in h'
  inside-there = go m.end m.inside m.before m.kept
    where
      go : (e : ℕ) → e ≤ cards_in h → ((c : ℕ) → c < e → m.stays c ≡ true) → ((c : ℕ) → c < e → m.order.to c ≡ c) → e ≤ cards_in h'
      go zero l f g = omega arith
      go (suc e) l f g = omega (arith, m.order.to_below e (omega arith) (f e (omega arith)), g e (omega arith))

  -- what stands behind the end came from behind it, and has no opening code
  behind-there : (c : ℕ) → m.end ≤ c → c < cards_in h' → H00X9 < layout_of (card_at h' c)
  behind-there c l k =
      let from = m.order.from c in
      let e : m.order.to from ≡ c = m.order.to-from c k in
      let q : card_at h' c ≡ card_at h from =
      ap (card_at h') (sym e) ∙ m.same_card from (m.order.from_below c k) (m.order.from-stays c k) in
      rw q (m.behind from (elim (dec_lt from m.end) [
        | yes x ↦ absurd (omega (arith, m.kept from x))
        | no x ↦ omega arith
      ]) (m.order.from_below c k))

  -- so the block is what it was
  continues-alike : (c : ℕ) → c < m.end → continues h' c ≡ continues h c
  unfolding continues
  continues-alike c l = rw (kept_card c l, kept-before c l)

  same_end : block_end h' ≡ block_end h
  unfolding block_end continues
  same_end =
      first_cut (λ c. not (continues h' c)) m.end (cards_in h') inside-there
      (λ l. ap not (never m.end (layout_of (card_at h' m.end)) _ _ (behind-there m.end (omega arith) l)))
      ∙ first_same (λ c. not (continues h' c)) (λ c. not (continues h c)) m.end (λ c l. ap not (continues-alike c l))
      ∙ sym (first_cut (λ c. not (continues h c)) m.end (cards_in h) m.inside
      (λ l. ap not (never m.end (layout_of (card_at h m.end)) _ _ (m.behind m.end (omega arith) l))))

  end_covers : block_end h ≤ m.end
  unfolding continues
  end_covers = elim (dec_lt m.end (block_end h)) [
    | yes l ↦ absurd (true≢false (sym (in_block h m.end l)
        ∙ never m.end (layout_of (card_at h m.end)) _ _ (m.behind m.end (omega arith) (omega (arith, block_le h)))))
    | no l ↦ omega arith
  ]

  same_line_lem : has_line h' ≡ has_line h
  unfolding has_line
  same_line_lem = rw same_end (ap (ltb 0) (count_same (λ c. eqb (layout_of (card_at h' c)) H00X8)
      (λ c. eqb (layout_of (card_at h c)) H00X8) (block_end h)
      (λ c l. ap (λ (s : List ℕ). eqb (layout_of s) H00X8) (kept_card c (omega (arith, end_covers))))))

  -- a card behind the end comes to stand behind it
  still_behind : (c : ℕ) → m.end ≤ c → c < cards_in h → m.stays c ≡ true → m.end ≤ m.order.to c
  still_behind c l k t = elim (dec_lt (m.order.to c) m.end) [
    | yes x ↦
        let to = m.order.to c in
        let e : m.order.to to ≡ to = m.kept to x in
        let q : to ≡ c =
        sym (m.order.from-to to (omega (arith, m.inside)) (m.before to x)) ∙ ap m.order.from e ∙ m.order.from-to c k t in
        absurd (omega arith)
    | no x ↦ omega arith
  ]

  place-moved : (c : ℕ) → c < cards_in h → m.stays c ≡ true → stands_at h' (m.order.to c) ≡ stands_at h c
  unfolding stands_at
  place-moved c k t = rw (same_end, same_line_lem, m.same_card c k t) (elim (dec_lt c m.end) [
    | yes l ↦ rw (m.kept c l)
    | no l ↦ rw (
      le-ltb (m.order.to c) (block_end h) (omega (arith, end_covers, still_behind c (omega arith) k t)),
      le-ltb c (block_end h) (omega (arith, end_covers)),
    )
  ])

  -- every card has the verdict that it had
  pub verdict_moved : (c : ℕ) → c < cards_in h → m.stays c ≡ true → verdict_at h' (m.order.to c) ≡ verdict_at h c
  unfolding verdict_at
  verdict_moved c k t = rw (
    lt-ltb c (cards_in h) k,
    lt-ltb (m.order.to c) (cards_in h') (m.order.to_below c k t),
    m.same_card c k t,
    form-moved (card_at h c),
    place-moved c k t,
  )

  past_moved : verdict_at h' (cards_in h') ≡ verdict_at h (cards_in h)
  unfolding verdict_at
  past_moved = rw (same_line_lem, le-ltb (cards_in h) (cards_in h) (omega arith), le-ltb (cards_in h') (cards_in h') (omega arith))

  fine_there : Fine-throughout h → Fine-throughout h'
  fine_there f c l = elim (dec_lt c (cards_in h')) [
    | yes k ↦
        ap (verdict_at h') (sym (m.order.to-from c k))
        ∙ verdict_moved (m.order.from c) (m.order.from_below c k) (m.order.from-stays c k)
        ∙ f (m.order.from c) (omega (arith, m.order.from_below c k))
    | no k ↦
        let e : c ≡ cards_in h' = omega arith in
        ap (verdict_at h') e ∙ past_moved ∙ f (cards_in h) (omega arith)
  ]

  -- the first card of an accepted header stays
  some-there : refusal_of h ≡ no_refusal → 0 < cards_in h'
  some-there a = let o = accepted-opens h a in elim (dec_lt 0 m.end) [
    | yes l ↦ omega (arith, inside-there)
    | no l ↦ absurd (omega (arith, o.eight 0 (omega arith), m.behind 0 (omega arith) (omega (arith, o.line_below, o.inside))))
  ]

  -- so a header that was accepted still is
  pub accepted-there : refusal_of h ≡ no_refusal → refusal_of h' ≡ no_refusal
  unfolding cards_in
  accepted-there a =
      let e = (accepted_exactly h).0 a in
      let sized : Sized h' = record {
        some = λ q. omega (arith, some-there a);
        whole = m.same_rest ∙ e.0.whole;
        few = omega (arith, e.0.few, placed_le m.order);
      } in
      (accepted_exactly h').1 (sized, fine_there e.1)

module _ (h h' : List ℕ) (m : Moved h h') (all : (c : ℕ) → c < cards_in h → m.stays c ≡ true) where
  -- where none is gone, the way back
  abbrev moved_back : Moved h' h
  moved_back = record {
    stays = λ c. true;
    order = back m.order all;
    same_rest = sym m.same_rest;
    same_card = λ c l t.
        sym (m.same_card (m.order.from c) (m.order.from_below c l) (m.order.from-stays c l)) ∙ ap (card_at h') (m.order.to-from c l);
    no_form = λ c l t. absurd (true≢false t);
    end = m.end;
    inside = inside-there h h' m;
    before = λ c l. refl;
    kept = λ c l. ap m.order.from (sym (m.kept c l)) ∙ m.order.from-to c (omega (arith, m.inside)) (m.before c l);
    behind = behind-there h h' m;
  }

  -- and one is accepted exactly where the other is
  pub accepted-moved : (refusal_of h ≡ no_refusal) ↔ (refusal_of h' ≡ no_refusal)
  accepted-moved = (accepted-there h h' m, accepted-there h' h moved_back)

-- the cards behind the opening block of an accepted header, in any other order, are accepted too
pub accepted_rearranged : (h h' : List ℕ) (a : refusal_of h ≡ no_refusal) (π : Rearranged (cards_in h)) → length h' ≡ length h
    → ((c : ℕ) → c < cards_in h → card_at h' (π.to c) ≡ card_at h c)
    → ((c : ℕ) → c < (accepted-opens h a).end → π.to c ≡ c) → refusal_of h' ≡ no_refusal
unfolding cards_in
accepted_rearranged h h' a π same card kept = accepted-there h h' (record {
  stays = λ c. true;
  order = all_stay (ap (λ n. n / 80) same) π;
  same_rest = ap (λ n. n % 80) same;
  same_card = λ c l t. card c l;
  no_form = λ c l t. absurd (true≢false t);
  end = (accepted-opens h a).end;
  inside = (accepted-opens h a).inside;
  before = λ c l. refl;
  kept = kept;
  behind = (accepted-opens h a).later;
}) a
