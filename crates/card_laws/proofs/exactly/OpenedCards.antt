-- A card that was opened: a passed one is fine, a read one lacks only its needed fields.
use Prim.Native.Nat.{ℕ, zero, suc, ◌+◌, ◌-◌, ◌≤◌, ◌<◌}
use native.Mathlib.Omega.{arith}
use native.Mathlib.Decide.{ℕ_discrete, dec_lt, dec_le}
use mathlib.Core.Path.{◌≡◌, refl, sym, ap, subst, ◌∙◌}
use mathlib.Core.List.{List, [], ◌∷◌, map}
use mathlib.Core.Bool.{Bool, true, false, cond, ◌&&◌, ◌||◌, not}
use lib.ListN.{length, get_or, take, drop, replicate}
use lib.Seq.{drop-append_seam, drop-drop, get_or-drop}
use lib.Dec.{T, eqb}
use borrow.Author.Tests.{eq-eqb, ne_eqb, le-leb, lt-leb, lt-ltb, le-ltb, eqb-true}
use Rattle.base_lists.specs.Count.{first_from}
use Rattle.value_text.specs.text.Texts.{text_end, printable}
use Rattle.base_value.specs.declared.Value.TheVariants.{Absent}
use Rattle.format_code.specs.declared.Code.TheVariants as code
use Rattle.format_layout.specs.declared.Field.{Field}
use Rattle.format_layout.specs.declared.Form.{Form}
use Rattle.format_layout.specs.Forms.{is_open}
use Rattle.format_layout.specs.Shape.{Layout}
use Rattle.format_layout.specs.Table.{layouts}
use Rattle.format_code.specs.Codes.{code_of}
use Rattle.format_layout.specs.Layouts.{fields_of, label_of, layout_at}
use Rattle.format_layout.proofs.Every.{every, and_left, and_right}
use Rattle.format_layout.proofs.Places.{has_fields}
use Rattle.format_layout.proofs.Columns.{is_in_order, front, rest, of_layout}
use Rattle.card_field.specs.judging.Fields.{spelling_of, value_of, held_of, judged_of, number_of}
use Rattle.card_field.specs.needing.Needs.{columns_of, is_blank, any_second, needed_on}
use Rattle.card_put.specs.opening.Opening.{labelled, new_card, card_with, opened_card}
use Rattle.card_check.specs.Judging.{is_coordinate, field_offence, filled_at, gap_offence, column_offence, label_offence, offence_at, verdict_from, verdict_at, code_verdict, verdict_of}
use Rattle.card_put.proofs.opening.Laying.{card_coded, read_length, passed_length as passed-code-length}
use Rattle.card_laws.proofs.exactly.NewCards.{new_length, new_code, new_rest, opened_length, opened_code, opened_label}
use Rattle.card_check.proofs.Verdicts.{fine_everywhere}
use Rattle.card_check.proofs.Walked.{in_order}
use Rattle.card_laws.specs.exactly.Opened.{missing, missing_at, Missing}
use Rattle.card_laws.specs.exactly.Offences.{Sound}
use Rattle.card_laws.specs.exactly.Words.{is_unknown}
use Rattle.card_laws.proofs.exactly.Fields.{blank_absent}
use Rattle.card_laws.proofs.exactly.Known.{known_printable, label-printable, new_printable}
use Rattle.card_laws.proofs.exactly.WholeCards.{sound_verdict, from_leftmost, to_leftmost, from-none}
use Rattle.std.specs.Prelude.{Result, Ok, Err, ⊤}
use Rattle.card_check.specs.declared.Offence.{Offence}
use Rattle.base_refusal.specs.Refusals.{no_refusal}
use Rattle.card_check.specs.Verdicts.{offending}

-- a card opened with a passed code has 80 columns, that code and blanks, and is fine
module _ (t s : List ℕ) (whole : length s ≡ 80) (is : code_of t ≡ code.Passed) where
  passed_card : opened_card t s ≡ new_card t []
  unfolding card_with
  passed_card = card_coded t s whole code.Passed is

  pub passed_length : length (opened_card t s) ≡ 80
  passed_length = ap length passed_card ∙ new_length t [] (passed-code-length t is) (omega arith)

  pub passed-code : code_of (take 5 (opened_card t s)) ≡ code.Passed
  passed-code = ap code_of (ap (take 5) passed_card ∙ new_code t [] (passed-code-length t is)) ∙ is

  pub passed_blank : drop 5 (opened_card t s) ≡ replicate 75 32
  unfolding labelled
  passed_blank = ap (drop 5) passed_card ∙ new_rest t [] (passed-code-length t is)

  pub passed_fine : (form : Form) → verdict_of (opened_card t s) form ≡ no_refusal
  unfolding code_verdict printable
  passed_fine form =
      sound_verdict (opened_card t s) form
      (record {
        whole = passed_length;
        printed = ap printable passed_card ∙ new_printable t [] (known_printable t (ap is_unknown is)) refl;
      })
      code.Passed passed-code

-- columns of blanks
blank_end : (w d m : ℕ) → text_end (take w (drop d (replicate m 32))) ≡ 0
unfolding text_end
blank_end zero zero m = refl
blank_end (suc w) zero zero = refl
blank_end (suc w) zero (suc m) = rw (blank_end w zero m)
blank_end w (suc d) zero = none w
  where
    none : (w : ℕ) → text_end (take w []) ≡ 0
    none zero = refl
    none (suc w) = refl
blank_end w (suc d) (suc m) = blank_end w d m

blank_byte : (n i : ℕ) → i < n → ◌≡◌ {A = ℕ} (get_or (replicate n 32) i 0) 32
blank_byte zero i h = absurd (omega arith)
blank_byte (suc n) zero h = refl
blank_byte (suc n) (suc i) h = blank_byte n i (omega arith)

-- no coordinate is needed
abbrev optional : Field → Bool
optional f = not (is_coordinate f.kind) || not f.needed

all_optional : T (every (λ (i : ℕ) (l : Layout). every (λ (j : ℕ). optional) 0 l.fields) 0 layouts)
unfolding layouts
all_optional = tt

-- a column with an 11
found : (n d : ℕ) (fs : List Field) → missing_at fs d ≡ n → (n ≡ 0 → ⊥) → (n ≡ 11) × Missing fs d
unfolding missing_at
found n d [] q ne = absurd (ne (sym q))
found n d (f ∷ fs) q ne = go (eqb d f.first) refl f.needed refl f.second refl q (found n d fs)
  where
    go : (b : Bool) → eqb d f.first ≡ b → (x : Bool) → f.needed ≡ x → (y : Bool) → f.second ≡ y
        → cond b (cond (x && not y) 11 0) (missing_at fs d) ≡ n
        → (missing_at fs d ≡ n → (n ≡ 0 → ⊥) → (n ≡ 11) × Missing fs d) → (n ≡ 11) × Missing (f ∷ fs) d
    go false e x ex y ey h more =
        let m = more h ne in (
          m.0,
          record {
            place = suc m.1.place;
            there = omega (arith, m.1.there);
            needed = m.1.needed;
            first-set = m.1.first-set;
            begins = m.1.begins;
          },
        )
    go true e true ex false ey h more =
        (sym h, record { place = 0; there = omega arith; needed = ex; first-set = ey; begins = sym (eqb-true d f.first e) })
    go true e true ex true ey h more = absurd (ne (sym h))
    go true e false ex y ey h more = absurd (ne (sym h))

-- a card with its code, its label and blanks behind them
module _ (t s : List ℕ) (whole : length s ≡ 80) (k : ℕ) (is : code_of t ≡ code.Read k) where
  abbrev card : List ℕ
  card = opened_card t s

  abbrev end : ℕ
  end = length (label_of k)

  sound : Sound card
  unfolding card_with
  sound =
      record {
        whole = opened_length t s whole k is;
        printed =
            ap printable (card_coded t s whole (code.Read k) is)
            ∙ new_printable t (label_of k) (known_printable t (ap is_unknown is)) (label-printable k);
      }

  behind : drop (5 + end) card ≡ replicate (75 - end) 32
  unfolding card_with labelled
  behind =
      sym (drop-drop end 5 card)
      ∙ ap (λ (l : List ℕ). drop end (drop 5 l)) (card_coded t s whole (code.Read k) is)
      ∙ ap (drop end) (new_rest t (label_of k) (read_length t k is))
      ∙ drop-append_seam (label_of k) (replicate (75 - end) 32)

  -- a field behind the label is blank
  blank_field : (f : Field) → 6 + end ≤ f.first → is_blank (columns_of f card) ≡ true
  unfolding is_blank columns_of
  blank_field f h =
      let e : 5 + end + (f.first - 1 - (5 + end)) ≡ f.first - 1 = omega arith in
      let q : drop (f.first - 1) card ≡ drop (f.first - 1 - (5 + end)) (replicate (75 - end) 32) =
      ap (λ j. drop j card) (sym e) ∙ sym (drop-drop (f.first - 1 - (5 + end)) (5 + end) card)
      ∙ ap (drop (f.first - 1 - (5 + end))) behind in
      eq-eqb (text_end (take (f.last - (f.first - 1)) (drop (f.first - 1) card))) 0
      (ap (λ (l : List ℕ). text_end (take (f.last - (f.first - 1)) l)) q
      ∙ blank_end (f.last - (f.first - 1)) (f.first - 1 - (5 + end)) (75 - end))

  -- and so is a column
  blank_column : (c : ℕ) → 6 + end ≤ c → c ≤ 80 → filled_at card c ≡ false
  unfolding filled_at
  blank_column c h g =
      let e : 5 + end + (c - 1 - (5 + end)) ≡ c - 1 = omega arith in
      ap not (eq-eqb (get_or card (c - 1) 0) 32
      (ap (λ j. get_or card j 0) (sym e) ∙ sym (get_or-drop (5 + end) card (c - 1 - (5 + end)) 0)
      ∙ ap (λ (l : List ℕ). get_or l (c - 1 - (5 + end)) 0) behind ∙ blank_byte (75 - end) (c - 1 - (5 + end)) (omega arith)))

  no_second : (b : ℕ) (fs : List Field) → 6 + end ≤ b → T (is_in_order b fs) → any_second card fs ≡ false
  unfolding any_second
  no_second b [] h o = refl
  no_second b (f ∷ fs) h o =
      let l = front b f fs o in
      rw (blank_field f (omega (arith, l.after)), never f.second)
      (no_second (suc f.last) fs (omega (arith, l.after, l.forward)) (rest b f fs o))
    where
      never : (b : Bool) → (b && false) ≡ false
      never true = refl
      never false = refl

  judged_missing : (f : Field) (form : Form) → 6 + end ≤ f.first → number_of (judged_of k card f form) ≡ missing f
  unfolding judged_of held_of value_of needed_on
  judged_missing f form h =
      rw (
        blank_absent (spelling_of f.kind form) (columns_of f card) (blank_field f h),
        no_second (6 + end) (fields_of k)
            (omega arith) (in_order k),
      )
      (go f.needed f.second)
    where
      go : (a b : Bool) → number_of (cond (a && (not b || false)) (Err 11) (Ok Absent)) ≡ cond (a && not b) 11 0
      go true true = refl
      go true false = refl
      go false b = refl

  field-missing : (f : Field) (form : Form) → 6 + end ≤ f.first → T (optional f) → field_offence k form card f ≡ missing f
  unfolding field_offence
  field-missing f form h o = go (is_open form) (is_coordinate f.kind) f.needed refl o
    where
      go : (w x y : Bool) → f.needed ≡ y → T (not x || not y) → cond (w && x) 0 (number_of (judged_of k card f form)) ≡ missing f
      go false x y q o = judged_missing f form h
      go true false y q o = judged_missing f form h
      go true true false q o = rw q
      go true true true q o = absurd o

  module _ (form : Form) (c : ℕ) where
    -- a field behind a column does not begin there
    later_missing : (b : ℕ) (fs : List Field) → T (is_in_order b fs) → c < b → missing_at fs c ≡ 0
    unfolding missing_at
    later_missing b [] o h = refl
    later_missing b (f ∷ fs) o h =
        let l = front b f fs o in
        rw (ne_eqb c f.first (λ e. absurd (omega (arith, l.after))))
        (later_missing (suc f.last) fs (rest b f fs o) (omega (arith, l.after, l.forward)))

    column-missing : (b : ℕ) (fs : List Field) (i : ℕ) → 6 + end ≤ b → T (is_in_order b fs)
        → T (every (λ (j : ℕ). optional) i fs) → 6 + end ≤ c → c ≤ 80
        → column_offence k form card fs c ≡ missing_at fs c
    unfolding column_offence missing_at gap_offence
    column-missing b [] i p o e h g = rw (blank_column c h g)
    column-missing b (f ∷ fs) i p o e h g =
        let l = front b f fs o in
        let more = rest b f fs o in
        let later = column-missing (suc f.last) fs (suc i) (omega (arith, l.after, l.forward)) more
        (and_right (optional f) (every (λ (j : ℕ). optional) (suc i) fs) e) h g in
        elim (ℕ_discrete c f.first) [
          | yes q ↦
              rw (eq-eqb c f.first q)
              (field-missing f form (omega (arith, l.after))
              (and_left (optional f) (every (λ (j : ℕ). optional) (suc i) fs) e))
          | no q ↦ elim (dec_le f.first c) [
            | yes x ↦ elim (dec_le c f.last) [
              | yes y ↦
                  rw (ne_eqb c f.first q, le-leb f.first c x, le-leb c f.last y)
                  (sym (later_missing (suc f.last) fs more (omega arith)))
              | no y ↦ rw (ne_eqb c f.first q, le-leb f.first c x, lt-leb c f.last (omega arith)) later
            ]
            | no x ↦ rw (ne_eqb c f.first q, lt-leb f.first c (omega arith)) later
          ]
        ]

  -- a column of the card has the offence of the needed field that begins there
  pub opened_offence : (form : Form) (c : ℕ) → c ≤ 80 → offence_at k form card c ≡ missing_at (fields_of k) c
  unfolding offence_at label_offence fields_of
  opened_offence form c g = elim (dec_lt c (6 + end)) [
    | yes h ↦
        rw (lt-ltb c (6 + end) h, opened_label t s whole k is)
        (never (eqb c 6) ∙ sym (later_missing form c (6 + end) (fields_of k) (in_order k) h))
    | no h ↦
        rw (le-ltb c (6 + end) (omega arith))
        (column-missing form c (6 + end) (fields_of k) 0 (omega arith) (in_order k)
        (optional_fields (layout_at k).fields refl) (omega arith) g)
  ]
    where
      never : (b : Bool) → ◌≡◌ {A = ℕ} (cond (b && false) 8 0) 0
      never true = refl
      never false = refl

      optional_fields : (fs : List Field) → (layout_at k).fields ≡ fs → T (every (λ (j : ℕ). optional) 0 (layout_at k).fields)
      optional_fields [] q = subst (λ (l : List Field). T (every (λ (j : ℕ). optional) 0 l)) (sym q) tt
      optional_fields (f ∷ fs) q =
          of_layout (λ (l : Layout). every (λ (j : ℕ). optional) 0 l.fields) all_optional k
          (has_fields k 0 (omega (arith, ap length q)))

  -- so a new card is judged by its layout alone, whatever the form
  pub opened_verdict : (form : Form) → verdict_of card form ≡ verdict_from (missing_at (fields_of k)) 6
  unfolding code_verdict
  opened_verdict form =
      sound_verdict card form sound (code.Read k) (opened_code t s whole k is) ∙ go (verdict_from (missing_at (fields_of k)) 6) refl
    where
      go : (v : Result ⊤ Offence) → verdict_from (missing_at (fields_of k)) 6 ≡ v
          → verdict_from (offence_at k form card) 6 ≡ verdict_from (missing_at (fields_of k)) 6
      go (Ok _) q =
          from-none (offence_at k form card)
          (λ c a b. opened_offence form c b ∙ fine_everywhere (missing_at (fields_of k)) 6 (omega arith) q c a b) ∙ sym q
      go (Err o) q =
          let l = to_leftmost (missing_at (fields_of k)) o.number o.column q in
          from_leftmost (offence_at k form card) o.number o.column
          (record {
            from = l.from;
            on_card = l.on_card;
            number = opened_offence form o.column l.on_card ∙ l.number;
            some = l.some;
            none_before = λ c a b. opened_offence form c (omega (arith, l.on_card)) ∙ l.none_before c a b;
          })
          ∙ sym q

  -- an offence of a new card is an 11, at a needed field of the first set
  pub opened_eleven : (form : Form) (n d : ℕ) → verdict_of card form ≡ Err (offending n d) → (n ≡ 11) × Missing (fields_of k) d
  opened_eleven form n d e =
      let l = to_leftmost (missing_at (fields_of k)) n d (sym (opened_verdict form) ∙ e) in
      found n d (fields_of k) l.number l.some

  -- and where no such field is, the card is fine
  pub opened_fine : (form : Form) → ((d : ℕ) → Missing (fields_of k) d → ⊥) → verdict_of card form ≡ no_refusal
  opened_fine form none = go (verdict_of card form) refl
    where
      go : (v : Result ⊤ Offence) → verdict_of card form ≡ v → v ≡ no_refusal
      go (Ok _) q = refl
      go (Err o) q = absurd (none o.column (opened_eleven form o.number o.column q).1)

-- the verdicts on a new card of each read code, in the table's order
pub opened_verdicts : map (λ (l : Layout). verdict_from (missing_at l.fields) 6) layouts
    ≡  -- H0000 to H0007, H00@8, H00@9
    no_refusal ∷ no_refusal ∷ no_refusal ∷ no_refusal ∷ no_refusal ∷ no_refusal ∷ no_refusal ∷ no_refusal ∷ Err (offending 11 30) ∷ Err (offending 11 7) ∷
    -- C0001, C0002, H0100, H0101, H011#, H0120
    no_refusal ∷ no_refusal ∷ Err (offending 11 21) ∷ Err (offending 11 7) ∷ no_refusal ∷ Err (offending 11 7) ∷
    -- H17@0, H17@1, H21@0 to H21@3
    Err (offending 11 7) ∷ Err (offending 11 7) ∷ Err (offending 11 7) ∷ Err (offending 11 7) ∷ no_refusal ∷ no_refusal ∷
    -- H22@0, H2300, H23@0, H2301
    Err (offending 11 7) ∷ no_refusal ∷ Err (offending 11 7) ∷ no_refusal ∷
    -- H16@1, H5000, H51@0, H52##, H54##
    Err (offending 11 9) ∷ Err (offending 11 7) ∷ Err (offending 11 7) ∷ Err (offending 11 7) ∷ no_refusal ∷ []
unfolding layouts missing_at verdict_from verdict_at first_from
opened_verdicts = refl
