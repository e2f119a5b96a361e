-- Kind 5: on H00@8 and H0100 only, where a count is stated and the header has another number.
use Prim.Native.Nat.{ℕ}
use mathlib.Core.Path.{◌≡◌, refl, sym, ap, ◌∙◌}
use mathlib.Core.Logic.{◌↔◌, ◌⊎◌, inl, inr, ⊎_elim}
use mathlib.Core.Bool.{true, ◌&&◌, not, false≢true}
use mathlib.Core.List.{List, [], ◌∷◌}
use lib.Dec.{eqb}
use lib.IntN.{pos, negsuc}
use lib.ListN.{get_or}
use borrow.Author.Tests.{eq-eqb, eqb-true}
use Rattle.base_value.specs.declared.Value.TheVariants.{Absent, Whole, Decimal, Angle, Date, Text}
use Rattle.base_value.specs.declared.Unread.TheVariants.{Malformed, OutOfRange}
use Rattle.value_field.specs.declared.spelling.Spelling.TheVariants as spelled
use Rattle.value_field.specs.spelling.Reading.{reading_of}
use Rattle.base_lists.specs.Parts.{alike}
use Rattle.base_lists.proofs.Comparing.{equal_alike, unequal_alike}
use Rattle.header_check.specs.forms.Cards.{card_at, layout_of}
use Rattle.format_layout.specs.Names.{H00X8, H0100}
use Rattle.tie_rules.specs.Keys.{is_none, between, whole_key, whole_in}
use Rattle.tie_rules.specs.Definitions.{waypoints_of, points_of}
use Rattle.tie_rules.specs.Faults.{differs, miscounted, broken_on, broken}
use Rattle.tie_laws.proofs.Tests.{both, either}
use Rattle.tie_rules.specs.Ties.{states_count}
use Rattle.tie_laws.proofs.Sites.{is_site, at_site}
use Rattle.std.specs.Prelude.{Result, Ok, Err}
use Rattle.base_value.specs.declared.Unread.{Unread}
use Rattle.base_value.specs.declared.Value.{Value}

-- a whole number stands in the columns of a card, and it is not n
pub record States-another (s : List ℕ) (first last n : ℕ) : Type 0 where
  pub stated : ℕ
  pub stands : whole_in first last s ≡ stated ∷ []
  pub another : stated ≡ n → ⊥

-- a key of a whole number is none, or one number
pub whole_shape : (r : Result Value Unread) → (whole_key r ≡ []) ⊎ ((n : ℕ) × (whole_key r ≡ n ∷ []))
unfolding whole_key
whole_shape (Ok (Whole (pos n))) = inr (n, refl)
whole_shape (Ok (Whole (negsuc n))) = inl refl
whole_shape (Ok Absent) = inl refl
whole_shape (Ok (Decimal d)) = inl refl
whole_shape (Ok (Angle z)) = inl refl
whole_shape (Ok (Date d)) = inl refl
whole_shape (Ok (Text c)) = inl refl
whole_shape (Err Malformed) = inl refl
whole_shape (Err OutOfRange) = inl refl

module _ (s : List ℕ) (first last n : ℕ) where
  differs-to : differs (whole_in first last s) n ≡ true → States-another s first last n
  unfolding differs is_none whole_in
  differs-to e = ⊎_elim
      (λ x. absurd (false≢true (sym (ap (λ l. differs l n) x) ∙ e)))
      (λ x. record {
        stated = x.0;
        stands = x.1;
        another = λ q.
            let same : alike (x.0 ∷ []) (n ∷ []) ≡ true = equal_alike (x.0 ∷ []) (n ∷ []) (ap (λ k. k ∷ []) q) in
            false≢true (sym (ap (λ l. differs l n) x.1 ∙ ap not same) ∙ e);
      })
      (whole_shape (reading_of spelled.Whole (between first last s)))

  differs_of : States-another s first last n → differs (whole_in first last s) n ≡ true
  unfolding differs is_none
  differs_of x =
      ap (λ l. differs l n) x.stands
      ∙ ap not (unequal_alike (x.stated ∷ []) (n ∷ []) (λ q. x.another (ap (λ l. get_or l 0 0) q)))

module _ (h : List ℕ) (c : ℕ) where
  -- it stands in column 79 of H00@8 or column 16 of H0100
  pub count-columns : (column : ℕ) → broken h c column 5 ≡ true
      → ((layout_of (card_at h c) ≡ H00X8) × (column ≡ 79)) ⊎ ((layout_of (card_at h c) ≡ H0100) × (column ≡ 16))
  unfolding broken is_site states_count
  count-columns column e = go (at_site h (card_at h c) column 5 e)
    where
      fixed : (k i : ℕ) → (eqb (layout_of (card_at h c)) k && eqb column i) ≡ true → (layout_of (card_at h c) ≡ k) × (column ≡ i)
      fixed k i q =
          let w = (both (eqb (layout_of (card_at h c)) k) (eqb column i)).0 q in
          (eqb-true (layout_of (card_at h c)) k w.0, eqb-true column i w.1)

      go : states_count (layout_of (card_at h c)) column ≡ true
          → ((layout_of (card_at h c) ≡ H00X8) × (column ≡ 79)) ⊎ ((layout_of (card_at h c) ≡ H0100) × (column ≡ 16))
      go q = ⊎_elim (λ x. inl (fixed 8 79 x)) (λ x. inr (fixed 12 16 x)) (either _ _ q)

  -- on H00@8, of the waypoints of its vessel
  pub waypoints_exactly : layout_of (card_at h c) ≡ H00X8
      → (broken h c 79 5 ≡ true) ↔ States-another (card_at h c) 79 80 (waypoints_of h (whole_in 30 30 (card_at h c)))
  unfolding broken broken_on miscounted
  waypoints_exactly k = rw (eq-eqb (layout_of (card_at h c)) 8 k)
      (differs-to (card_at h c) 79 80 _, differs_of (card_at h c) 79 80 _)

  -- on H0100, of the cards with points
  pub points_exactly : layout_of (card_at h c) ≡ H0100 → (broken h c 16 5 ≡ true) ↔ States-another (card_at h c) 16 19 (points_of h)
  unfolding broken broken_on miscounted
  points_exactly k = rw k (differs-to (card_at h c) 16 19 (points_of h), differs_of (card_at h c) 16 19 (points_of h))
