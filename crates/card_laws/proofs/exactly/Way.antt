-- On the way to a field the rows give the refusal that seeking it gives.
use Prim.Native.Nat.{ℕ, ◌+◌, ◌-◌}
use native.Mathlib.Omega.{arith}
use mathlib.Core.Path.{◌≡◌, refl, sym, ap, ◌∙◌}
use mathlib.Core.List.{List, [], ◌∷◌}
use mathlib.Core.Bool.{Bool, true, false, cond, ◌&&◌, not, true≢false}
use lib.ListN.{length, get_or, take}
use lib.Dec.{eqb, leb, ltb}
use borrow.Author.Tests.{eqb-true, le-ltb, lt-leb, ltb-false, leb-true}
use Rattle.value_text.specs.text.Texts.{printable}
use Rattle.value_field.proofs.spelling.Absence.{zero_one}
use Rattle.format_code.specs.declared.Code.{Code}
use Rattle.format_code.specs.declared.Code.TheVariants as code
use Rattle.format_layout.specs.declared.Field.{Field}
use Rattle.format_code.specs.Codes.{code_of}
use Rattle.format_layout.specs.Layouts.{field_of, fields_of, no_field}
use Rattle.format_layout.proofs.Numbers.{numbered}
use Rattle.base_refusal.specs.declared.Refusal.{Refusal}
use Rattle.base_refusal.specs.Refusals.{refusal}
use Rattle.card_field.specs.seeking.Card.{under_form, coded, sought_of}
use Rattle.value_text.specs.printable.Bytes.{first_bad}
use Rattle.card_field.proofs.seeking.Steps.{found-there, found-coded}
use Rattle.card_field.proofs.seeking.Bytes.{none-bad, bad-none}
use Rattle.card_laws.specs.exactly.Rows.{row, given}
use Rattle.card_laws.specs.exactly.Words.{is_unknown, fields_under, fields_on, counts, field_at}
use Rattle.card_laws.specs.exactly.Tables.{way_rows}
use Rattle.std.specs.Prelude.{Result, Ok, Err, Some, None, Option}
use Rattle.card_field.specs.seeking.Found.{Sought, sought}

abbrev pub in_seeking : Result Sought Refusal → Option Refusal
in_seeking (Ok o) = None
in_seeking (Err r) = Some r

-- on a card of 80 columns a bad byte is one that keeps the card from being printable
pub bad-byte : (s : List ℕ) → length s ≡ 80 → ltb (first_bad s) 80 ≡ not (printable s)
unfolding first_bad
bad-byte s whole = go (printable s) refl
  where
    go : (b : Bool) → printable s ≡ b → ltb (first_bad s) 80 ≡ not b
    go true q = le-ltb (first_bad s) 80 (omega (arith, none-bad s q, whole))
    go false q = bad (ltb (first_bad s) 80) refl
      where
        bad : (c : Bool) → ltb (first_bad s) 80 ≡ c → ltb (first_bad s) 80 ≡ true
        bad true e = e
        bad false e = absurd (true≢false (sym (bad-none s (omega (arith, whole, ltb-false (first_bad s) 80 e))) ∙ q))

module _ (n form : ℕ) where
  -- no number counts where there are no fields
  no_number : counts [] n ≡ false
  no_number = go (leb 1 n) refl
    where
      go : (b : Bool) → leb 1 n ≡ b → (b && leb n 0) ≡ false
      go true q = lt-leb n 0 (omega (arith, leb-true 1 n q))
      go false q = refl

  pub code_rows : (c : Code)
      → given (row 5 1 1 (is_unknown c) ∷ row 13 0 0 (not (counts (fields_under c) n)) ∷ row 10 0 0 (ltb 1 form) ∷ [])
      ≡ in_seeking (coded c n form)
  unfolding given coded under_form field_of
  code_rows code.Unknown = refl
  code_rows code.Passed = rw no_number
  code_rows (code.Read k) = go (counts (fields_of k) n)
    where
      tests : (b : Bool) → cond b (Some (refusal 10 0 0)) None
          ≡ in_seeking (cond b (Err (refusal 10 0 0)) (Ok (sought k (get_or (fields_of k) (n - 1) no_field))))
      tests true = refl
      tests false = refl

      go : (a : Bool)
          → cond (not a) (Some (refusal 13 0 0)) (cond (ltb 1 form) (Some (refusal 10 0 0)) None)
          ≡ in_seeking (under_form k form (cond a (Some (get_or (fields_of k) (n - 1) no_field)) None))
      go true = tests (ltb 1 form)
      go false = refl

pub way_rows_lem : (s : List ℕ) (n form : ℕ) → given (way_rows s n form) ≡ in_seeking (sought_of s n form)
unfolding given way_rows sought_of fields_on
way_rows_lem s n form = go (eqb (length s) 0) (eqb (length s) 80) refl
  where
    go : (a b : Bool) → eqb (length s) 80 ≡ b
        → cond a (Some (refusal 1 0 0))
        (cond (not b) (Some (refusal 2 0 0)) (cond (not (printable s)) (Some (refusal 4 1 (first_bad s + 1)))
        (given (row 5 1 1 (is_unknown (code_of (take 5 s))) ∷ row 13 0 0
        (not (counts (fields_under (code_of (take 5 s))) n)) ∷ row 10 0 0 (ltb 1 form) ∷ []))))
        ≡ in_seeking (cond a (Err (refusal 1 0 0))
        (cond (not b) (Err (refusal 2 0 0))
        (cond (ltb (first_bad s) 80) (Err (refusal 4 1 (first_bad s + 1))) (coded (code_of (take 5 s)) n form))))
    go true b q = refl
    go false false q = refl
    go false true q = rw (bad-byte s (eqb-true (length s) 80 q)) (bytes (printable s))
      where
        bytes : (p : Bool)
            → cond (not p) (Some (refusal 4 1 (first_bad s + 1)))
            (given (row 5 1 1 (is_unknown (code_of (take 5 s))) ∷ row 13 0 0
            (not (counts (fields_under (code_of (take 5 s))) n)) ∷ row 10 0 0 (ltb 1 form) ∷ []))
            ≡ in_seeking (cond (not p) (Err (refusal 4 1 (first_bad s + 1))) (coded (code_of (take 5 s)) n form))
        bytes true = code_rows n form (code_of (take 5 s))
        bytes false = refl

-- a field that was found is the one that the rows speak of
found-code : (n form k : ℕ) (f : Field) (c : Code) → coded c n form ≡ Ok (sought k f) → c ≡ code.Read k
unfolding coded under_form
found-code n form k f code.Unknown e = absurd (zero_one cc)
found-code n form k f code.Passed e = absurd (zero_one cc)
found-code n form k f (code.Read j) e = under (field_of j n) e
  where
    test : (g : Field) (b : Bool) → cond b (Err (refusal 10 0 0)) (Ok (sought j g)) ≡ Ok (sought k f) → code.Read j ≡ code.Read k
    test g true h = absurd (zero_one cc)
    test g false h = let same : sought j g ≡ sought k f = cc in ap (λ (x : Sought). code.Read x.layout) same

    under : (o : Option Field) → under_form j form o ≡ Ok (sought k f) → code.Read j ≡ code.Read k
    under None h = absurd (zero_one cc)
    under (Some g) h = test g (ltb 1 form) h

module _ (s : List ℕ) (n form k : ℕ) (f : Field) (q : sought_of s n form ≡ Ok (sought k f)) where
  pub found-fields : fields_on s ≡ fields_of k
  unfolding fields_on
  found-fields = ap fields_under (found-code n form k f (code_of (take 5 s)) (found-coded s n form k f q).1)

  pub found-field : field_at s n ≡ f
  unfolding field_at
  found-field = ap (λ (l : List Field). get_or l (n - 1) no_field) found-fields
      ∙ (numbered k n f (found-there s n form k f q).field).is
