-- What each way to a field finds.
use Prim.Native.Nat.{ℕ, ◌+◌, ◌≤◌, ◌<◌}
use mathlib.Core.Path.{◌≡◌, refl, sym, ap, ◌∙◌}
use mathlib.Core.List.{List}
use mathlib.Core.Bool.{true≢false, Bool, true, false, cond, not}
use lib.ListN.{length, take}
use lib.Dec.{eqb, ltb}
use borrow.Author.Tests.{ne_eqb, lt-ltb, le-ltb, ltb-false, eqb-true}
use Rattle.format_code.specs.declared.Code.{Code}
use Rattle.format_code.specs.declared.Code.TheVariants as code
use Rattle.format_layout.specs.declared.Field.{Field}
use Rattle.format_code.specs.Codes.{code_of}
use Rattle.format_layout.specs.Layouts.{field_of}
use Rattle.format_layout.specs.packed.Rows.{unpack, row_of, found_in}
use Rattle.format_layout.proofs.Lines.{no_zeroth, found_in_lem}
use Rattle.base_refusal.specs.declared.Refusal.{Refusal}
use Rattle.value_text.specs.printable.Bytes.{first_bad}
use Rattle.base_refusal.specs.Refusals.{refusal}
use Rattle.card_field.specs.seeking.Card.{under_form, coded, sought_of, way_for}
use Rattle.std.specs.Prelude.{Result, Ok, Err, Option, Some, None}
use Rattle.card_field.specs.seeking.Found.{Sought, sought, field_row}
use Rattle.card_field.specs.declared.seeking.FieldRow.{FieldRow}

-- the field with a number, under a form
module _ (k form : ℕ) (o : Option Field) where
  pub form-none : o ≡ None → under_form k form o ≡ Err (refusal 13 0 0)
  unfolding under_form
  form-none q = rw q

  pub form_odd : (f : Field) → o ≡ Some f → 1 < form → under_form k form o ≡ Err (refusal 10 0 0)
  unfolding under_form
  form_odd f q h = rw (q, lt-ltb 1 form h)

  pub form_good : (f : Field) → o ≡ Some f → form ≤ 1 → under_form k form o ≡ Ok (sought k f)
  unfolding under_form
  form_good f q h = rw (q, le-ltb 1 form h)

-- the way to a field
module _ (s : List ℕ) (n form : ℕ) where
  pub sought_none : length s ≡ 0 → sought_of s n form ≡ Err (refusal 1 0 0)
  unfolding sought_of
  sought_none h = rw h

  module _ (some : length s ≡ 0 → ⊥) where
    pub sought_odd : (length s ≡ 80 → ⊥) → sought_of s n form ≡ Err (refusal 2 0 0)
    unfolding sought_of
    sought_odd h = rw (ne_eqb (length s) 0 some, ne_eqb (length s) 80 h)

    module _ (whole : length s ≡ 80) (bad : ℕ) (is : bad ≡ first_bad s) where
      pub sought_bad : bad < 80 → sought_of s n form ≡ Err (refusal 4 1 (bad + 1))
      unfolding sought_of
      sought_bad h = rw (whole, ← is, lt-ltb bad 80 h)

      pub sought_coded : 80 ≤ bad → sought_of s n form ≡ coded (code_of (take 5 s)) n form
      unfolding sought_of
      sought_coded h = rw (whole, ← is, le-ltb bad 80 h)

-- a field that was found stands in a layout, on a card of 80 columns, under form 0 or 1
pub record There (s : List ℕ) (n form k : ℕ) (f : Field) : Type 0 where
  pub whole : length s ≡ 80
  pub field : field_of k n ≡ Some f
  pub form-is : form ≤ 1

sought_there : (s : List ℕ) (n form k : ℕ) (f : Field) → length s ≡ 80 → coded (code_of (take 5 s)) n form ≡ Ok (sought k f) → There s n form k f
unfolding coded under_form
sought_there s n form k f whole e = go (code_of (take 5 s)) e
  where
    test : (j : ℕ) (g : Field) → field_of j n ≡ Some g → (b : Bool) → ltb 1 form ≡ b → cond b (Err (refusal 10 0 0)) (Ok (sought j g)) ≡ Ok (sought k f)
        → There s n form k f
    test j g q true l h = absurd (true≢false cc)
    test j g q false l h =
        let same : sought j g ≡ sought k f = cc in
        let a : j ≡ k = ap (λ (x : Sought). x.layout) same in
        let b : g ≡ f = ap (λ (x : Sought). x.field) same in
        record { whole = whole; field = ap (λ i. field_of i n) (sym a) ∙ q ∙ ap Some b; form-is = ltb-false 1 form l }

    under : (j : ℕ) (o : Option Field) → field_of j n ≡ o → under_form j form o ≡ Ok (sought k f) → There s n form k f
    under j None q h = absurd (true≢false cc)
    under j (Some g) q h = test j g q (ltb 1 form) refl h

    go : (c : Code) → coded c n form ≡ Ok (sought k f) → There s n form k f
    go code.Unknown h = absurd (true≢false cc)
    go code.Passed h = absurd (true≢false cc)
    go (code.Read j) h = under j (field_of j n) refl h

pub found-there : (s : List ℕ) (n form k : ℕ) (f : Field) → sought_of s n form ≡ Ok (sought k f) → There s n form k f
unfolding sought_of
found-there s n form k f e = go (eqb (length s) 0) (eqb (length s) 80) refl (ltb (first_bad s) 80) e
  where
    go : (a b : Bool) → eqb (length s) 80 ≡ b → (c : Bool)
        → cond a (Err (refusal 1 0 0)) (cond (not b) (Err (refusal 2 0 0)) (cond c (Err (refusal 4 1 (first_bad s + 1))) (coded (code_of (take 5 s)) n form))) ≡ Ok (sought k f)
        → There s n form k f
    go true b q c h = absurd (true≢false cc)
    go false false q c h = absurd (true≢false cc)
    go false true q true h = absurd (true≢false cc)
    go false true q false h = sought_there s n form k f (eqb-true (length s) 80 q) h

-- a card on which a field was found has a code and no bad byte
pub found-coded : (s : List ℕ) (n form k : ℕ) (f : Field) → sought_of s n form ≡ Ok (sought k f) → (80 ≤ first_bad s) × (coded (code_of (take 5 s)) n form ≡ Ok (sought k f))
unfolding sought_of
found-coded s n form k f e = go (eqb (length s) 0) (not (eqb (length s) 80)) (ltb (first_bad s) 80) refl e
  where
    go : (a b c : Bool) → ltb (first_bad s) 80 ≡ c
        → cond a (Err (refusal 1 0 0)) (cond b (Err (refusal 2 0 0)) (cond c (Err (refusal 4 1 (first_bad s + 1))) (coded (code_of (take 5 s)) n form))) ≡ Ok (sought k f)
        → (80 ≤ first_bad s) × (coded (code_of (take 5 s)) n form ≡ Ok (sought k f))
    go true b c q h = absurd (true≢false cc)
    go false true c q h = absurd (true≢false cc)
    go false false true q h = absurd (true≢false cc)
    go false false false q h = (ltb-false (first_bad s) 80 q, h)

-- a way tells what was sought

found-row : (k n : ℕ) (f : Field) → field_of k n ≡ Some f → unpack (row_of k n) ≡ f
unfolding found_in
found-row k n f e = go (eqb (row_of k n) 0) (found_in_lem k n counted ∙ e)
  where
    counted : n ≡ 0 → ⊥
    counted z = let h : None ≡ Some f = no_zeroth k n z ∙ e in true≢false cc

    go : (b : Bool) → cond b None (Some (unpack (row_of k n))) ≡ Some f → unpack (row_of k n) ≡ f
    go true h = absurd (true≢false cc)
    go false h = cc

module _ (s : List ℕ) (n form : ℕ) (w : Result FieldRow Refusal) (e : w ≡ way_for n (sought_of s n form)) where
  pub way_at : (k r : ℕ) → w ≡ Ok (field_row k r) → sought_of s n form ≡ Ok (sought k (unpack r))
  unfolding way_for
  way_at k r h = go (sought_of s n form) refl (sym h ∙ e)
    where
      go : (o : Result Sought Refusal) → sought_of s n form ≡ o → Ok (field_row k r) ≡ way_for n o → sought_of s n form ≡ Ok (sought k (unpack r))
      go (Ok o) p d =
          let same : field_row k r ≡ field_row o.layout (row_of o.layout n) = cc in
          let a : o.layout ≡ k = sym (ap (λ (x : FieldRow). x.layout) same) in
          let b : r ≡ row_of o.layout n = ap (λ (x : FieldRow). x.row) same in
          let c : o.field ≡ unpack r = sym (found-row o.layout n o.field (found-there s n form o.layout o.field p).field) ∙ ap unpack (sym b) in
          p ∙ ap (λ (i : ℕ). Ok (sought i o.field)) a ∙ ap (λ (x : Field). Ok (sought k x)) c
      go (Err x) p d = absurd (true≢false cc)

  pub way_refused : (x : Refusal) → w ≡ Err x → sought_of s n form ≡ Err x
  unfolding way_for
  way_refused x h = go (sought_of s n form) refl (sym h ∙ e)
    where
      go : (o : Result Sought Refusal) → sought_of s n form ≡ o → Err x ≡ way_for n o → sought_of s n form ≡ Err x
      go (Ok o) p d = absurd (true≢false cc)
      go (Err y) p d =
          let a : y ≡ x = cc in
          p ∙ ap (λ (z : Refusal). Err z) a
