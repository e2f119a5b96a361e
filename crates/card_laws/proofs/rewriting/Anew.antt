-- What stood in a field plays no part in a put into it, so putting twice is putting once.
use Prim.Native.Nat.{ℕ, ◌+◌, ◌-◌, ◌≤◌}
use native.Mathlib.Omega.{arith}
use mathlib.Core.Path.{◌≡◌, refl, sym, ap, ap₂, ◌∙◌}
use mathlib.Core.List.{List, ◌++◌}
use mathlib.Core.Bool.{Bool, false, ◌&&◌}
use lib.ListN.{take, drop}
use lib.Seq.{take-take, drop-drop}
use Rattle.base_refusal.specs.declared.Unwritten.TheVariants as unwritten
use Rattle.base_digits.specs.digits.Columns.{Entry, agreed, refused}
use Rattle.base_value.specs.declared.Value.{Value}
use Rattle.value_field.specs.writing.Writing.{entry_of, text_entry_of}
use Rattle.format_layout.specs.declared.Field.{Field}
use Rattle.format_layout.specs.Forms.{form_numbered}
use Rattle.format_code.specs.Codes.{code_of}
use Rattle.format_layout.proofs.Numbers.{found_lies}
use Rattle.card_field.specs.seeking.Card.{coded, sought_of}
use Rattle.card_field.proofs.seeking.Steps.{found-there, found-coded}
use Rattle.card_put.specs.Putting.{Putting, placed, placed_in, is_absent, within, is_other, came_of, by_entry, value_put, putting_of, putting_text_of}
use Rattle.format_layout.specs.Columns.{width}
use Rattle.card_put.proofs.Steps.{value_is, text-is}
use Rattle.card_put.proofs.Untouched.{Outside}
use Rattle.card_laws.proofs.rewriting.Need.{need_alike}
use Rattle.card_laws.proofs.rewriting.Reasons.{is_done, value_reason, text_reason}
use Rattle.card_laws.proofs.rewriting.Answers.{spelling_in, unless, put_made, text_made, was_read}
use Rattle.card_laws.proofs.rewriting.Untouched.{value_outside, text_outside}
use Rattle.card_laws.proofs.rewriting.Back.{value_put_back, text-columns_back}
use Rattle.std.specs.Prelude.{Ok}
use Rattle.card_field.specs.seeking.Found.{sought}

-- the same columns in a field of two cards that are alike outside it
module _ (f : Field) (s r : List ℕ) (o : Outside f s r) (forward : f.first ≤ f.last) where
  placed_alike : (t : List ℕ) → placed_in f r t ≡ placed_in f s t
  unfolding placed_in
  placed_alike t =
      let q : f.first - 1 + width f ≡ f.last = omega arith in
      ap₂ (λ (x y : List ℕ). x ++ (t ++ y)) o.before
      (drop-drop (width f) (f.first - 1) r ∙ ap (λ i. drop i r) q ∙ o.behind
      ∙ ap (λ i. drop i s) (sym q) ∙ sym (drop-drop (width f) (f.first - 1) s))

  entry-alike : (e : Entry) → is_done e ≡ false → by_entry f r e ≡ by_entry f s e
  unfolding by_entry came_of
  entry-alike (agreed t) d = ap placed (placed_alike t)
  entry-alike (refused unwritten.Unprintable) d = refl
  entry-alike (refused unwritten.Malformed) d = refl
  entry-alike (refused unwritten.OutOfRange) d = refl
  entry-alike (refused unwritten.OtherKind) d = refl
  entry-alike (refused unwritten.NoRoom) d = refl

-- two cards that are alike outside a field, the field being found on both
module _ (s r : List ℕ) (n form k j : ℕ) (f g : Field) (q : sought_of s n form ≡ Ok (sought k f))
    (p : sought_of r n form ≡ Ok (sought j g)) (o : Outside f s r) where
  forward : f.first ≤ f.last
  forward = (found_lies k n f (found-there s n form k f q).field).forward

  same_code : take 5 r ≡ take 5 s
  same_code =
      let l : 5 ≤ f.first - 1 = omega (arith, (found_lies k n f (found-there s n form k f q).field).after) in
      sym (take-take 5 (f.first - 1) r l) ∙ ap (take 5) o.before ∙ take-take 5 (f.first - 1) s l

  -- the field found is the same
  pub same_field : sought_of r n form ≡ Ok (sought k f)
  same_field =
      p ∙ sym (found-coded r n form j g p).1 ∙ ap (λ c. coded (code_of c) n form) same_code ∙ (found-coded s n form k f q).1

  -- a put answers the same and leaves the same card
  pub value_anew : (v : Value) → putting_of r n form v ≡ putting_of s n form v
  unfolding value_put
  value_anew v =
      let sp = spelling_in f form in
      let e = entry_of sp (width f) v in
      value_is r n form k f same_field (form_numbered form) refl v
      ∙ ap₂ (λ (needed : Bool) (made : Putting). unless f (is_other e) (is_absent v && needed) (within f v) made)
      (need_alike k n f (found-there s n form k f q).field s r o)
      (entry-alike f s r o forward e (value_reason (width f) sp v))
      ∙ sym (value_is s n form k f q (form_numbered form) refl v)

  pub text_anew : (x : List ℕ) → putting_text_of r n form x ≡ putting_text_of s n form x
  text_anew x =
      let sp = spelling_in f form in
      text-is r n form k f same_field (form_numbered form) refl x
      ∙ entry-alike f s r o forward (text_entry_of sp (width f) x) (text_reason (width f) sp x)
      ∙ sym (text-is s n form k f q (form_numbered form) refl x)

module _ (s card : List ℕ) (n form : ℕ) where
  -- putting a value twice is putting it once
  pub value_twice : (v : Value) → putting_of s n form v ≡ placed card → putting_of card n form v ≡ placed card
  value_twice v e =
      let a = put_made s n form v card e in
      let b = was_read card n form v (value_put_back s n form v card e) in
      let o = value_outside s n form a.code a.field a.found card v e in
      value_anew s card n form a.code b.code a.field b.field a.found b.found o v ∙ e

  pub text_twice : (x : List ℕ) → putting_text_of s n form x ≡ placed card → putting_text_of card n form x ≡ placed card
  text_twice x e =
      let a = text_made s n form x card e in
      let b = was_read card n form _ (text-columns_back s n form a.code a.field a.found x card e) in
      let o = text_outside s n form a.code a.field a.found card x e in
      text_anew s card n form a.code b.code a.field b.field a.found b.found o x ∙ e
