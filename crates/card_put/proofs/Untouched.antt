-- An entry changes no column outside its field, and a refused one changes none.
use Prim.Native.Nat.{ℕ, ◌-◌, ◌≤◌}
use native.Mathlib.Omega.{arith}
use mathlib.Core.Path.{◌≡◌, refl, sym, subst, ◌∙◌}
use mathlib.Core.List.{List}
use mathlib.Core.Bool.{Bool, true, false, cond, ◌&&◌}
use lib.ListN.{length, take, drop}
use borrow.Rule.Slice.PartMut.{same_len_mid, take_put, drop_put}
use Rattle.base_refusal.specs.declared.Unwritten.TheVariants as unwritten
use Rattle.base_digits.specs.digits.Columns.{Entry, agreed, refused}
use Rattle.base_value.specs.declared.Value.{Value}
use Rattle.value_field.specs.writing.Writing.{entry_of, text_entry_of}
use Rattle.value_field.proofs.writing.Back.{value_back, text-read_back}
use Rattle.format_layout.specs.declared.Field.{Field}
use Rattle.format_layout.specs.declared.Form.{Form}
use Rattle.base_refusal.specs.Refusals.{refusal}
use Rattle.card_field.specs.seeking.Card.{sought_of}
use Rattle.card_field.specs.judging.Fields.{spelling_of}
use Rattle.card_put.specs.Putting.{Putting, stays, left_by, placed_in, is_absent, within, is_other, came_of, by_entry, value_put, putting_of, putting_text_of}
use Rattle.card_field.specs.needing.Needs.{needed_after}
use Rattle.format_layout.specs.Columns.{width}
use Rattle.card_put.proofs.Steps.{value_is, text-is, field_fits, columns_wide}
use Rattle.std.specs.Prelude.{Ok}
use Rattle.card_field.specs.seeking.Found.{sought}

-- the columns before a field and behind it are the same on two cards, and so is their number
pub record Outside (f : Field) (s t : List ℕ) : Type 0 where
  pub before : take (f.first - 1) t ≡ take (f.first - 1) s
  pub behind : drop f.last t ≡ drop f.last s
  pub length-is : length t ≡ length s

same_card : (f : Field) (s : List ℕ) → Outside f s s
same_card f s = record { before = refl; behind = refl; length-is = refl }

module _ (s : List ℕ) (f : Field) (low : 1 ≤ f.first) (order : f.first ≤ f.last) (on : f.last ≤ length s) where
  placed_outside : (t : List ℕ) → length t ≡ width f → Outside f s (placed_in f s t)
  unfolding placed_in
  placed_outside t h =
      record {
        before = take_put (f.first - 1) (width f) s t (omega arith);
        behind = drop_put (f.first - 1) f.last s t (omega arith) on h;
        length-is = same_len_mid (f.first - 1) (width f) s t (h ∙ sym (columns_wide s (f.first - 1) f.last (omega arith) on));
      }

  entry_outside : (e : Entry) → ((t : List ℕ) → e ≡ agreed t → length t ≡ width f) → Outside f s (left_by (by_entry f s e) s)
  unfolding by_entry came_of
  entry_outside (agreed t) h = placed_outside t (h t refl)
  entry_outside (refused unwritten.Unprintable) h = same_card f s
  entry_outside (refused unwritten.Malformed) h = same_card f s
  entry_outside (refused unwritten.OutOfRange) h = same_card f s
  entry_outside (refused unwritten.OtherKind) h = same_card f s
  entry_outside (refused unwritten.NoRoom) h = same_card f s

  value_outside : (k n : ℕ) (form : Form) (v : Value) → Outside f s (left_by (value_put k s n f form v) s)
  unfolding value_put
  value_outside k n form v = go (is_other e) (is_absent v && needed_after k s n f) (within f v)
    where
      e : Entry
      e = entry_of (spelling_of f.kind form) (width f) v

      go : (a b c : Bool)
          → Outside f s (left_by (cond a (stays (refusal 12 1 0)) (cond b (stays (refusal 11 1 f.first)) (cond c (by_entry f s (entry_of (spelling_of f.kind form) (width f) v)) (stays (refusal 10 1 0))))) s)
      go true b c = same_card f s
      go false true c = same_card f s
      go false false true =
          entry_outside (entry_of (spelling_of f.kind form) (width f) v) (λ t q. (value_back (width f) t (spelling_of f.kind form) v q).1)
      go false false false = same_card f s

-- a put of a value, and of a text
module _ (s : List ℕ) (n form k : ℕ) (f : Field) (q : sought_of s n form ≡ Ok (sought k f)) where
  pub value_untouched : (v : Value) → Outside f s (left_by (putting_of s n form v) s)
  value_untouched v =
      let h = field_fits s n form k f q in
      subst (λ (p : Putting). Outside f s (left_by p s)) (sym (value_is s n form k f q _ refl v))
      (value_outside s f h.1 h.2 (omega (arith, h.0, h.3)) k n _ v)

  pub text_untouched : (x : List ℕ) → Outside f s (left_by (putting_text_of s n form x) s)
  text_untouched x =
      let h = field_fits s n form k f q in
      subst (λ (p : Putting). Outside f s (left_by p s)) (sym (text-is s n form k f q _ refl x))
      (entry_outside s f h.1 h.2 (omega (arith, h.0, h.3)) (text_entry_of _ (width f) x) (λ t e. (text-read_back _ (width f) x t e).1))
