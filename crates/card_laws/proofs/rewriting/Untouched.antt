-- A put that was made changed no column outside its field, told column by column.
use Prim.Native.Nat.{ℕ, ◌+◌, ◌-◌, ◌≤◌, ◌<◌}
use native.Mathlib.Omega.{arith}
use mathlib.Core.Path.{◌≡◌, sym, ap, subst, ◌∙◌}
use mathlib.Core.List.{List}
use lib.ListN.{length, get_or, take, drop}
use lib.Seq.{get_or-take, get_or-drop}
use Rattle.base_value.specs.declared.Value.{Value}
use Rattle.format_layout.specs.declared.Field.{Field}
use Rattle.format_layout.proofs.Numbers.{found_lies}
use Rattle.card_field.specs.seeking.Card.{sought_of}
use Rattle.card_field.proofs.seeking.Steps.{found-there}
use Rattle.card_put.specs.Putting.{Putting, placed, left_by, putting_of, putting_text_of}
use Rattle.card_put.proofs.Untouched.{Outside, value_untouched, text_untouched}
use Rattle.std.specs.Prelude.{Ok}
use Rattle.card_field.specs.seeking.Found.{sought}

-- every column outside a field is the same on two cards, and so is their number
pub record Unchanged (f : Field) (s card : List ℕ) : Type 0 where
  pub before : (c : ℕ) → c < f.first → get_or card (c - 1) 0 ≡ get_or s (c - 1) 0
  pub behind : (c : ℕ) → f.last < c → get_or card (c - 1) 0 ≡ get_or s (c - 1) 0
  pub length-is : length card ≡ length s

begun : (n i : ℕ) (s r : List ℕ) → i < n → take n r ≡ take n s → get_or r i 0 ≡ get_or s i 0
begun n i s r h e = sym (get_or-take n r i 0 h) ∙ ap (λ (l : List ℕ). get_or l i 0) e ∙ get_or-take n s i 0 h

ended : (n i : ℕ) (s r : List ℕ) → n ≤ i → drop n r ≡ drop n s → get_or r i 0 ≡ get_or s i 0
ended n i s r h e =
    let q : n + (i - n) ≡ i = omega arith in
    ap (λ j. get_or r j 0) (sym q) ∙ sym (get_or-drop n r (i - n) 0) ∙ ap (λ (l : List ℕ). get_or l (i - n) 0) e
    ∙ get_or-drop n s (i - n) 0 ∙ ap (λ j. get_or s j 0) q

by_column : (f : Field) (s card : List ℕ) → 2 ≤ f.first → Outside f s card → Unchanged f s card
by_column f s card l o =
    record {
      before = λ c h. begun (f.first - 1) (c - 1) s card (omega arith) o.before;
      behind = λ c h. ended f.last (c - 1) s card (omega arith) o.behind;
      length-is = o.length-is;
    }

module _ (s : List ℕ) (n form k : ℕ) (f : Field) (q : sought_of s n form ≡ Ok (sought k f)) (card : List ℕ) where
  after_code : 2 ≤ f.first
  after_code = omega (arith, (found_lies k n f (found-there s n form k f q).field).after)

  pub value_outside : (v : Value) → putting_of s n form v ≡ placed card → Outside f s card
  value_outside v e = subst (λ (p : Putting). Outside f s (left_by p s)) e (value_untouched s n form k f q v)

  pub text_outside : (x : List ℕ) → putting_text_of s n form x ≡ placed card → Outside f s card
  text_outside x e = subst (λ (p : Putting). Outside f s (left_by p s)) e (text_untouched s n form k f q x)

  -- a value that was put
  pub value_unchanged : (v : Value) → putting_of s n form v ≡ placed card → Unchanged f s card
  value_unchanged v e = by_column f s card after_code (value_outside v e)

  -- a text that was put
  pub text_unchanged : (x : List ℕ) → putting_text_of s n form x ≡ placed card → Unchanged f s card
  text_unchanged x e = by_column f s card after_code (text_outside x e)
