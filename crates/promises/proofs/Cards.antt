-- The laws of one card, said of what putting answers and leaves.
use Prim.Native.Nat.{ℕ}
use mathlib.Core.Path.{◌≡◌, refl, sym, ap, ◌∙◌}
use mathlib.Core.Bool.{Bool, false}
use mathlib.Core.Logic.{◌↔◌}
use mathlib.Core.List.{List}
use native.Mathlib.Decide.{ℕ_discrete}
use borrow.Author.Tests.{eq-eqb, ne_eqb}
use lib.ListN.{length, replicate}
use Rattle.base_refusal.specs.declared.Refusal.{Refusal}
use Rattle.base_value.specs.declared.Value.{Value}
use Rattle.base_value.specs.declared.Value.TheVariants.{Absent, Text}
use Rattle.base_value.specs.declared.Columns.{Columns}
use Rattle.value_field.specs.declared.spelling.Spelling.{Spelling}
use Rattle.value_field.specs.spelling.Reading.{reading_of}
use Rattle.value_field.proofs.spelling.Absence.{zero_one, blank_read, absent_only}
use Rattle.format_code.specs.declared.Code.{Code}
use Rattle.format_code.specs.declared.Code.TheVariants as code
use Rattle.format_code.specs.Codes.{code_of}
use Rattle.format_layout.specs.declared.Field.{Field}
use Rattle.card_field.specs.seeking.Card.{sought_of}
use Rattle.card_field.specs.Reading.{field_reading, field_text, holds_text}
use Rattle.card_put.specs.Putting.{Putting, placed, stays, answer_of, left_by, putting_of, putting_text_of}
use Rattle.card_put.specs.opening.Opening.{code_answer, card_with, opened_of, opened_card}
use Rattle.card_put.proofs.Untouched.{Outside, value_untouched, text_untouched}
use Rattle.card_laws.proofs.rewriting.Back.{value_put_back, text_put_back}
use Rattle.card_laws.proofs.rewriting.Agreed.{value_rewritten, text_rewritten}
use Rattle.card_laws.proofs.rewriting.OneSpelling as spelling
use Rattle.promises.specs.Words.{put_answer, put_card, text_answer, text_card, AlikeOutside}
use Rattle.std.specs.Prelude.{Ok, Err}
use Rattle.card_field.specs.Fields.{field_read}
use Rattle.base_refusal.specs.Refusals.{no_refusal}
use Rattle.card_field.specs.seeking.Found.{sought}

-- what is refused stays, and what is done is the card that is left
pub refused-stays : (p : Putting) (s : List ℕ) (r : Refusal) → answer_of p ≡ Err r → left_by p s ≡ s
refused-stays (placed t) s r e = absurd (zero_one cc)
refused-stays (stays q) s r e = refl

done-placed : (p : Putting) (s : List ℕ) → answer_of p ≡ no_refusal → p ≡ placed (left_by p s)
done-placed (placed t) s e = refl
done-placed (stays q) s e = absurd (zero_one cc)

pub refused_opening : (text s : List ℕ) (r : Refusal) → opened_of text (length s) ≡ Err r → opened_card text s ≡ s
unfolding opened_of opened_card code_answer card_with
refused_opening text s r e = elim (ℕ_discrete (length s) 80) [
  | yes whole ↦ rw (eq-eqb (length s) 80 whole) (go (code_of text) (rw whole at e))
  | no h ↦ rw (ne_eqb (length s) 80 h)
]
  where
    go : (c : Code) → code_answer c ≡ Err r → card_with c text s ≡ s
    go code.Unknown e = refl
    go code.Passed e = absurd (zero_one cc)
    go (code.Read k) e = absurd (zero_one cc)

pub blank_exactly : (k : Spelling) (s : List ℕ) → (reading_of k s ≡ Ok Absent) ↔ (s ≡ replicate (length s) 32)
blank_exactly k s = (absent_only s k, λ e. ap (reading_of k) e ∙ blank_read (length s) k)

module _ (s : List ℕ) (n form : ℕ) where
  pub value_back : (v : Value) → put_answer s n form v ≡ no_refusal → field_reading (put_card s n form v) n form ≡ Ok (field_read v false)
  value_back v e = value_put_back s n form v (put_card s n form v) (done-placed (putting_of s n form v) s e)

  pub text_back : (t : List ℕ) → text_answer s n form t ≡ no_refusal → field_text (text_card s n form t) n form ≡ t
  text_back t e = text_put_back s n form t (text_card s n form t) (done-placed (putting_text_of s n form t) s e)

  pub read_again : (v : Value) (b : Bool) → field_reading s n form ≡ Ok (field_read v b) → holds_text (Ok v) ≡ false
      → (put_answer s n form v ≡ no_refusal)
      × (field_reading (put_card s n form v) n form ≡ Ok (field_read v false))
      × (put_card (put_card s n form v) n form v ≡ put_card s n form v)
  read_again v b e x =
      let r = value_rewritten s n form v e x in
      let q : put_card s n form v ≡ r.card = ap (λ p. left_by p s) r.put in
      (ap answer_of r.put, rw q r.says, rw q (ap (λ p. left_by p r.card) r.twice))

  pub text-again : (c : Columns) (b : Bool) → field_reading s n form ≡ Ok (field_read (Text c) b)
      → (text_answer s n form (field_text s n form) ≡ no_refusal) × (text_card s n form (field_text s n form) ≡ s)
  text-again c b e = let r = text_rewritten s n form c e in (ap answer_of r, ap (λ p. left_by p s) r)

to_outside : (f : Field) (s t : List ℕ) → AlikeOutside f s t → Outside f s t
to_outside f s t a = record { before = a.before; behind = a.behind; length-is = a.as_long }

of_outside : (f : Field) (s t : List ℕ) → Outside f s t → AlikeOutside f s t
of_outside f s t o = record { before = o.before; behind = o.behind; as_long = o.length-is }

pub one_spelling : (s t : List ℕ) (n form k : ℕ) (f : Field) → sought_of s n form ≡ Ok (sought k f) → AlikeOutside f s t
    → (v : Value) (a b : Bool) → holds_text (Ok v) ≡ false → field_reading s n form ≡ Ok (field_read v a)
    → field_reading t n form ≡ Ok (field_read v b)
    → put_card t n form v ≡ put_card s n form v
one_spelling s t n form k f q a v b c x e d =
    let o = spelling.one_card s t n form k f q (to_outside f s t a) v x e d in
    ap (λ p. left_by p t) o.from-other ∙ sym (ap (λ p. left_by p s) o.from_one)

pub one_text : (s t : List ℕ) (n form k : ℕ) (f : Field) → sought_of s n form ≡ Ok (sought k f) → AlikeOutside f s t
    → (c d : Columns) (a b : Bool) → field_reading s n form ≡ Ok (field_read (Text c) a) → field_reading t n form ≡ Ok (field_read (Text d) b)
    → field_text s n form ≡ field_text t n form → s ≡ t
one_text s t n form k f q o c d a b = spelling.one_text s t n form k f q (to_outside f s t o) c d

module _ (s : List ℕ) (n form k : ℕ) (f : Field) (q : sought_of s n form ≡ Ok (sought k f)) where
  pub outside : (v : Value) → AlikeOutside f s (put_card s n form v)
  outside v = of_outside f s (put_card s n form v) (value_untouched s n form k f q v)

  pub text_outside : (t : List ℕ) → AlikeOutside f s (text_card s n form t)
  text_outside t = of_outside f s (text_card s n form t) (text_untouched s n form k f q t)
