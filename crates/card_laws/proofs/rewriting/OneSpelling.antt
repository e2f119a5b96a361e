-- Two cards that are alike outside a field and say the same in it, misplaced or not, become one card when that value is put.
use Prim.Native.Nat.{ℕ}
use mathlib.Core.Path.{◌≡◌, sym, ap, ◌∙◌}
use mathlib.Core.List.{List}
use mathlib.Core.Bool.{Bool, false}
use Rattle.base_value.specs.declared.Columns.{Columns}
use Rattle.base_value.specs.declared.Value.{Value}
use Rattle.base_value.specs.declared.Value.TheVariants.{Text}
use Rattle.format_layout.specs.declared.Field.{Field}
use Rattle.card_field.specs.seeking.Card.{sought_of}
use Rattle.card_field.specs.Reading.{field_reading, holds_text, field_text}
use Rattle.card_put.specs.Putting.{placed, putting_of, putting_text_of}
use Rattle.card_put.proofs.Untouched.{Outside}
use Rattle.card_laws.proofs.rewriting.Answers.{was_read}
use Rattle.card_laws.proofs.rewriting.Anew.{value_anew, text_anew}
use Rattle.card_laws.proofs.rewriting.Agreed.{value_rewritten, text_rewritten}
use Rattle.std.specs.Prelude.{Ok}
use Rattle.card_field.specs.Fields.{field_read}
use Rattle.card_field.specs.seeking.Found.{sought}

-- the one card that putting a value into either leaves
pub record OneCard (s r : List ℕ) (n form : ℕ) (v : Value) : Type 0 where
  pub card : List ℕ
  pub from_one : putting_of s n form v ≡ placed card
  pub from-other : putting_of r n form v ≡ placed card

module _ (s r : List ℕ) (n form k : ℕ) (f : Field) (q : sought_of s n form ≡ Ok (sought k f)) (o : Outside f s r) where
  -- a value that is no text
  pub one_card : (v : Value) {a b : Bool} → holds_text (Ok v) ≡ false → field_reading s n form ≡ Ok (field_read v a)
      → field_reading r n form ≡ Ok (field_read v b) → OneCard s r n form v
  one_card v x e d =
      let a = value_rewritten s n form v e x in
      let b = was_read r n form v d in
      let same = value_anew s r n form k b.code f b.field q b.found o v in
      record { card = a.card; from_one = a.put; from-other = same ∙ a.put }

  -- a text has one spelling only: cards that hand back the same one are the same
  pub one_text : (c d : Columns) {a b : Bool} → field_reading s n form ≡ Ok (field_read (Text c) a) → field_reading r n form ≡ Ok (field_read (Text d) b)
      → field_text s n form ≡ field_text r n form → s ≡ r
  one_text c d e h t =
      let b = was_read r n form (Text d) h in
      let same = text_anew s r n form k b.code f b.field q b.found o (field_text s n form) in
      let p : placed s ≡ placed r =
      sym (text_rewritten s n form c e) ∙ sym same ∙ ap (putting_text_of r n form) t ∙ text_rewritten r n form d h in
      cc
