-- Small steps: a number that lay in memory, equal answers, which answer has a text.
use Prim.Native.Nat.{ℕ, zero, suc}
use mathlib.Core.Path.{◌≡◌, refl, ap, ◌∙◌}
use mathlib.Core.Bool.{true, false}
use lib.IntN.{ℤ, pos, negsuc}
use lib.Signed.{lt_z}
use borrow.Author.Tests.{ne_eqb}
use mir.Syntax.{w64}
use mir.Val.{to_z, of_z, SFits}
use mir.ValLaws.{to_z-of_z}
use Rattle.base_digits.specs.digits.Figures.{capped}
use Rattle.base_digits.specs.signs.Signs.{signed_of}
use Rattle.base_value.specs.declared.Value.TheVariants.{Absent, Whole, Decimal, Angle, Date, Text}
use Rattle.p294.specs.answers.Replies.{reply, value_reply, refused_reply, field_reply, text_reply, says_other, text_alone, text_in}
use Rattle.std.specs.Prelude.{Result, Ok, Err}
use Rattle.card_field.specs.declared.FieldRead.{FieldRead}
use Rattle.base_refusal.specs.declared.Refusal.{Refusal}
use Rattle.base_value.specs.declared.Value.{Value}

-- a signed number that lay in memory is itself
pub back : (z w : ℤ) → SFits w64 z → z ≡ w → to_z w64 (of_z w64 z) ≡ w
back z w f e = to_z-of_z w64 z f ∙ e

-- answers with equal numbers are equal
pub alike : {s t a b m n x y : ℤ} → s ≡ t → a ≡ b → m ≡ n → x ≡ y → reply s a m x ≡ reply t b n y
alike p q r s = rw (p, q, r, s) refl

-- an answer that says 5, another kind of value, or neither

pub says-text : (z : ℤ) → z ≡ pos 5 → says_other z ≡ false
says-text z e = ap says_other e

pub says_value : (z : ℤ) → (z ≡ pos 5 → ⊥) → lt_z (pos 0) z ≡ true → says_other z ≡ true
says_value (pos n) h e = rw (e, ne_eqb n 5 (λ q. h (ap pos q)))
says_value (negsuc n) h e = e

pub says_none : (z : ℤ) → lt_z (pos 0) z ≡ false → says_other z ≡ false
says_none (pos n) e = rw e
says_none (negsuc n) e = refl

-- a refusal is no value
refusal-not : (n : ℕ) → says_other (signed_of true n) ≡ false
unfolding signed_of
refusal-not zero = refl
refusal-not (suc n) = refl

-- the answer to a field, but for a value of another kind, is the answer of its text
pub text_alone_lem : (f : Result FieldRead Refusal) → text_alone (field_reply f) ≡ text_reply f
unfolding text_alone field_reply value_reply refused_reply text_reply
text_alone_lem (Err x) = rw (refusal-not (capped x.number))
text_alone_lem (Ok f) = go f.value
  where
    go : (v : Value) → text_alone (value_reply f.misplaced v) ≡ text_in f.misplaced v
    go Absent = refl
    go (Whole z) = refl
    go (Decimal d) = refl
    go (Angle z) = refl
    go (Date d) = refl
    go (Text c) = refl
