-- Each answer as numbers: one that says it, and the three that go with it.
use Rattle.std.specs.Prelude.{ℕ, Bool, true, false, cond, ◌&&◌, not, eqb, ltb, ℤ, pos, negsuc, Result, Ok, Err, ⊤}
use Rattle.base_digits.specs.digits.Figures.{capped}
use Rattle.base_digits.specs.signs.Signs.{signed_of}
use Rattle.base_refusal.specs.declared.Refusal.{Refusal}
use Rattle.base_value.specs.declared.Value.{Value}
use Rattle.base_value.specs.declared.Value.TheVariants.{Absent, Whole, Decimal, Angle, Date, Text}
use Rattle.tie_lookup.specs.declared.questions.Defined.{Defined}
use Rattle.tie_lookup.specs.declared.questions.Defined.TheVariants as defined
use Rattle.base_value.specs.declared.Decimal.{Decimal as Units}
use Rattle.p294.specs.declared.answers.Reply.{Reply}
use Rattle.card_field.specs.declared.FieldRead.{FieldRead}
use Rattle.volume_check.specs.declared.LinePlace.{LinePlace}

abbrev pub reply : ℤ → ℤ → ℤ → ℤ → Reply
reply said a b c = record { said = said; first = a; second = b; third = c }

-- a number without a sign; from 10^18 on, which none reaches, 10^18
abbrev pub plain : ℕ → ℤ
plain n = signed_of false (capped n)

-- a refusal: minus its number; number, card, column
unfoldable pub refused_reply : Refusal → Reply
refused_reply r = reply (signed_of true (capped r.number)) (plain r.number) (plain r.card) (plain r.column)

-- something was done; there is nothing to say of it
abbrev pub done_reply : Reply
done_reply = reply (pos 0) (pos 0) (pos 0) (pos 0)

-- 1 for a number that is misplaced
abbrev pub mark : Bool → ℤ
mark misplaced = cond misplaced (pos 1) (pos 0)

-- a value: 0 absent, 1 whole, 2 decimal with its places, 3 angle, 4 date, 5 text with its columns on the card; the third number
-- of a whole or a decimal says whether it is misplaced
unfoldable pub value_reply : Bool → Value → Reply
value_reply misplaced Absent = done_reply
value_reply misplaced (Whole z) = reply (pos 1) z (pos 0) (mark misplaced)
value_reply misplaced (Decimal d) = reply (pos 2) d.units (plain d.places) (mark misplaced)
value_reply misplaced (Angle z) = reply (pos 3) z (pos 0) (pos 0)
value_reply misplaced (Date d) = reply (pos 4) (plain d.year) (plain d.month) (plain d.day)
value_reply misplaced (Text c) = reply (pos 5) (plain c.first) (plain c.last) (pos 0)

-- a field: its value, or its refusal
unfoldable pub field_reply : Result FieldRead Refusal → Reply
field_reply (Ok f) = value_reply f.misplaced f.value
field_reply (Err r) = refused_reply r

-- a value that is a text: 5 and its columns; 0 for any other
abbrev pub text_in : Bool → Value → Reply
text_in m Absent = done_reply
text_in m (Whole z) = done_reply
text_in m (Decimal d) = done_reply
text_in m (Angle z) = done_reply
text_in m (Date d) = done_reply
text_in m (Text c) = value_reply m (Text c)

-- a text: 5 and its columns; 0 where the field has none; or the field's refusal
unfoldable pub text_reply : Result FieldRead Refusal → Reply
text_reply (Ok f) = text_in f.misplaced f.value
text_reply (Err r) = refused_reply r

-- an answer that says the kind of a value which is there and no text
abbrev pub says_other : ℤ → Bool
says_other (pos n) = ltb 0 n && not (eqb n 5)
says_other (negsuc n) = false

-- a text by the answer to its field: a value of another kind is none
unfoldable pub text_alone : Reply → Reply
text_alone r = cond (says_other r.said) done_reply r

-- an entry or an opening: 0, or its refusal
unfoldable pub entered_reply : Result ⊤ Refusal → Reply
entered_reply (Ok _) = done_reply
entered_reply (Err r) = refused_reply r

-- so many
unfoldable pub count_reply : ℕ → Reply
count_reply n = reply (plain n) (pos 0) (pos 0) (pos 0)

-- one, with its card and column
unfoldable pub only_reply : ℕ → ℕ → Reply
only_reply card column = reply (pos 1) (plain card) (plain column) (pos 0)

-- how many, or the refusal: a check its faults, a conversion or a translation its bytes, a volume its lines or its cards, routes the
-- datums that have one
unfoldable pub counted_reply : Result ℕ Refusal → Reply
counted_reply (Ok n) = count_reply n
counted_reply (Err r) = refused_reply r

-- a key: the number of its definitions, with the place of the only one; or the refusal
unfoldable pub key_reply : Result Defined Refusal → Reply
key_reply (Ok defined.None) = done_reply
key_reply (Ok (defined.Only card column)) = only_reply card column
key_reply (Ok (defined.Several n)) = count_reply n
key_reply (Err r) = refused_reply r

-- a line of a volume: how many cards it has, its first card, its directory card; or the refusal
unfoldable pub line_reply : Result LinePlace Refusal → Reply
line_reply (Ok l) = reply (plain l.cards) (plain l.first) (plain l.entry) (pos 0)
line_reply (Err r) = refused_reply r

-- a heading: 2, its units and places, as a decimal that is read; or its refusal
unfoldable pub heading_reply : Result Units Refusal → Reply
heading_reply (Ok d) = value_reply false (Decimal d)
heading_reply (Err r) = refused_reply r
