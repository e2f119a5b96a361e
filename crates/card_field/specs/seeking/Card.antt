-- What is asked of one card before its fields: its length, its bytes and its code.
use Rattle.std.specs.Prelude.{ℕ, ◌+◌, List, cond, not, length, take, eqb, ltb, Result, Ok, Err, Option, Some, None}
use Rattle.value_text.specs.printable.Bytes.{first_bad}
use Rattle.format_code.specs.declared.Code.{Code}
use Rattle.format_code.specs.declared.Code.TheVariants as code
use Rattle.format_code.specs.Codes.{code_of}
use Rattle.format_layout.specs.Layouts.{field_of}
use Rattle.format_layout.specs.packed.Rows.{row_of}
use Rattle.base_refusal.specs.Refusals.{refusal}
use Rattle.format_layout.specs.declared.Field.{Field}
use Rattle.base_refusal.specs.declared.Refusal.{Refusal}
use Rattle.card_field.specs.seeking.Found.{Sought, sought, field_row}
use Rattle.card_field.specs.declared.seeking.FieldRow.{FieldRow}

-- the field with a number, under a form that must be 0 or 1
unfoldable pub under_form : ℕ → ℕ → Option Field → Result Sought Refusal
under_form k form None = Err (refusal 13 0 0)
under_form k form (Some f) = cond (ltb 1 form) (Err (refusal 10 0 0)) (Ok (sought k f))

-- a field of a card with a code
unfoldable pub coded : Code → ℕ → ℕ → Result Sought Refusal
coded code.Unknown n form = Err (refusal 5 1 1)
coded code.Passed n form = Err (refusal 13 0 0)
coded (code.Read k) n form = under_form k form (field_of k n)

-- the field with a number on a card, in the order 1, 2, 4, 5, 13 and the form's 10
unfoldable pub sought_of : List ℕ → ℕ → ℕ → Result Sought Refusal
sought_of s n form =
    cond (eqb (length s) 0) (Err (refusal 1 0 0))
    (cond (not (eqb (length s) 80)) (Err (refusal 2 0 0))
    (cond (ltb (first_bad s) 80) (Err (refusal 4 1 (first_bad s + 1))) (coded (code_of (take 5 s)) n form)))

-- the same by the row of the field with the number
unfoldable pub way_for : ℕ → Result Sought Refusal → Result FieldRow Refusal
way_for n (Ok o) = Ok (field_row o.layout (row_of o.layout n))
way_for n (Err r) = Err r
