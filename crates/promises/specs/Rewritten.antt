-- A volume brought into a form, and compacted: what is answered, and the buffer afterwards. The code of its last card tells its form.
use Rattle.std.specs.Prelude.{ℕ, ◌*◌, List, take, Result}
use Rattle.volume_form.specs.declared.Form.{Form}
use Rattle.volume_form.specs.Rows.{row_of}
use Rattle.volume_rules.specs.Sound.{headers_of}
use Rattle.volume_rules.specs.Judged.{form_in}
use Rattle.volume_edit.specs.Written.{convert_answer, left_by, compact_answer, compacted_by}
use Rattle.base_refusal.specs.declared.Refusal.{Refusal}

-- the headers that n cards at the front of a buffer tell
abbrev pub headers_told : ℕ → List ℕ → List (List ℕ)
headers_told n buffer = headers_of (row_of (form_in n buffer)) n (take (80 * n) buffer)

-- into the form `to`: widening and narrowing
abbrev pub form_answer : Form → ℕ → List ℕ → Result ℕ Refusal
form_answer to n buffer = convert_answer (row_of (form_in n buffer)) (row_of to) n buffer

abbrev pub form_left : Form → ℕ → List ℕ → List ℕ
form_left to n buffer = left_by (row_of to) (form_answer to n buffer) (headers_told n buffer) buffer

abbrev pub kept_answer : ℕ → List ℕ → Result ℕ Refusal
kept_answer n buffer = compact_answer (row_of (form_in n buffer)) n buffer

abbrev pub kept_left : ℕ → List ℕ → List ℕ
kept_left n buffer = compacted_by (row_of (form_in n buffer)) (kept_answer n buffer) (headers_told n buffer) buffer
