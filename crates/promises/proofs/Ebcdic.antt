-- Tapes in EBCDIC: 17 exactly where the output is shorter; what is written, what stays, and the way back.
use Prim.Native.Nat.{ℕ, ◌≤◌, ◌<◌}
use native.Mathlib.Omega.{arith}
use mathlib.Core.Path.{◌≡◌, refl, ap, subst, ◌∙◌}
use mathlib.Core.Bool.{Bool, true, false, cond}
use mathlib.Core.Logic.{◌↔◌}
use mathlib.Core.List.{List}
use lib.Dec.{ltb}
use lib.ListN.{length, take, drop}
use Rattle.base_refusal.specs.declared.Refusal.{Refusal}
use Rattle.base_refusal.specs.Refusals.{refusal}
use Rattle.base_lists.specs.Laid.{stored}
use Rattle.value_field.proofs.spelling.Absence.{zero_one}
use Rattle.card_laws.specs.exactly.Rows.{given, Exactly}
use Rattle.card_laws.proofs.exactly.Given.{exactly}
use Rattle.media_ebcdic.specs.Translating.{Bytes, ascii_from, ebcdic_from, translated_for}
use Rattle.media_ebcdic.proofs.Buffers.{written, kept, behind, ascii_length, ebcdic_length, tape_back, text_back}
use Rattle.promises.specs.Ebcdic.{ascii_in, ebcdic_in, translate_rows}
use Rattle.std.specs.Prelude.{Result, Ok, Err, Option, None, Some}

-- the refusal in the answer
abbrev in_answer : Result ℕ Refusal → Option Refusal
in_answer (Ok n) = None
in_answer (Err r) = Some r

refused_as : (a : Result ℕ Refusal) (r : Refusal) → (a ≡ Err r) ↔ (in_answer a ≡ Some r)
refused_as (Ok n) r = (λ e. absurd (zero_one cc), λ e. absurd (zero_one cc))
refused_as (Err q) r = (λ e. ap in_answer e, λ e. let x : q ≡ r = cc in ap Err x)

pub translated_exactly : (bytes room : ℕ)
    → Exactly (translate_rows bytes room) (λ r. translated_for bytes room ≡ Err r) (translated_for bytes room ≡ Ok bytes)
unfolding translated_for given
translated_exactly bytes room =
    exactly (translate_rows bytes room) (in_answer (translated_for bytes room)) (told (ltb room bytes))
    (refused_as (translated_for bytes room)) (done_as (ltb room bytes))
  where
    told : (b : Bool) → in_answer (cond b (Err (refusal 17 0 0)) (Ok bytes)) ≡ cond b (Some (refusal 17 0 0)) None
    told true = refl
    told false = refl

    done_as : (b : Bool)
        → (cond b (Err (refusal 17 0 0)) (Ok bytes) ≡ Ok bytes)
        ↔ (in_answer (cond b (Err (refusal 17 0 0)) (Ok bytes)) ≡ None)
    done_as true = (λ e. absurd (zero_one cc), λ e. absurd (zero_one cc))
    done_as false = (λ e. refl, λ e. refl)

-- a translation of buffers into ones as long
module _ (f : List ℕ → List ℕ) (as_many : (s : List ℕ) → length (f s) ≡ length s) where
  in_front : (s out : List ℕ) → length s ≤ length out → take (length s) (stored out 0 (f s)) ≡ f s
  in_front s out h =
      subst (λ n. take n (stored out 0 (f s)) ≡ f s) (as_many s) (written out (f s) (omega (arith, as_many s)))

  stays-behind : (s out : List ℕ) → drop (length s) (stored out 0 (f s)) ≡ drop (length s) out
  stays-behind s out = subst (λ n. drop n (stored out 0 (f s)) ≡ drop n out) (as_many s) (behind out (f s))

  all-stays : (s out : List ℕ) → length out < length s → stored out 0 (f s) ≡ out
  all-stays s out h = kept out (f s) (omega (arith, as_many s))

  -- and one that undoes it
  there_and_back : (g : List ℕ → List ℕ) → ((s : List ℕ) → Bytes s → g (f s) ≡ s)
      → (s out again : List ℕ) → Bytes s → length s ≤ length out → length s ≤ length again
      → take (length s) (stored again 0 (g (take (length s) (stored out 0 (f s))))) ≡ s
  there_and_back g back s out again b h k =
      ap (λ t. take (length s) (stored again 0 (g t))) (in_front s out h)
      ∙ ap (λ t. take (length s) (stored again 0 t)) (back s b)
      ∙ written again s k

pub tape_again : (tape out again : List ℕ) → Bytes tape → length tape ≤ length out → length tape ≤ length again
    → take (length tape) (ebcdic_in again (take (length tape) (ascii_in out tape))) ≡ tape
tape_again = there_and_back ascii_from ascii_length ebcdic_from tape_back

pub text-again : (text out again : List ℕ) → Bytes text → length text ≤ length out → length text ≤ length again
    → take (length text) (ascii_in again (take (length text) (ebcdic_in out text))) ≡ text
text-again = there_and_back ebcdic_from ebcdic_length ascii_from text_back

pub ascii_behind : (tape out : List ℕ) → drop (length tape) (ascii_in out tape) ≡ drop (length tape) out
ascii_behind = stays-behind ascii_from ascii_length

pub ebcdic_behind : (text out : List ℕ) → drop (length text) (ebcdic_in out text) ≡ drop (length text) out
ebcdic_behind = stays-behind ebcdic_from ebcdic_length

pub ascii_stays : (tape out : List ℕ) → length out < length tape → ascii_in out tape ≡ out
ascii_stays = all-stays ascii_from ascii_length

pub ebcdic_stays : (text out : List ℕ) → length out < length text → ebcdic_in out text ≡ out
ebcdic_stays = all-stays ebcdic_from ebcdic_length
