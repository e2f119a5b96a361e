-- A writer's two answers, whether it fits and what the columns hold, from what there is to write.
use mathlib.Core.Path.{◌≡◌, refl, sym, ap, ◌∙◌}
use mathlib.Core.List.{List}
use mathlib.Core.Bool.{Bool, true, false, false≢true, true≢false}
use Prim.Native.Nat.{ℕ}
use lib.ListN.{length}
use Rattle.base_digits.specs.digits.Columns.{or_else, fits, written, Entry, agreed, refused, answer_of, entered_in}
use Rattle.std.specs.Prelude.{Err, Option, None, Some}
use Rattle.base_refusal.specs.declared.Unwritten.{Unwritten}
use Rattle.base_refusal.specs.Refusals.{no_refusal}

pub fitted : {o : Option (List ℕ)} {t : List ℕ} (old new : List ℕ) → o ≡ Some t → new ≡ t → (true ≡ fits o) × (new ≡ written o old)
fitted old new e h = (sym (ap fits e), h ∙ sym (ap (λ o. written o old) e))

pub declined : {o : Option (List ℕ)} (old : List ℕ) → o ≡ None → (false ≡ fits o) × (old ≡ written o old)
declined old e = (sym (ap fits e), sym (ap (λ o. written o old) e))

-- the first of two that fits
pub or-first : (a b : Option (List ℕ)) (old new : List ℕ) → fits a ≡ true → new ≡ written a old
    → (true ≡ fits (or_else a b)) × (new ≡ written (or_else a b) old)
or-first (Some t) b old new f e = (refl, e)
or-first None b old new f e = absurd (false≢true f)

-- the second, tried on what the first left
pub or-second : (a : Option (List ℕ)) (b : ℕ → Option (List ℕ)) (old mid new : List ℕ) (r : Bool) → fits a ≡ false → mid ≡ written a old
    → r ≡ fits (b (length mid)) → new ≡ written (b (length mid)) mid
    → (r ≡ fits (or_else a (b (length old)))) × (new ≡ written (or_else a (b (length old))) old)
or-second (Some t) b old mid new r f e g h = absurd (true≢false f)
or-second None b old mid new r f e g h = (rw (← e) g, rw (← e) h)

-- the same of an entry that may be refused
pub made : {e : Entry} {t : List ℕ} (old new : List ℕ) → e ≡ agreed t → new ≡ t → (no_refusal ≡ answer_of e) × (new ≡ entered_in e old)
made old new q h = (sym (ap answer_of q), h ∙ sym (ap (λ e. entered_in e old) q))

pub turned_away : {e : Entry} {why : Unwritten} (old : List ℕ) → e ≡ refused why → (Err why ≡ answer_of e) × (old ≡ entered_in e old)
turned_away old q = (sym (ap answer_of q), sym (ap (λ e. entered_in e old) q))
