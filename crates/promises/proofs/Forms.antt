-- Both forms of a volume, and which lines compacting keeps.
use Prim.Native.Nat.{ℕ, ◌-◌, ◌*◌, ◌≤◌}
use native.Mathlib.Omega.{arith}
use mathlib.Core.Path.{◌≡◌, refl, sym, ap, ◌∙◌}
use mathlib.Core.Bool.{Bool, true, false, not, cond}
use mathlib.Core.List.{List, [], ◌∷◌, ◌++◌}
use lib.ListN.{take, drop, length-drop, take-append-drop}
use lib.Seq.{take-take, take-append-le, drop-append-le}
use borrow.Author.Tests.{le-leb}
use Rattle.base_lists.specs.Parts.{alike, keep}
use Rattle.header_check.specs.forms.Cards.{cards_in}
use Rattle.volume_form.specs.declared.Form.{Form}
use Rattle.volume_form.specs.declared.Form.TheVariants.{Old, Wide}
use Rattle.volume_form.specs.Rows.{row_of}
use Rattle.volume_form.proofs.Cards.{good_row, code-trailer}
use Rattle.volume_rules.specs.Sound.{last_card}
use Rattle.volume_rules.specs.Judged.{Holds, Accepteds, form_in}
use Rattle.volume_rules.specs.Converted.{few, holds}
use Rattle.volume_rules.specs.Latest.{superseded, latest}
use Rattle.volume_rules.proofs.Exactly.{pointed}
use Rattle.volume_rules.proofs.Judging.{sounds, volume_accepted, header_taken}

by_code : (form : Form) (code : List ℕ) → code ≡ (row_of form).trailer → cond (alike code (row_of Wide).trailer) Wide Old ≡ form
unfolding row_of alike
by_code Old code e = ap (λ c. cond (alike c (row_of Wide).trailer) Wide Old) e
by_code Wide code e = ap (λ c. cond (alike c (row_of Wide).trailer) Wide Old) e

-- the code of the last card tells the form
pub form-told : (form : Form) (n : ℕ) (buffer : List ℕ) (hs : List (List ℕ)) → Holds (row_of form) n buffer hs → form_in n buffer ≡ form
unfolding form_in last_card
form-told form n buffer hs is =
    let s = sounds (row_of form) (good_row form) n buffer (volume_accepted (row_of form) (good_row form) n buffer hs is) in
    let v : List ℕ = take (80 * n) buffer in
    let some : 1 ≤ n = s.stated_well.some in
    let p : ℕ = 80 * (n - 1) in
    let five : take 5 (drop p buffer) ≡ take 5 (take 80 (drop p v)) =
    ap (λ l. take 5 (drop p l)) (sym (take-append-drop (80 * n) buffer))
    ∙ ap (take 5) (drop-append-le p v (drop (80 * n) buffer) (omega (arith, s.long)))
    ∙ take-append-le 5 (drop p v) (drop (80 * n) buffer) (rw length-drop (omega (arith, s.long)))
    ∙ sym (take-take 5 80 (drop p v) (omega arith)) in
    let card = (pointed (row_of form) n (take 80 (drop p v)) s.points_well).is in
    let code : take 5 (drop p buffer) ≡ (row_of form).trailer = five ∙ ap (take 5) card ∙ code-trailer (row_of form) (good_row form) _ _ in
    rw (le-leb 1 n some, le-leb n (cards_in buffer) s.stated_well.held) (by_code form (take 5 (drop p buffer)) code)

-- the wide form holds every old volume
few_wide : (hs : List (List ℕ)) → Accepteds (row_of Old) hs → few 4096 hs ≡ true
unfolding few row_of
few_wide [] a = refl
few_wide (h ∷ hs) a =
    let l : cards_in h ≤ 800 = (header_taken (row_of Old) h a.0).few in
    rw (le-leb (cards_in h) 4096 (omega arith)) (few_wide hs a.1)

pub old_held : (n : ℕ) (buffer : List ℕ) (hs : List (List ℕ)) → Holds (row_of Old) n buffer hs → holds (row_of Wide) n hs ≡ true
unfolding holds row_of
old_held n buffer hs is =
    let l : n ≤ 999 = is.few in
    rw (le-leb n 20000 (omega arith)) (few_wide hs is.accepted)

-- a line is kept exactly if no later one is the same: the lines before it change nothing of what is kept from it on
pub record KeptFrom (same : List ℕ → List ℕ → Bool) (all : List (List ℕ)) (h : List ℕ) (hs : List (List ℕ)) : Type 0 where
  pub front : List (List ℕ)
  pub is : all ≡ front ++ keep (not (superseded same h hs)) h (latest same hs)

pub kept_from : (same : List ℕ → List ℕ → Bool) (gs : List (List ℕ)) (h : List ℕ) (hs : List (List ℕ))
    → KeptFrom same (latest same (gs ++ (h ∷ hs))) h hs
unfolding latest
kept_from same [] h hs = record { front = []; is = refl }
kept_from same (g ∷ gs) h hs = go (not (superseded same g (gs ++ (h ∷ hs)))) (kept_from same gs h hs)
  where
    go : (t : Bool) → KeptFrom same (latest same (gs ++ (h ∷ hs))) h hs → KeptFrom same (keep t g (latest same (gs ++ (h ∷ hs)))) h hs
    go true r = record { front = g ∷ r.front; is = ap (λ l. g ∷ l) r.is }
    go false r = r
