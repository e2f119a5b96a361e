-- Which lines are superseded, and how large they are, is told by their directory cards.
use Prim.Native.Nat.{ℕ, zero, suc, ◌+◌, ◌*◌, ◌≤◌}
use native.Mathlib.Omega.{arith}
use mathlib.Core.Path.{◌≡◌, refl, sym, ap, ap₂, ◌∙◌}
use mathlib.Core.Bool.{true, ◌&&◌, ◌||◌}
use mathlib.Core.List.{List}
use lib.ListN.{length, take, drop, take-append-drop}
use lib.Dec.{leb}
use lib.Seq.{length-take-le}
use Rattle.base_digits.proofs.digits.Bools.{and_left, and_right}
use Rattle.volume_form.specs.Rows.{Row}
use Rattle.volume_form.specs.Marked.{entry_card, count_on}
use Rattle.volume_form.proofs.Cards.{Good, entry_longer, name_entry, sequence_entry}
use Rattle.volume_rules.specs.Sound.{enters, covers, headers_in}
use Rattle.volume_rules.specs.Latest.{superseded}
use Rattle.volume_rules.specs.SameLine.{same_line, name_on, sequence_on, same_on, superseded_on}
use Rattle.header_check.specs.forms.Cards.{cards_in}
use Rattle.volume_rules.specs.Converted.{few, few_on}
use Rattle.volume_rules.proofs.Covering.{cards_of_lem, Entered, entered}

-- the directory cards of two headers are of the same line exactly if the headers are
same_on_lem : (f : Row) (good : Good f) (h g : List ℕ) (at n at' n' : ℕ) → 80 ≤ length h → 80 ≤ length g
    → same_on (entry_card f h at n) (entry_card f g at' n') ≡ same_line h g
unfolding same_on same_line name_on sequence_on
same_on_lem f good h g at n at' n' l m =
    rw (name_entry f good h at n l, sequence_entry f good h at n l, name_entry f good g at' n' m, sequence_entry f good g at' n' m)

-- the header that a directory card tells
pub entered-header : (f : Row) (at n : ℕ) (b card : List ℕ) → Entered f at n b card → card ≡ entry_card f (take (80 * n) b) at n
entered-header f at n b card x =
    let h : List ℕ = take (80 * n) b in
    let l : length h ≡ 80 * n = length-take-le (80 * n) b x.within in
    x.is ∙ ap (λ l. entry_card f l at n) (sym (take-append-drop (80 * n) b)) ∙ entry_longer f h (drop (80 * n) b) at n (omega (arith, x.some))

-- the header h is superseded by one of those that a directory tells exactly if its card is by one of the directory's
pub superseded-told : (f : Row) (good : Good f) (h : List ℕ) (at₀ n₀ : ℕ) → 80 ≤ length h
    → (at : ℕ) (b d : List ℕ) (k : ℕ) → covers f at b d k ≡ true
    → superseded_on (entry_card f h at₀ n₀) d k ≡ superseded same_line h (headers_in f b d k)
unfolding covers headers_in superseded superseded_on
superseded-told f good h at₀ n₀ l at b d zero e = refl
superseded-told f good h at₀ n₀ l at b d (suc k) e =
    let card : List ℕ = take 80 d in
    let n : ℕ = count_on f card in
    let x = entered f at b card (and_left (enters f at b card) _ e) in
    let g-long : length (take (80 * n) b) ≡ 80 * n = length-take-le (80 * n) b x.within in
    let one : same_on (entry_card f h at₀ n₀) card ≡ same_line h (take (80 * n) b) =
    ap (same_on (entry_card f h at₀ n₀)) (entered-header f at n b card x) ∙ same_on_lem f good h (take (80 * n) b) at₀ n₀ at n l (omega (arith, x.some)) in
    ap₂ ◌||◌ one (superseded-told f good h at₀ n₀ l (at + n) (drop (80 * n) b) (drop 80 d) k (and_right (enters f at b card) _ e))

-- how large the headers are
pub few-told : (f : Row) (m at : ℕ) (b d : List ℕ) (k : ℕ) → covers f at b d k ≡ true → few_on f m d k ≡ few m (headers_in f b d k)
unfolding covers headers_in few few_on
few-told f m at b d zero e = refl
few-told f m at b d (suc k) e =
    let card : List ℕ = take 80 d in
    let n : ℕ = count_on f card in
    let x = entered f at b card (and_left (enters f at b card) _ e) in
    let c : cards_in (take (80 * n) b) ≡ n = cards_of_lem (take (80 * n) b) n (length-take-le (80 * n) b x.within) in
    ap₂ (λ u v. leb u m && v) (sym c) (few-told f m (at + n) (drop (80 * n) b) (drop 80 d) k (and_right (enters f at b card) _ e))
