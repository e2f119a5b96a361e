-- What each way through comparing two lines finds.
use Prim.Native.Nat.{ℕ, zero, suc, ◌+◌, ◌-◌, ◌*◌}
use mathlib.Core.Path.{◌≡◌, refl, sym, ap, ap₂, ◌∙◌}
use mathlib.Core.List.{List}
use mathlib.Core.Bool.{Bool, true, false}
use lib.ListN.{length, take, drop}
use Rattle.std.specs.List.{list_any}
use Rattle.base_lists.specs.Parts.{alike}
use Rattle.value_text.specs.text.Texts.{text_of}
use Rattle.volume_form.specs.Rows.{Row}
use Rattle.volume_form.specs.Moved.{laid_at, moved}
use Rattle.volume_form.specs.Marked.{entry_card}
use Rattle.volume_rules.specs.SameLine.{same_number, same_in, name_on, sequence_on, same_on, superseded_on}
use Rattle.volume_check.proofs.Chunks.{cards}
use Rattle.volume_edit.specs.Parts.{line_kept}
use Rattle.volume_edit.proofs.convert.Steps.{rest_all}

module _ (card other name name' : List ℕ) (t : Bool) (n : name ≡ text_of (take 16 (drop 6 card))) (n' : name' ≡ text_of (take 16 (drop 6 other)))
    (t-is : t ≡ alike name name') where
  names : alike (text_of (take 16 (drop 6 card))) (text_of (take 16 (drop 6 other))) ≡ t
  names = sym (t-is ∙ ap₂ alike n n')

  pub line_other : t ≡ false → false ≡ same_on card other
  unfolding same_on same_in name_on
  line_other e = rw (names, e)

  pub line_numbers : t ≡ true → (u : Bool) → u ≡ same_number (take 4 (drop 23 card)) (take 4 (drop 23 other)) → u ≡ same_on card other
  unfolding same_on same_in name_on sequence_on
  line_numbers e u u-is = rw (names, e) u-is

-- a line told again by one of some later directory cards
pub later_any : (c : List ℕ) (k : ℕ) (d : List ℕ) → list_any (λ other. same_on c other) (cards k d) ≡ superseded_on c d k
unfolding cards superseded_on
later_any c zero d = refl
later_any c (suc k) d = rw (later_any c k (drop 80 d))

-- a line that is kept
pub kept-written : (f : Row) (s u v e : List ℕ) (at to n card : ℕ) → u ≡ moved s (80 * at) (80 * to) (80 * n)
    → e ≡ entry_card f (take (length u - 80 * to) (drop (80 * to) u)) (1 + to) n → v ≡ laid_at u (80 * card) e → v ≡ line_kept f at to n card s
unfolding line_kept
kept-written f s u v e at to n card u-is e-is v-is =
    v-is ∙ ap (laid_at u (80 * card)) (e-is ∙ ap (λ l. entry_card f l (1 + to) n) (rest_all u (80 * to)))
    ∙ ap (λ l. laid_at l (80 * card) (entry_card f (drop (80 * to) l) (1 + to) n)) u-is

-- the three writings that close a compacted volume
pub closed_written : (s u w r c c' z : List ℕ) (p q to : ℕ) → c ≡ c' → u ≡ moved s p to q → (m e : ℕ) → w ≡ laid_at u m c → r ≡ laid_at w e z
    → r ≡ laid_at (laid_at (moved s p to q) m c') e z
closed_written s u w r c c' z p q to c-is u-is m e w-is r-is =
    r-is ∙ ap (λ l. laid_at l e z) (w-is ∙ ap₂ (λ a b. laid_at a m b) u-is c-is)
