-- What the walk over a directory knows.
use Prim.Native.Nat.{ℕ, ◌+◌, ◌-◌, ◌*◌, ◌/◌, ◌≤◌, ◌<◌}
use native.Mathlib.Omega.{arith}
use mathlib.Core.Path.{◌≡◌, refl, sym, ap, ◌∙◌}
use mathlib.Core.Bool.{Bool, true, false, ◌&&◌, cond}
use mathlib.Core.List.{List, ◌++◌}
use lib.Dec.{eqb, leb}
use lib.ListN.{length, take, drop, length-drop}
use lib.Seq.{take_all}
use borrow.Author.Tests.{le-leb, lt-leb, leb-true}
use Rattle.std.specs.Prelude.{unwrap_or}
use Rattle.std.specs.Bool.{then_some}
use Rattle.std.specs.Str.{bytes_eq}
use Rattle.base_lists.specs.Parts.{alike}
use Rattle.volume_form.specs.Rows.{Row}
use Rattle.volume_form.specs.Marked.{entry_card, count_on}
use Rattle.volume_rules.specs.Sound.{enters, covers}
use Rattle.volume_check.specs.Steps.{entered}
use Rattle.volume_check.proofs.Chunks.{first_card, other_cards, one_more}
use Rattle.volume_check.proofs.Comparing.{equals_as}

-- one directory card
module _ (f : Row) (at : ℕ) (b card : List ℕ) where
  pub enters_none : count_on f card ≡ 0 → entered f at b card ≡ 0
  unfolding entered enters
  enters_none e = rw e

  pub enters_long : length b / 80 < count_on f card → entered f at b card ≡ 0
  unfolding entered enters
  enters_long h =
      let q : leb (80 * count_on f card) (length b) ≡ false = lt-leb (80 * count_on f card) (length b) (omega arith) in
      let p : leb 1 (count_on f card) ≡ true = le-leb 1 (count_on f card) (omega arith) in
      rw (p, q)

  module _ (some : count_on f card ≡ 0 → ⊥) (within : count_on f card ≤ length b / 80) where
    pub enters_is : enters f at b card ≡ alike card (entry_card f b at (count_on f card))
    unfolding enters
    enters_is =
        let p : leb 1 (count_on f card) ≡ true = le-leb 1 (count_on f card) (omega arith) in
        let q : leb (80 * count_on f card) (length b) ≡ true = le-leb (80 * count_on f card) (length b) (omega arith) in
        rw (p, q)

-- a step answers 0 exactly where the card is not the one
entered-zero : (f : Row) (at : ℕ) (b card : List ℕ) → entered f at b card ≡ 0 → enters f at b card ≡ false
unfolding entered enters
entered-zero f at b card e = go (leb 1 (count_on f card)) refl (leb (80 * count_on f card) (length b) && alike card (entry_card f b at (count_on f card))) e
  where
    go : (x : Bool) → leb 1 (count_on f card) ≡ x → (y : Bool) → cond (x && y) (count_on f card) 0 ≡ 0 → (x && y) ≡ false
    go false q y h = refl
    go true q false h = refl
    go true q true h = absurd (omega (arith, leb-true 1 (count_on f card) q))

record Told (f : Row) (at n : ℕ) (b card : List ℕ) : Type 0 where
  pub is : enters f at b card ≡ true
  pub count : count_on f card ≡ n

entered-some : (f : Row) (at n : ℕ) (b card : List ℕ) → entered f at b card ≡ n → (n ≡ 0 → ⊥) → Told f at n b card
unfolding entered enters
entered-some f at n b card e h =
    go (leb 1 (count_on f card)) (leb (80 * count_on f card) (length b)) refl (alike card (entry_card f b at (count_on f card))) refl refl e
  where
    go : (x y : Bool) → leb (80 * count_on f card) (length b) ≡ y → (z : Bool) → alike card (entry_card f b at (count_on f card)) ≡ z → leb 1 (count_on f card) ≡ x
        → cond (x && (y && z)) (count_on f card) 0 ≡ n → Told f at n b card
    go true true q true r p g =
        record { is = rw (p, q, r); count = g }
    go false y q z r p g = absurd (h (sym g))
    go true false q z r p g = absurd (h (sym g))
    go true true q false r p g = absurd (h (sym g))

-- the directory card in front of others
module _ (f : Row) (at n : ℕ) (b d card e : List ℕ) (is : d ≡ card ++ e) (long : length card ≡ 80) (x : n ≡ entered f at b card) where
  pub covers_stops : n ≡ 0 → covers f at b d (length d / 80) ≡ false
  unfolding covers
  covers_stops z = rw (one_more d card e is long, ← first_card d card e is long, entered-zero f at b card (sym x ∙ z))

  module _ (some : n ≡ 0 → ⊥) where
    t : Told f at n b card
    t = entered-some f at n b card (sym x) some

    pub covers_goes : (b' : List ℕ) → b' ≡ take (length b - 80 * n) (drop (80 * n) b)
        → covers f at b d (length d / 80) ≡ covers f (at + n) b' e (length e / 80)
    unfolding covers
    covers_goes b' h =
        let rest : b' ≡ drop (80 * n) b = h ∙ take_all (length b - 80 * n) (drop (80 * n) b) (rw length-drop (omega arith)) in
        rw (one_more d card e is long, ← first_card d card e is long, ← other_cards d card e is long, t.is, t.count, rest)

pub covers-ends : (f : Row) (at : ℕ) (b d : List ℕ) → length d < 80 → covers f at b d (length d / 80) ≡ eqb (length b) 0
unfolding covers
covers-ends f at b d h = let z : length d / 80 ≡ 0 = omega arith in rw z

-- what a step answers, by its tests
module _ (f : Row) (at n : ℕ) (b card : List ℕ) (is : n ≡ count_on f card) where
  pub step-none : n ≡ 0 → 0 ≡ entered f at b card
  step-none z = sym (enters_none f at b card (sym is ∙ z))

  pub step_long : length b / 80 < n → 0 ≡ entered f at b card
  step_long h = sym (enters_long f at b card (omega arith))

  module _ (some : n ≡ 0 → ⊥) (within : n ≤ length b / 80) (x : List ℕ) (built : x ≡ entry_card f b at n) where
    pub step_told : (r : Bool) → r ≡ bytes_eq card x → unwrap_or (then_some r n) 0 ≡ entered f at b card
    unfolding entered
    step_told r told =
        let e : r ≡ enters f at b card =
        told ∙ equals_as card x ∙ ap (alike card) (built ∙ ap (entry_card f b at) is) ∙ sym (enters_is f at b card (λ z. some (is ∙ z)) (omega arith)) in
        ap (λ r. unwrap_or (then_some r n) 0) e ∙ picked (enters f at b card) ∙ ap (λ m. cond (enters f at b card) m 0) is
      where
        picked : (r : Bool) → unwrap_or (then_some r n) 0 ≡ cond r n 0
        picked true = refl
        picked false = refl
