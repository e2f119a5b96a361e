-- What is found in a column is which kinds of fault it has.
use Prim.Native.Nat.{ℕ, ◌≤◌, ◌<◌}
use mathlib.Core.Path.{◌≡◌, refl, sym}
use mathlib.Core.Bool.{Bool, true, false, cond, ◌&&◌}
use mathlib.Core.List.{List}
use lib.Dec.{ltb}
use borrow.Author.Tests.{le-ltb}
use Rattle.base_digits.proofs.digits.Bools.{and_left, and_right}
use Rattle.value_text.specs.text.Texts.{printable}
use Rattle.header_check.specs.forms.Cards.{card_at, cards_in, layout_of}
use Rattle.header_check.specs.Refusing.{largest}
use Rattle.tie_rules.specs.Ties.{defines, refers}
use Rattle.tie_rules.specs.Keys.{vessel_of}
use Rattle.tie_rules.specs.packed.Rows.{row_at, definition_in, reference_in, only_defines, found_in}
use Rattle.tie_store.specs.declared.Told.{Told}
use Rattle.tie_store.specs.Store.{nothing_told, told_of}
use Rattle.tie_check.specs.declared.totals.Totals.{Totals}
use Rattle.tie_rules.proofs.keys.Table.{
  column-told,
  own_told,
  count-told,
  definition_found,
  reference_found,
  only_defining,
}
use Rattle.tie_check.specs.packed.Numbers.{number_on}
use Rattle.tie_check.specs.packed.Gathered.{gathered}
use Rattle.tie_check.specs.packed.Totals.{totals_of}
use Rattle.tie_check.specs.packed.Kinds.{broken_for, none_of}
use Rattle.tie_check.specs.packed.Asked.{times_of, broken_by, told_defined, faults_by}
use Rattle.tie_check.proofs.judging.Answered.{told_times, told-apart}
use Rattle.tie_check.proofs.judging.Defining.{not-undefined, not-ambiguous, not-contradicted, not-miscounted}
use Rattle.tie_check.proofs.judging.Rows.{number, undefined_by, redefined_by, ambiguous_by, contradicted_by_lem}
use Rattle.tie_check.proofs.judging.Stated.{miscounted_by_lem}

module _ (h : List ℕ) (few : cards_in h ≤ largest) (printed : (c : ℕ) → c < cards_in h → printable (card_at h c) ≡ true)
    (s : List ℕ) (clean : printable s ≡ true) (column : ℕ) (low : column < 256)
    (once : Bool) (unique : once ≡ true → times_of h (number_on s column) ≤ 1) where
  abbrev k : ℕ
  k = layout_of s

  abbrev row : ℕ
  row = row_at k column

  -- on a card without a key that is defined twice, a column that only defines has no fault
  spared : (once && only_defines row) ≡ true → none_of ≡ broken_for h s column
  unfolding broken_for number_on
  spared both =
      let d = only_defining k column low s refl (and_right once (only_defines row) both) in
      let single = unique (and_left once (only_defines row) both) in
      sym (rw (
        not-undefined h s column d,
        redefined_by h printed s column clean,
        le-ltb 1 _ single,
        not-ambiguous h s column d,
        not-contradicted h s column d,
        not-miscounted h s column d,
      ))

  -- elsewhere what is told decides
  abbrev reference : ℕ
  reference = found_in (reference_in row) s

  abbrev definition : ℕ
  definition = found_in (definition_in row) s

  -- nothing has to be asked of a definition there
  twice : ltb 1 (told_defined (gathered h).keys (gathered h).links once s row).times
      ≡ ltb 1 (times_of h (number h printed s column clean defines))
  unfolding told_defined nothing_told number_on
  twice = go once refl
    where
      go : (b : Bool) → once ≡ b
          → ltb 1 (cond b nothing_told (told_of (gathered h).keys (gathered h).links definition)).times
          ≡ ltb 1 (times_of h (number h printed s column clean defines))
      go true e = sym (le-ltb 1 _ (unique e))
      go false e = rw (definition_found k column low s, told_times h few (number h printed s column clean defines))

  looked : broken_by s row (vessel_of s) reference (told_of (gathered h).keys (gathered h).links reference)
      (told_defined (gathered h).keys (gathered h).links once s row) (totals_of h) ≡ broken_for h s column
  unfolding broken_by broken_for
  looked = rw (
    twice,
    reference_found k column low s,
    told_times h few (number h printed s column clean refers),
    undefined_by h printed s column clean,
    redefined_by h printed s column clean,
    ambiguous_by h printed s column clean,
    contradicted_by_lem h printed s column clean row _ (own_told k column low) (column-told k column low)
        (told-apart h few (number h printed s column clean refers) (vessel_of s)),
    miscounted_by_lem h few printed s column row (count-told k column low) (column-told k column low),
  )

  pub judged : faults_by (gathered h).keys (gathered h).links (totals_of h) once s (vessel_of s) row ≡ broken_for h s column
  unfolding faults_by
  judged = go (once && only_defines row) refl
    where
      go : (b : Bool) → (once && only_defines row) ≡ b
          → cond b none_of (broken_by s row (vessel_of s) reference (told_of (gathered h).keys (gathered h).links reference)
          (told_defined (gathered h).keys (gathered h).links once s row) (totals_of h)) ≡ broken_for h s column
      go true e = spared e
      go false e = looked

-- what the code finds
module _ (keys links : List ℕ) (totals : Totals) (once : Bool) (s : List ℕ) (vessel row : ℕ) where
  pub passed_over : (b : Bool) → b ≡ only_defines row → (once && b) ≡ true → none_of ≡ faults_by keys links totals once s vessel row
  unfolding faults_by
  passed_over b is e = rw (← is, e)

  pub looked_at : (b : Bool) (reference : ℕ) (referred defined : Told) → b ≡ only_defines row → (once && b) ≡ false
      → reference ≡ found_in (reference_in row) s → referred ≡ told_of keys links reference
      → defined ≡ told_defined keys links once s row
      → broken_by s row vessel reference referred defined totals ≡ faults_by keys links totals once s vessel row
  unfolding faults_by
  looked_at b reference referred defined is e p q t = rw (← is, e, t, q, p)
