-- What is told of a list that holds the first entries is what is told of all of them.
use Prim.Native.Nat.{ℕ, zero, suc, ◌+◌, ◌*◌, ◌/◌, ◌<◌, min}
use native.Mathlib.Omega.{arith}
use mathlib.Core.Path.{◌≡◌, refl, ap, ap₂, ◌∙◌}
use mathlib.Core.List.{List, ◌++◌}
use lib.ListN.{length, get_or, length-map}
use Rattle.base_lists.specs.Laid.{laid, fitting}
use Rattle.base_lists.proofs.Laying.{laid_at_lem, length-laid}
use Rattle.base_refusal.specs.declared.Refusal.{Refusal}
use Rattle.tie_rules.specs.Faults.{faults, entry_size, entry_of, entries}
use Rattle.tie_laws.proofs.Complete.{whole-entries}
use Rattle.tie_check.specs.Answer.{answer_for, list_for}
use Rattle.crew_answer.specs.Answer.{program_refusal, answer_of, answer_to}
use Rattle.crew_answer.specs.lines.Text.{refused_text, count_text, entry_at, entries_text, most, told, broken_text}
use Rattle.std.specs.Prelude.{Result, Ok, Err, ⊤}

entry_same : (l m : List ℕ) (i : ℕ) → ((j : ℕ) → j < entry_size * i + entry_size → get_or l j 0 ≡ get_or m j 0) → entry_at l i ≡ entry_at m i
unfolding entry_at
entry_same l m i h = rw (
  h (entry_size * i + 0) (omega arith),
  h (entry_size * i + 1) (omega arith),
  h (entry_size * i + 2) (omega arith),
  h (entry_size * i + 3) (omega arith),
)

entries_same : (l m : List ℕ) (k : ℕ) → ((j : ℕ) → j < entry_size * k → get_or l j 0 ≡ get_or m j 0) → entries_text l k ≡ entries_text m k
unfolding entries_text
entries_same l m zero h = refl
entries_same l m (suc k) h =
    ap₂ (λ (s t : List ℕ). s ++ t) (entries_same l m k (λ j n. h j (omega arith))) (entry_same l m k (λ j n. h j (omega arith)))

-- n entries, laid into a list with room for as many as are told
pub told-alike : (l w : List ℕ) (n : ℕ) → length l ≡ most * entry_size → length w ≡ entry_size * n → broken_text n (laid entry_size l w) ≡ broken_text n w
unfolding broken_text told fitting
told-alike l w n room size =
    let a : length (laid entry_size l w) / entry_size ≡ most = omega (arith, length-laid entry_size l w) in
    let b : length w / entry_size ≡ n = omega arith in
    let p : min (min n most) most ≡ min n most = omega arith in
    let q : min (min n most) n ≡ min n most = omega arith in
    rw (a, b, p, q) (ap (λ t. count_text n ++ t) (entries_same (laid entry_size l w) w (min n most) (λ j h. laid_at_lem entry_size l w j 0 (within j h))))
  where
    within : (j : ℕ) → j < entry_size * min n most → j < fitting entry_size l w
    within j h = omega arith

module _ (h : List ℕ) (t : Result ℕ Refusal) (is : t ≡ answer_for (program_refusal h) (length (faults h))) where
  -- the check found n faults
  pub told-found : (n : ℕ) (l m : List ℕ) → length l ≡ most * entry_size → m ≡ list_for (program_refusal h) l (entries h) → t ≡ Ok n
      → broken_text n m ≡ answer_to h
  unfolding answer_to answer_for list_for answer_of
  told-found n l m room laid-there found = go (program_refusal h) is laid-there
    where
      go : (x : Result ⊤ Refusal) → t ≡ answer_for x (length (faults h)) → m ≡ list_for x l (entries h) → broken_text n m ≡ answer_of x (length (faults h)) (entries h)
      go (Ok _) e q =
          let k : n ≡ length (faults h) = cc (e, found) in
          rw (q, k)
          (told-alike l (entries h) (length (faults h)) room (whole-entries h ∙ ap (λ s. entry_size * s) (length-map (faults h) (entry_of h))))
      go (Err r) e q = cc (e, found)

  -- the check refused the header
  pub told-refused : (r : Refusal) → t ≡ Err r → refused_text r.number r.card r.column ≡ answer_to h
  unfolding answer_to answer_for answer_of
  told-refused r refused = go (program_refusal h) is
    where
      go : (x : Result ⊤ Refusal) → t ≡ answer_for x (length (faults h)) → refused_text r.number r.card r.column ≡ answer_of x (length (faults h)) (entries h)
      go (Ok _) e = cc (e, refused)
      go (Err x) e = let q : r ≡ x = cc (e, refused) in rw q
