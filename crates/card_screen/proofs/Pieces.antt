-- A `for` over the whole pieces of a list, of w elements each, with their numbers: `chunks_exact(w).enumerate()`.
use Prim.Native.Nat.{ℕ, zero, suc, ◌+◌, ◌*◌, ◌/◌, ◌<◌}
use mathlib.Core.Path.{◌≡◌, refl, sym, ap, ap₂, ◌∙◌, subst}
use mathlib.Core.List.{List, [], ◌∷◌, ◌++◌}
use native.Mathlib.Omega.{arith}
use native.Mathlib.Nat.{zero-add, zero-mul, div-eq_of_lt, add-div_left, add_comm, suc-mul}
use native.Mathlib.Numerals.{add-one}
use lib.ListN.{length, get_or, take, drop, length-append}
use lib.Seq.{take-append_seam, drop-append_seam, drop-drop}
use denote.Ref.{Bor}
use Rattle.std.specs.Prelude.{Option, None, Some}
use Rattle.std.specs.declared.slice.ChunksExact.{ChunksExact}
use Rattle.std.specs.declared.iter.Enumerate.{Enumerate}
use Rattle.std.specs.Slice.Iter.{chunks_exact_rest, chunks_exact_size, chunks_exact_steps}
use Rattle.std.specs.Iterator.{Yields}
use Rattle.std.specs.Iterator.Adapters.{enumerate_source, enumerate_count, enumerate_steps}
use Rattle.std.specs.List.{enumerate_from}
use Rattle.std.proofs.lemmas.Iterator.{YieldsList}
use Rattle.std.proofs.lemmas.Iterator.Splits.{YieldsList-from_shown_while}
use Rattle.std.proofs.lemmas.Iterator.Consumers.{YieldsList-from_enumerate, YieldsList-turn, YieldsList-end}
use Rattle.std.proofs.lemmas.List.FromFn.{length-enumerate_from, get_or-enumerate_from}

-- the first n pieces
abbrev pub pieces : {A : Type 0} → ℕ → ℕ → List A → List (List A)
pieces w zero xs = []
pieces w (suc n) xs = take w xs ∷ pieces w n (drop w xs)

module _ {A : Type 0} where
  length-pieces : (w n : ℕ) (xs : List A) → length (pieces w n xs) ≡ n
  length-pieces w zero xs = refl
  length-pieces w (suc n) xs = ap suc (length-pieces w n (drop w xs))

  get_or-pieces : (w n k : ℕ) (xs d : List A) → k < n → get_or (pieces w n xs) k d ≡ take w (drop (k * w) xs)
  get_or-pieces w zero k xs d h = absurd (omega arith)
  get_or-pieces w (suc n) zero xs d h = rw zero-mul refl
  get_or-pieces w (suc n) (suc k) xs d h =
      get_or-pieces w n k (drop w xs) d (omega arith)
      ∙ ap (take w) (drop-drop (k * w) w xs ∙ ap (λ j. drop j xs) (add_comm w (k * w) ∙ sym (suc-mul k w)))

module _ {A : Type 0} (w : ℕ) (some : 0 < w) where
  whole : List A → List (List A)
  whole xs = pieces w (length xs / w) xs

  one_less : (x ys : List A) → length x ≡ w → whole (x ++ ys) ≡ x ∷ whole ys
  unfolding whole
  one_less x ys e =
      let n : length (x ++ ys) / w ≡ suc (length ys / w) =
      ap (λ n. n / w) (length-append x ys ∙ ap (λ n. n + length ys) e) ∙ add-div_left (length ys) some ∙ add-one (length ys / w) in
      ap (λ n. pieces w n (x ++ ys)) n
      ∙ ap₂ (λ (y : List A) (zs : List A). y ∷ pieces w (length ys / w) zs)
      (ap (λ n. take n (x ++ ys)) (sym e) ∙ take-append_seam x ys) (ap (λ n. drop n (x ++ ys)) (sym e) ∙ drop-append_seam x ys)

  shown : ChunksExact A → List (List A)
  shown s = whole (chunks_exact_rest s)

  from_pieces : (s : ChunksExact A) → chunks_exact_size s ≡ w → YieldsList chunks_exact_steps (λ (y : Bor (List A)). y.now) s (shown s)
  unfolding shown whole
  from_pieces s e = YieldsList-from_shown_while chunks_exact_steps (λ (y : Bor (List A)). y.now) shown (λ s. chunks_exact_size s ≡ w)
      (λ s t e h. length-pieces w _ (chunks_exact_rest s) ∙ div-eq_of_lt (subst (λ n. length (chunks_exact_rest s) < n) e h.1.0))
      (λ s x t e h. (h.0 ∙ e, ap whole h.1.0 ∙ one_less x.now (chunks_exact_rest t) (h.1.1 ∙ e))) s e

  -- one turn, and the end
  module _ (s : Enumerate (ChunksExact A)) (xs : List A) (rest : chunks_exact_rest (enumerate_source s) ≡ xs)
      (size : chunks_exact_size (enumerate_source s) ≡ w) (start : enumerate_count s ≡ 0)
      (ys : List (ℕ × Bor (List A))) (t : Enumerate (ChunksExact A)) (y : Yields (enumerate_steps chunks_exact_steps) s ys t)
      (r : Option (ℕ × Bor (List A))) (u : Enumerate (ChunksExact A)) (step : enumerate_steps chunks_exact_steps t r u) where
    numbered : YieldsList (enumerate_steps chunks_exact_steps) (λ (p : ℕ × Bor (List A)). (p.0, p.1.now)) s (enumerate_from 0 (whole xs))
    unfolding shown
    numbered = YieldsList-from_enumerate (subst (λ l. YieldsList chunks_exact_steps (λ (y : Bor (List A)). y.now) (enumerate_source s) (whole l)) rest (from_pieces (enumerate_source s) size)) start

    pub turn : (x : ℕ × Bor (List A)) → r ≡ Some x
        → (length ys < length xs / w) × (x.0 ≡ length ys) × (x.1.now ≡ take w (drop (length ys * w) xs))
    unfolding whole
    turn x e =
        let h = YieldsList-turn numbered ys t y r u x e step in
        let n : length ys < length (whole xs) = subst (λ n. length ys < n) (length-enumerate_from 0 (whole xs)) h.0 in
        let m : length ys < length xs / w = subst (λ n. length ys < n) (length-pieces w (length xs / w) xs) n in
        let q = h.1 ∙ get_or-enumerate_from 0 (whole xs) (length ys) (x.0, x.1.now) n in
        (m, ap (λ p. p.0) q ∙ zero-add (length ys), ap (λ p. p.1) q ∙ get_or-pieces w (length xs / w) (length ys) xs x.1.now m)

    pub at_end : r ≡ None → length ys ≡ length xs / w
    unfolding whole
    at_end e =
        (YieldsList-end numbered ys t y r u e step).1 ∙ length-enumerate_from 0 (whole xs) ∙ length-pieces w (length xs / w) xs
