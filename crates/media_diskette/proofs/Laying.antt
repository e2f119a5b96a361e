-- Texts laid into the output one behind the other.
use Prim.Native.Nat.{ℕ, suc, ◌+◌, ◌-◌, ◌≤◌}
use native.Mathlib.Nat.{add-zero}
use native.Mathlib.Omega.{arith}
use mathlib.Core.Path.{◌≡◌, refl, sym, ap, ap₂, ◌∙◌}
use mathlib.Core.List.{List, [], ◌∷◌, ◌++◌, append_assoc}
use lib.ListN.{length, get_or, take, drop, set, replicate, length-append, length-drop, take-append-drop}
use lib.Seq.{drop-cons, set-append_seam, set_at, take_all, take_at, drop-append-add, drop-drop, length-take-le}
use borrow.Rule.Slice.PartMut.{put_mid, Post-is}
use Rattle.base_digits.proofs.digits.Parts.{put_rest}
use Rattle.value_text.specs.text.Texts.{text_of}
use Rattle.media_diskette.specs.Lines.{line_of, padded}

-- s with t laid at a place
unfoldable pub laid_at : List ℕ → ℕ → List ℕ → List ℕ
laid_at s at t = take at s ++ (t ++ drop (at + length t) s)

-- a part that was lent from a place on, with t laid to its front
pub put_front : (at n : ℕ) (s t u : List ℕ) → n ≡ length t → u ≡ t ++ drop n (take (length s - at) (drop at s))
    → put_mid at (length s - at) s u ≡ laid_at s at t
unfolding laid_at
put_front at n s t u q e =
    put_rest at s u
    ∙ ap (λ (l : List ℕ). take at s ++ l)
    (e
    ∙ ap (λ (l : List ℕ). t ++ l)
    (ap₂ (λ m (l : List ℕ). drop m l) q (take_all (length s - at) (drop at s) (rw length-drop (omega arith)))
    ∙ drop-drop (length t) at s))

-- one text behind another
pub laid-behind : (s : List ℕ) (at : ℕ) (c t : List ℕ) → at + length c ≤ length s
    → laid_at (laid_at s at c) (at + length c) t ≡ laid_at s at (c ++ t)
unfolding laid_at
laid-behind s at c t h =
    let p : List ℕ = take at s ++ c in
    let d : List ℕ = drop (at + length c) s in
    let size : length p ≡ at + length c = length-append (take at s) c ∙ ap (λ n. n + length c) (length-take-le at s (omega arith)) in
    let both : at + length c + length t ≡ at + length (c ++ t) = omega (arith, length-append c t) in
    let whole : take at s ++ (c ++ d) ≡ p ++ d = sym (append_assoc (take at s) c d) in
    ap₂ (λ (x y : List ℕ). x ++ (t ++ y))
    (ap (take (at + length c)) whole ∙ take_at p d (at + length c) size)
    (ap (drop (at + length c + length t)) whole
    ∙ ap (λ n. drop (n + length t) (p ++ d)) (sym size)
    ∙ drop-append-add p d (length t)
    ∙ drop-drop (length t) (at + length c) s
    ∙ ap (λ n. drop n s) both)
    ∙ append_assoc (take at s) c (t ++ drop (at + length (c ++ t)) s)
    ∙ ap (λ (l : List ℕ). take at s ++ l) (sym (append_assoc c t (drop (at + length (c ++ t)) s)))

pub laid-length : (s : List ℕ) (at : ℕ) (t : List ℕ) → at + length t ≤ length s → length (laid_at s at t) ≡ length s
unfolding laid_at
laid-length s at t h =
    rw (length-append, length-append, length-take-le at s (omega arith), length-drop) (omega arith)

-- nothing laid
pub laid_none : (s : List ℕ) (at : ℕ) → laid_at s at [] ≡ s
unfolding laid_at
laid_none s at = rw (add-zero at) (take-append-drop at s)

-- CR LF behind a text that was copied to the front
pub ended : (t d l : List ℕ) → length t + 2 ≤ length d → l ≡ t ++ drop (length t) d
    → set (set l (length t) 13) (length t + 1) 10 ≡ (t ++ (13 ∷ 10 ∷ [])) ++ drop (length (t ++ (13 ∷ 10 ∷ []))) d
ended t d l h e =
    let n : ℕ = length t in
    let x : ℕ = get_or d n 0 in
    let y : ℕ = get_or d (suc n) 0 in
    let r : List ℕ = drop (suc (suc n)) d in
    let two : drop n d ≡ x ∷ y ∷ r =
    drop-cons d n 0 (omega arith) ∙ ap (λ (z : List ℕ). x ∷ z) (drop-cons d (suc n) 0 (omega arith)) in
    let size : length (t ++ (13 ∷ [])) ≡ n + 1 = length-append t (13 ∷ []) in
    let whole : suc (suc n) ≡ length (t ++ (13 ∷ 10 ∷ [])) = omega (arith, length-append t (13 ∷ 10 ∷ [])) in
    ap (λ (z : List ℕ). set (set z n 13) (n + 1) 10) (e ∙ ap (λ (z : List ℕ). t ++ z) two)
    ∙ ap (λ (z : List ℕ). set z (n + 1) 10) (set-append_seam t x (y ∷ r) 13 ∙ sym (append_assoc t (13 ∷ []) (y ∷ r)))
    ∙ set_at (t ++ (13 ∷ [])) y r 10 (n + 1) size
    ∙ append_assoc t (13 ∷ []) (10 ∷ r)
    ∙ sym (append_assoc t (13 ∷ 10 ∷ []) r)
    ∙ ap (λ m. (t ++ (13 ∷ 10 ∷ [])) ++ drop m d) whole

-- a line is its text and two bytes more
pub text_two : (card : List ℕ) → length (line_of card) ≡ length (text_of card) + 2
unfolding line_of
text_two card = length-append (text_of card) (13 ∷ 10 ∷ [])

pub line-laid : (card d t l : List ℕ) → t ≡ text_of card → length (line_of card) ≤ length d → l ≡ t ++ drop (length t) d
    → (length t + 2 ≡ length (line_of card)) × (set (set l (length t) 13) (length t + 1) 10 ≡ line_of card ++ drop (length (line_of card)) d)
unfolding line_of
line-laid card d t l q h e =
    let n : length t + 2 ≡ length (line_of card) = omega (arith, ap length q, text_two card) in
    (n, ended t d l (omega arith) e ∙ ap (λ (x : List ℕ). (x ++ (13 ∷ 10 ∷ [])) ++ drop (length (x ++ (13 ∷ 10 ∷ []))) d) q)

-- blanks behind a line that was copied to the front, up to 80
pub blanked : (t d l u : List ℕ) (n : ℕ) → n ≡ length t → n ≤ 80 → 80 ≤ length d → l ≡ t ++ drop (length t) d
    → u ≡ replicate (length (take (80 - n) (drop n l))) 32 → put_mid n (80 - n) l u ≡ padded t ++ drop 80 d
unfolding padded
blanked t d l u n q h w e f =
    let front : take n l ≡ t = ap (take n) e ∙ take_at t (drop (length t) d) n (sym q) in
    let size : length l ≡ length d =
    ap length e ∙ length-append t (drop (length t) d) ∙ rw (length-drop (length t) d) (omega arith) in
    let wide : length (take (80 - n) (drop n l)) ≡ 80 - length t =
    length-take-le (80 - n) (drop n l) (rw length-drop (omega arith)) ∙ ap (λ m. 80 - m) q in
    let up : length t + (80 - length t) ≡ 80 = omega arith in
    let back : drop 80 l ≡ drop 80 d =
    ap (drop 80) e ∙ ap (λ m. drop m (t ++ drop (length t) d)) (sym up) ∙ drop-append-add t (drop (length t) d) (80 - length t)
    ∙ drop-drop (80 - length t) (length t) d ∙ ap (λ m. drop m d) up in
    ap₂ (λ (x y : List ℕ). x ++ (u ++ y)) front (Post-is n 80 l h ∙ back)
    ∙ ap (λ (x : List ℕ). t ++ (x ++ drop 80 d)) (f ∙ ap (λ m. replicate {A = ℕ} m 32) wide)
    ∙ sym (append_assoc t (replicate (80 - length t) 32) (drop 80 d))

-- a text laid to the front
pub laid_first : (s t : List ℕ) → laid_at s 0 t ≡ t ++ drop (length t) s
unfolding laid_at
laid_first s t = let z : 0 + length t ≡ length t = omega arith in ap (λ n. t ++ drop n s) z

-- the part of the output from a place on has room for a line
pub part_room : (d line : List ℕ) (at : ℕ) → at + length line ≤ length d → length line ≤ length (take (length d - at) (drop at d))
part_room d line at h = rw (take_all (length d - at) (drop at d) (rw length-drop (omega arith)), length-drop) (omega arith)

-- a line laid there, with others to come behind it
module _ (d u line more : List ℕ) (at r : ℕ) (room : at + length (line ++ more) ≤ length d) (q : r ≡ length line)
    (e : u ≡ line ++ drop (length line) (take (length d - at) (drop at d))) where
  fits : at + length line + length more ≤ length d
  fits = omega (arith, length-append line more)

  one_laid : put_mid at (length d - at) d u ≡ laid_at d at line
  one_laid = put_front at (length line) d line u refl e

  pub room_left : at + r + length more ≤ length (put_mid at (length d - at) d u)
  room_left = omega (arith, fits, ap length one_laid, laid-length d at line (omega (arith, fits)))

  pub next-line : laid_at (put_mid at (length d - at) d u) (at + r) more ≡ laid_at d at (line ++ more)
  next-line =
      ap₂ (λ (l : List ℕ) n. laid_at l (at + n) more) one_laid q ∙ laid-behind d at line more (omega (arith, fits))
