-- A file that has no offence is its lines, each with CR LF behind it.
use Prim.Native.Nat.{ℕ, zero, suc, ◌+◌, ◌*◌, ◌-◌, ◌≤◌, ◌<◌}
use native.Mathlib.Omega.{arith}
use mathlib.Core.Path.{◌≡◌, refl, sym, ap, ap₂, subst, ◌∙◌}
use mathlib.Core.List.{List, [], ◌∷◌, ◌++◌, flat_map}
use mathlib.Core.Bool.{Bool, true, false, cond, ◌&&◌}
use lib.ListN.{length, get_or, take, drop, length-append, length-drop, length-replicate, drop_of_length-le}
use lib.Seq.{take_at, take_all, length-take-le, drop-drop, drop-append-add, get_or-append_seam}
use borrow.Rule.Slice.PartMut.{put_mid}
use lib.Dec.{eqb}
use borrow.Author.Tests.{eq-eqb, eqb-true, ltb-true}
use Rattle.base_digits.proofs.digits.Bools.{and_left, and_right}
use Rattle.base_lists.proofs.Finding.{first_unique}
use Rattle.base_refusal.specs.declared.Refusal.{Refusal}
use Rattle.base_refusal.specs.Refusals.{refusal}
use Rattle.media_diskette.specs.Lines.{lines_in, line_length, padded, cards_from}
use Rattle.media_diskette.specs.Answers.{offence_of, told, offence}
use Rattle.media_diskette.proofs.Judging.{plain_byte, lines-plain, offence_on}
use Rattle.media_diskette.proofs.Laying.{laid_at, put_front, laid-behind, laid-length, laid_none}
use Rattle.std.specs.Prelude.{Option, None, Some}

-- bytes without an offence, behind k others of their line
abbrev pub Plain : ℕ → List ℕ → Type 0
Plain k [] = Unit {0}
Plain k (b ∷ t) = (offence_of b k ≡ 0) × Plain (k + 1) t

-- a file with its lines
pub data Filed : List ℕ → List (List ℕ) → Type 0 where
  nothing : Filed [] []
  line : (t r : List ℕ) (ls : List (List ℕ)) → Plain 0 t → Filed r ls → Filed (t ++ (13 ∷ 10 ∷ r)) (t ∷ ls)

-- what is left of a file behind k bytes of a line
pub data Rest (k : ℕ) (s : List ℕ) : Type 0 where
  done : k ≡ 0 → s ≡ [] → Rest k s
  more : (t r : List ℕ) (ls : List (List ℕ)) → s ≡ t ++ (13 ∷ 10 ∷ r) → Plain k t → Filed r ls → Rest k s

some-none : (r : Refusal) → Some r ≡ None → ⊥
some-none r e = let z : ◌≡◌ {A = ℕ} 0 1 = cc in omega arith

told_none : (number lines k : ℕ) (behind : Option Refusal) → told number lines k behind ≡ None → (number ≡ 0) × (behind ≡ None)
told_none number lines k behind e = go (eqb number 0) refl e
  where
    go : (t : Bool) → eqb number 0 ≡ t → cond t behind (Some (refusal number (lines + 1) (k + 1))) ≡ None
        → (number ≡ 0) × (behind ≡ None)
    go true q z = (eqb-true number 0 q, z)
    go false q z = absurd (some-none (refusal number (lines + 1) (k + 1)) z)

-- a byte before what is left
byte-before : (b k : ℕ) (s : List ℕ) → offence_of b k ≡ 0 → Rest (k + 1) s → Rest k (b ∷ s)
byte-before b k s e (done z q) = absurd (omega (arith, z))
byte-before b k s e (more t r ls q p f) = more (b ∷ t) r ls (ap (λ (l : List ℕ). b ∷ l) q) (e, p) f

-- a line end before what is left
end_before : (b x k : ℕ) (s : List ℕ) → b ≡ 13 → x ≡ 10 → Rest 0 s → Rest k (b ∷ x ∷ s)
end_before b x k s e q (done z w) =
    more [] [] [] (ap₂ (λ y (l : List ℕ). y ∷ l) e (ap₂ (λ y (l : List ℕ). y ∷ l) q w)) tt nothing
end_before b x k s e q (more t r ls w p f) =
    more [] (t ++ (13 ∷ 10 ∷ r)) (t ∷ ls) (ap₂ (λ y (l : List ℕ). y ∷ l) e (ap₂ (λ y (l : List ℕ). y ∷ l) q w)) tt (line t r ls p f)

pub rest_filed : (lines k : ℕ) (s : List ℕ) → offence lines k s ≡ None → Rest k s
unfolding offence
rest_filed lines k [] e = go (eqb k 0) refl e
  where
    go : (t : Bool) → eqb k 0 ≡ t → told (cond t 0 16) lines k None ≡ None → Rest k []
    go true q z = done (eqb-true k 0 q) refl
    go false q z = absurd (some-none (refusal 16 (lines + 1) (k + 1)) z)
rest_filed lines k (b ∷ []) e =
    let q = told_none (offence_of b k) lines k (offence lines (k + 1) []) e in
    byte-before b k [] q.0 (rest_filed lines (k + 1) [] q.1)
rest_filed lines k (b ∷ x ∷ s) e = go (eqb b 13 && eqb x 10) refl e (rest_filed (lines + 1) 0 s) (rest_filed lines (k + 1) (x ∷ s))
  where
    go : (t : Bool) → (eqb b 13 && eqb x 10) ≡ t
        → cond t (offence (lines + 1) 0 s) (told (offence_of b k) lines k (offence lines (k + 1) (x ∷ s))) ≡ None
        → (offence (lines + 1) 0 s ≡ None → Rest 0 s) → (offence lines (k + 1) (x ∷ s) ≡ None → Rest (k + 1) (x ∷ s))
        → Rest k (b ∷ x ∷ s)
    go true q z ended on =
        end_before b x k s (eqb-true b 13 (and_left (eqb b 13) (eqb x 10) q)) (eqb-true x 10 (and_right (eqb b 13) (eqb x 10) q)) (ended z)
    go false q z ended on =
        let w = told_none (offence_of b k) lines k (offence lines (k + 1) (x ∷ s)) z in
        byte-before b k (x ∷ s) w.0 (on w.1)

-- the lines of a file are those that it was filed with
lines-behind : (k : ℕ) (t r : List ℕ) → Plain k t → lines_in (t ++ (13 ∷ 10 ∷ r)) ≡ t ∷ lines_in r
unfolding lines_in
lines-behind k [] r p = refl
lines-behind k (b ∷ t) r p =
    lines-plain b k (t ++ (13 ∷ 10 ∷ r)) p.0 ∙ rw (lines-behind (k + 1) t r p.1)

pub filed_lines : {f : List ℕ} {ls : List (List ℕ)} → Filed f ls → lines_in f ≡ ls
unfolding lines_in
filed_lines nothing = refl
filed_lines (line t r ls p f) = lines-behind 0 t r p ∙ ap (λ (l : List (List ℕ)). t ∷ l) (filed_lines f)

-- and it has no offence
no_offence : (lines k : ℕ) (t r : List ℕ) → Plain k t → offence lines k (t ++ (13 ∷ 10 ∷ r)) ≡ offence (lines + 1) 0 r
unfolding offence
no_offence lines k [] r p = refl
no_offence lines k (b ∷ t) r p = offence_on lines k b (t ++ (13 ∷ 10 ∷ r)) p.0 ∙ no_offence lines (k + 1) t r p.1

pub filed_fine : (lines : ℕ) {f : List ℕ} {ls : List (List ℕ)} → Filed f ls → offence lines 0 f ≡ None
unfolding offence
filed_fine lines nothing = refl
filed_fine lines (line t r ls p f) = no_offence lines 0 t r p ∙ filed_fine (lines + 1) f

-- a file without an offence, with its lines
pub filed : (f : List ℕ) → offence 0 0 f ≡ None → Filed f (lines_in f)
filed f e = go (rest_filed 0 0 f e)
  where
    with_lines : (ls : List (List ℕ)) → Filed f ls → Filed f (lines_in f)
    with_lines ls x = subst (λ (l : List (List ℕ)). Filed f l) (sym (filed_lines x)) x

    go : Rest 0 f → Filed f (lines_in f)
    go (done z q) = with_lines [] (subst (λ (s : List ℕ). Filed s []) (sym q) nothing)
    go (more t r ls q p x) = with_lines (t ∷ ls) (subst (λ (s : List ℕ). Filed s (t ∷ ls)) (sym q) (line t r ls p x))

-- a line has at most 80 bytes, and no CR
pub plain_size : (k : ℕ) (t : List ℕ) → k ≤ 80 → Plain k t → k + length t ≤ 80
plain_size k [] h p = omega arith
plain_size k (b ∷ t) h p =
    omega (arith, plain_size (k + 1) t (omega (arith, ltb-true k 80 (plain_byte b k p.0).within)) p.1)

plain-cr : (k : ℕ) (t r : List ℕ) → Plain k t → (j : ℕ) → j < length t → eqb (get_or (t ++ r) j 0) 13 ≡ false
plain-cr k [] r p j h = absurd (omega arith)
plain-cr k (b ∷ t) r p zero h = (plain_byte b k p.0).not-cr
plain-cr k (b ∷ t) r p (suc j) h = plain-cr (k + 1) t r p.1 j (omega arith)

pub padded-size : (t : List ℕ) → length t ≤ 80 → length (padded t) ≡ 80
unfolding padded
padded-size t h = rw (length-append, length-replicate {A = ℕ} (80 - length t) 32) (omega arith)

-- the first line of a file, by its length
pub record Front (f : List ℕ) : Type 0 where
  pub short : line_length f ≤ 80
  pub ends : line_length f + 2 ≤ length f
  pub lines : lines_in f ≡ take (line_length f) f ∷ lines_in (drop (line_length f + 2) f)
  pub rest : Filed (drop (line_length f + 2) f) (lines_in (drop (line_length f + 2) f))

front_of : (t r : List ℕ) (ls : List (List ℕ)) → Plain 0 t → Filed r ls → Front (t ++ (13 ∷ 10 ∷ r))
unfolding line_length
front_of t r ls p x =
    let f : List ℕ = t ++ (13 ∷ 10 ∷ r) in
    let size : length f ≡ length t + (2 + length r) = length-append t (13 ∷ 10 ∷ r) ∙ omega arith in
    let n : line_length f ≡ length t =
    first_unique (λ i. eqb (get_or f i 0) 13) (length f) (length t) (omega (arith, size))
    (eq-eqb (get_or f (length t) 0) 13 (get_or-append_seam t 13 (10 ∷ r) 0)) (λ j l. plain-cr 0 t (13 ∷ 10 ∷ r) p j l) in
    let d : drop (line_length f + 2) f ≡ r = ap (λ m. drop (m + 2) f) n ∙ drop-append-add t (13 ∷ 10 ∷ r) 2 in
    let q : take (line_length f) f ≡ t = ap (λ m. take m f) n ∙ take_at t (13 ∷ 10 ∷ r) (length t) refl in
    record {
      short = omega (arith, n, plain_size 0 t (omega arith) p);
      ends = omega (arith, n, size);
      lines = lines-behind 0 t r p ∙ ap₂ (λ (a : List ℕ) (b : List ℕ). a ∷ lines_in b) (sym q) (sym d);
      rest = subst (λ (s : List ℕ). Filed s (lines_in s)) (sym d) (subst (λ (l : List (List ℕ)). Filed r l) (sym (filed_lines x)) x);
    }

pub front : (f : List ℕ) (ls : List (List ℕ)) → Filed f ls → (length f ≡ 0 → ⊥) → Front f
front f ls nothing h = absurd (h refl)
front f ls (line t r ms p x) h = front_of t r ms p x

-- the cards of a file, 80 bytes a line
pub filed_size : {f : List ℕ} {ls : List (List ℕ)} → Filed f ls → length (flat_map padded ls) ≡ length ls * 80
unfolding flat_map
filed_size nothing = refl
filed_size (line t r ls p x) =
    rw (length-append, padded-size t (omega (arith, plain_size 0 t (omega arith) p)), filed_size x) (omega arith)

pub cards-size : (f : List ℕ) → offence 0 0 f ≡ None → length (cards_from f) ≡ length (lines_in f) * 80
unfolding cards_from
cards-size f e = filed_size (filed f e)

-- the first card, and the others
pub cards_front : (f : List ℕ) → Front f → cards_from f ≡ padded (take (line_length f) f) ++ cards_from (drop (line_length f + 2) f)
unfolding cards_from flat_map
cards_front f x = ap (flat_map padded) x.lines

pub cards-none : (f : List ℕ) → length f ≡ 0 → cards_from f ≡ []
unfolding cards_from flat_map lines_in
cards-none [] h = refl
cards-none (b ∷ f) h = absurd (omega arith)

-- THE LOOP THAT LAYS CARDS

pub rest_is : (f : List ℕ) (i : ℕ) → take (length f - i) (drop i f) ≡ drop i f
rest_is f i = take_all (length f - i) (drop i f) (rw length-drop (omega arith))

pub part_wide : (d : List ℕ) (at : ℕ) → at + 80 ≤ length d → 80 ≤ length (take (length d - at) (drop at d))
part_wide d at h = rw (rest_is d at, length-drop) (omega arith)

pub laid_file : (f d : List ℕ) → offence 0 0 f ≡ None → laid_at d 0 (cards_from (drop 0 f)) ≡ cards_from f ++ drop (length (lines_in f) * 80) d
unfolding laid_at
laid_file f d e =
    let z : 0 + length (cards_from f) ≡ length (lines_in f) * 80 = omega (arith, cards-size f e) in
    ap (λ n. cards_from f ++ drop n d) z

-- a file that is left
module _ (f : List ℕ) (i : ℕ) (some : i < length f) (x : Filed (drop i f) (lines_in (drop i f))) where
  pub front_left : Front (drop i f)
  front_left = front (drop i f) (lines_in (drop i f)) x (λ z. omega (arith, z, length-drop i f))

  pub lines_left : length (lines_in (drop i f)) ≡ 1 + length (lines_in (drop (i + (line_length (drop i f) + 2)) f))
  lines_left = ap length front_left.lines ∙ rw drop-drop (omega arith)

  pub end_left : i + (line_length (drop i f) + 2) ≤ length f
  end_left = omega (arith, front_left.ends, length-drop i f)

  pub rest_left : Filed (drop (i + (line_length (drop i f) + 2)) f) (lines_in (drop (i + (line_length (drop i f) + 2)) f))
  rest_left = rw drop-drop at front_left.rest

  cards_left : cards_from (drop i f)
      ≡ padded (take (line_length (drop i f)) (drop i f)) ++ cards_from (drop (i + (line_length (drop i f) + 2)) f)
  cards_left = cards_front (drop i f) front_left ∙ rw drop-drop

  -- what a turn of the loop leaves
  pub next_card : (d u : List ℕ) (at r : ℕ)
      → at + length (lines_in (drop i f)) * 80 ≤ length d
      → r ≡ line_length (take (length f - i) (drop i f)) + 2
      → u ≡ padded (take (line_length (take (length f - i) (drop i f))) (take (length f - i) (drop i f)))
      ++ drop 80 (take (length d - at) (drop at d))
      → (length (put_mid at (length d - at) d u) ≡ length d)
      × (Filed (drop (i + r) f) (lines_in (drop (i + r) f)))
      × (at + 80 + length (lines_in (drop (i + r) f)) * 80 ≤ length (put_mid at (length d - at) d u))
      × (laid_at (put_mid at (length d - at) d u) (at + 80) (cards_from (drop (i + r) f)) ≡ laid_at d at (cards_from (drop i f)))
  next_card d u at r room q e =
      let s : List ℕ = drop i f in
      let card : List ℕ = padded (take (line_length s) s) in
      let steps : r ≡ line_length s + 2 = q ∙ ap (λ (l : List ℕ). line_length l + 2) (rest_is f i) in
      let rest : List ℕ = drop (i + (line_length s + 2)) f in
      let there : drop (i + r) f ≡ rest = ap (λ n. drop (i + n) f) steps in
      let wide : length card ≡ 80 = padded-size (take (line_length s) s)
      (omega (arith, front_left.short, front_left.ends, length-take-le (line_length s) s (omega (arith, front_left.ends)))) in
      let laid : put_mid at (length d - at) d u ≡ laid_at d at card =
      put_front at 80 d card u (sym wide) (e ∙ ap (λ (l : List ℕ). padded (take (line_length l) l) ++ drop 80 (take (length d - at) (drop at d))) (rest_is f i)) in
      let fits : at + 80 ≤ length d = omega (arith, lines_left) in
      let long : length (put_mid at (length d - at) d u) ≡ length d = ap length laid ∙ laid-length d at card (omega (arith, wide)) in (
        long,
        subst (λ (l : List ℕ). Filed l (lines_in l)) (sym there) rest_left,
        rw there (omega (arith, lines_left, long)),
        ap (λ (l : List ℕ). laid_at (put_mid at (length d - at) d u) (at + 80) (cards_from l)) there
            ∙ ap₂ (λ (l : List ℕ) n. laid_at l (at + n) (cards_from rest)) laid (sym wide)
            ∙ laid-behind d at card (cards_from rest) (omega (arith, wide))
            ∙ ap (laid_at d at) (sym cards_left),
      )

pub cards-over : (f d : List ℕ) (i at : ℕ) → length f ≤ i → laid_at d at (cards_from (drop i f)) ≡ d
cards-over f d i at h =
    ap (laid_at d at) (ap cards_from (drop_of_length-le f h) ∙ cards-none [] refl) ∙ laid_none d at
