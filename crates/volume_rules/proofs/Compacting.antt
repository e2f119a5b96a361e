-- The walk that compacts: the headers kept so far stand in front and their directory where the old one was, all that is yet to be
-- read is as it was. What lies between is of no account.
use Prim.Native.Nat.{ℕ, ◌+◌, ◌-◌, ◌*◌, ◌≤◌, ◌<◌}
use native.Mathlib.Nat.{sub-zero}
use native.Mathlib.Omega.{arith}
use mathlib.Core.Path.{◌≡◌, refl, sym, ap, ap₂, ◌∙◌}
use mathlib.Core.Bool.{true}
use mathlib.Core.List.{List, [], ◌++◌, append_assoc, append-nil}
use lib.ListN.{length, take, drop, length-append, length-drop, take-append-drop, drop_of_length-le}
use lib.Seq.{take_at, drop_at, length-take-le, drop-drop}
use borrow.Author.Tests.{eqb-true}
use Rattle.volume_form.specs.Rows.{Row}
use Rattle.volume_rules.specs.Volume.{joined, directory, Wholes}
use Rattle.volume_rules.specs.Sound.{covers, headers_in}
use Rattle.volume_rules.specs.Latest.{latest}
use Rattle.volume_rules.specs.SameLine.{same_line}
use Rattle.volume_rules.specs.Packed.{Packed}
use Rattle.volume_rules.proofs.Covering.{empty}
use Rattle.volume_rules.proofs.Lines.{headers_end}

-- b are the headers' cards, d their directory, r what follows it, s the buffer now; `to` cards and j lines are kept
pub record Compacting (f : Row) (b d r : List ℕ) (k : ℕ) (s : List ℕ) (at i to j : ℕ) : Type 0 where
  pub front : List (List ℕ)
  pub gap : List ℕ
  pub hole : List ℕ
  pub kept : latest same_line (headers_in f b d k) ≡ front ++ latest same_line (headers_in f (drop (80 * at) b) (drop (80 * i) d) (k - i))
  pub wholes : Wholes front
  pub cards : length (joined front) ≡ 80 * to
  pub lines : length front ≡ j
  pub listed : length (directory f 1 front) ≡ 80 * j
  pub gap_is : 80 * to + length gap ≡ 80 * at
  pub hole-is : 80 * j + length hole ≡ 80 * i
  pub within : 80 * at ≤ length b
  pub over : covers f (1 + at) (drop (80 * at) b) (drop (80 * i) d) (k - i) ≡ true
  pub is : s ≡ joined front ++ (gap ++ (drop (80 * at) b ++ (directory f 1 front ++ (hole ++ (drop (80 * i) d ++ r)))))

pub compact_starts : (f : Row) (b d r : List ℕ) (k : ℕ) → covers f 1 b d k ≡ true → (s : List ℕ) → s ≡ b ++ (d ++ r)
    → Compacting f b d r k s 0 0 0 0
unfolding joined directory
compact_starts f b d r k over s e = record {
  front = [];
  gap = [];
  hole = [];
  kept = rw sub-zero;
  wholes = tt;
  cards = refl;
  lines = refl;
  listed = refl;
  gap_is = refl;
  hole-is = refl;
  within = omega arith;
  over = rw sub-zero over;
  is = e;
}

-- the buffer keeps its length, and what is left of the directory stands where it stood
module _ (f : Row) (b d r : List ℕ) (c k : ℕ) (s : List ℕ) (at i to j : ℕ) (b_long : length b ≡ 80 * c) (d_long : length d ≡ 80 * k)
    (inv : Compacting f b d r k s at i to j) (low : i ≤ k) where
  abbrev passed : List ℕ
  passed = joined inv.front ++ (inv.gap ++ (drop (80 * at) b ++ (directory f 1 inv.front ++ inv.hole)))

  cut_there : s ≡ passed ++ (drop (80 * i) d ++ r)
  cut_there =
      let A : List ℕ = joined inv.front in
      let g : List ℕ = inv.gap in
      let x : List ℕ = drop (80 * at) b in
      let D : List ℕ = directory f 1 inv.front in
      let y : List ℕ = drop (80 * i) d ++ r in
      inv.is
      ∙ ap (λ l. A ++ (g ++ (x ++ l))) (sym (append_assoc D inv.hole y))
      ∙ ap (λ l. A ++ (g ++ l)) (sym (append_assoc x (D ++ inv.hole) y))
      ∙ ap (λ l. A ++ l) (sym (append_assoc g (x ++ (D ++ inv.hole)) y))
      ∙ sym (append_assoc A (g ++ (x ++ (D ++ inv.hole))) y)

  passed_long : length passed ≡ 80 * (c + i)
  passed_long =
      let A : List ℕ = joined inv.front in
      let g : List ℕ = inv.gap in
      let x : List ℕ = drop (80 * at) b in
      let D : List ℕ = directory f 1 inv.front in
      let p = length-append A (g ++ (x ++ (D ++ inv.hole))) in
      let q = length-append g (x ++ (D ++ inv.hole)) in
      let u = length-append x (D ++ inv.hole) in
      let v = length-append D inv.hole in
      let w = length-drop (80 * at) b in
      omega (arith, inv.cards, inv.gap_is, inv.listed, inv.hole-is, inv.within)

  pub compact_length : length s ≡ length (b ++ (d ++ r))
  compact_length =
      let a = length-append passed (drop (80 * i) d ++ r) in
      let o = length-append (drop (80 * i) d) r in
      let u = length-append b (d ++ r) in
      let v = length-append d r in
      let z = length-drop (80 * i) d in
      omega (arith, ap length cut_there, passed_long)

  module _ (more : i < k) where
    first_long : length (take 80 (drop (80 * i) d)) ≡ 80
    first_long = length-take-le 80 (drop (80 * i) d) (rw length-drop (omega arith))

    left_splits : drop (80 * i) d ≡ take 80 (drop (80 * i) d) ++ drop (80 * (i + 1)) d
    left_splits =
        let p : 80 * i + 80 ≡ 80 * (i + 1) = omega arith in
        sym (take-append-drop 80 (drop (80 * i) d)) ∙ ap (λ l. take 80 (drop (80 * i) d) ++ l) (drop-drop 80 (80 * i) d ∙ ap (λ m. drop m d) p)

    cut_next : s ≡ passed ++ (take 80 (drop (80 * i) d) ++ (drop (80 * (i + 1)) d ++ r))
    cut_next = cut_there ∙ ap (λ l. passed ++ l) (ap (λ l. l ++ r) left_splits ∙ append_assoc (take 80 (drop (80 * i) d)) (drop (80 * (i + 1)) d) r)

    pub compact_first : take 80 (drop (80 * (c + i)) s) ≡ take 80 (drop (80 * i) d)
    compact_first =
        ap (λ l. take 80 (drop (80 * (c + i)) l)) cut_next
        ∙ ap (take 80) (drop_at passed _ (80 * (c + i)) passed_long) ∙ take_at (take 80 (drop (80 * i) d)) _ 80 first_long

    pub compact_later : take (80 * (c + k) - (80 * (c + i) + 80)) (drop (80 * (c + i) + 80) s) ≡ drop (80 * (i + 1)) d
    compact_later =
        let y : List ℕ = drop (80 * (i + 1)) d in
        let w : ℕ = 80 * (c + k) - (80 * (c + i) + 80) in
        let e : length y ≡ w = length-drop (80 * (i + 1)) d ∙ omega arith in
        ap (λ l. take w (drop (80 * (c + i) + 80) l)) (cut_next ∙ sym (append_assoc passed (take 80 (drop (80 * i) d)) (y ++ r)))
        ∙ ap (take w) (drop_at (passed ++ take 80 (drop (80 * i) d)) (y ++ r) (80 * (c + i) + 80)
        (length-append passed (take 80 (drop (80 * i) d)) ∙ ap₂ ◌+◌ passed_long first_long))
        ∙ take_at y r w e

-- at the end: what is kept, and its directory
pub compact_ends : (f : Row) (b d r : List ℕ) (c k : ℕ) (s : List ℕ) (at i to j : ℕ) → length b ≡ 80 * c → length d ≡ 80 * k → k ≤ i → i ≤ k
    → Compacting f b d r k s at i to j → Packed f b d r c k s to j
unfolding covers latest
compact_ends f b d r c k s at i to j b_long d_long over low inv =
    let e : k - i ≡ 0 = omega arith in
    let o : covers f (1 + at) (drop (80 * at) b) (drop (80 * i) d) 0 ≡ true = ap (covers f (1 + at) (drop (80 * at) b) (drop (80 * i) d)) (sym e) ∙ inv.over in
    let n : length (drop (80 * at) b) ≡ 0 = eqb-true _ 0 o in
    let none : drop (80 * at) b ≡ [] = empty (drop (80 * at) b) n in
    let gone : drop (80 * i) d ≡ [] = drop_of_length-le d {i = 80 * i} (omega arith) in
    let all : latest same_line (headers_in f b d k) ≡ inv.front =
    inv.kept ∙ ap (λ l. inv.front ++ latest same_line l) (headers_end f (drop (80 * at) b) (drop (80 * i) d) k i over) ∙ append-nil inv.front in
    let whole : 80 * at ≡ 80 * c = let v = length-drop (80 * at) b in omega (arith, v, n, inv.within) in
    record {
      gap = inv.gap;
      hole = inv.hole;
      cards = ap (λ l. length (joined l)) all ∙ inv.cards;
      lines = ap length all ∙ inv.lines;
      listed = ap (λ l. length (directory f 1 l)) all ∙ inv.listed;
      gap_is = inv.gap_is ∙ whole;
      hole-is = omega (arith, inv.hole-is);
      is =
          inv.is ∙ ap₂ (λ u v. joined inv.front ++ (inv.gap ++ (u ++ (directory f 1 inv.front ++ (inv.hole ++ (v ++ r)))))) none gone
          ∙ ap (λ l. joined l ++ (inv.gap ++ (directory f 1 l ++ (inv.hole ++ r)))) (sym all);
    }
