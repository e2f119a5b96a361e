-- The end of compacting: the directory is moved down behind the headers that are kept, and gets its trailer; blanks follow up to and
-- with the old trailer.
use Prim.Native.Nat.{ℕ, ◌+◌, ◌-◌, ◌*◌, ◌^◌, ◌≤◌, ◌<◌}
use native.Mathlib.Omega.{arith}
use mathlib.Core.Path.{◌≡◌, sym, ap, ap₂, ◌∙◌}
use mathlib.Core.List.{List, ◌++◌, append_assoc}
use lib.ListN.{length, drop, replicate, length-append, length-drop, length-replicate}
use lib.Seq.{drop_at, drop-append-le, drop-append_seam}
use Rattle.volume_form.specs.Moved.{laid_at, moved}
use Rattle.volume_form.proofs.moving.Moves.{laid-behind}
use Rattle.volume_form.specs.Rows.{Row}
use Rattle.volume_form.specs.Marked.{trailer_card}
use Rattle.volume_form.proofs.Cards.{Good, length-trailer}
use Rattle.header_check.specs.forms.Cards.{cards_in}
use Rattle.volume_rules.specs.Volume.{joined, directory, volume_of}
use Rattle.volume_rules.specs.Sound.{headers_in}
use Rattle.volume_rules.specs.Latest.{latest, compacted}
use Rattle.volume_rules.specs.SameLine.{same_line}
use Rattle.volume_rules.specs.Packed.{Packed}
use Rattle.volume_rules.proofs.Covering.{cards_of_lem}
use Rattle.volume_rules.proofs.Latest.{moved_down_lem, gap_long}

-- the directory moved down behind the headers, its trailer laid behind it, and the rest up to and with the old trailer t made blank
three_writes : (a g d o t x e : List ℕ) (p to j m q w : ℕ) → length a ≡ to → length a + length g ≡ p → length d ≡ j → to + j ≡ m
    → m + length e ≡ q → q + w ≡ m + length g + length o + length t → length e ≤ length g + length o + length t
    → laid_at (laid_at (moved (a ++ (g ++ (d ++ (o ++ (t ++ x))))) p to j) m e) q (replicate w 32)
    ≡ (a ++ (d ++ e)) ++ (replicate w 32 ++ x)
three_writes a g d o t x e p to j m q w a-long p-is d_long m-is q-is w-is room =
    let g' : List ℕ = drop (length d) (g ++ d) in
    let z : List ℕ = g' ++ (o ++ t) in
    let z-long : length z ≡ length g + length o + length t =
    let u = length-append g' (o ++ t) in let v = length-append o t in let l = gap_long g d in omega arith in
    let one : moved (a ++ (g ++ (d ++ (o ++ (t ++ x))))) p to j ≡ (a ++ d) ++ (g' ++ (o ++ (t ++ x))) = rw (← p-is, ← d_long, ← a-long) (moved_down_lem a g d (o ++ (t ++ x))) in
    let two : g' ++ (o ++ (t ++ x)) ≡ z ++ x = ap (λ l. g' ++ l) (sym (append_assoc o t x)) ∙ sym (append_assoc g' (o ++ t) x) in
    let first : length (a ++ d) ≡ m = length-append a d ∙ ap₂ ◌+◌ a-long d_long ∙ m-is in
    let second : length ((a ++ d) ++ e) ≡ q = length-append (a ++ d) e ∙ ap (λ k. k + length e) first ∙ q-is in
    let y : List ℕ = drop (length e) z in
    let y-long : length {A = ℕ} (replicate w 32) ≡ length y = length-replicate w 32 ∙ sym (length-drop (length e) z ∙ omega arith) in
    ap (λ l. laid_at (laid_at l m e) q (replicate w 32)) (one ∙ ap (λ l. (a ++ d) ++ l) two)
    ∙ ap (λ l. laid_at l q (replicate w 32)) (laid-behind (a ++ d) (z ++ x) e m first
    ∙ ap (λ l. (a ++ d) ++ (e ++ l)) (drop-append-le (length e) z x (omega arith)) ∙ sym (append_assoc (a ++ d) e (y ++ x)))
    ∙ laid-behind ((a ++ d) ++ e) (y ++ x) (replicate w 32) q second
    ∙ ap (λ l. ((a ++ d) ++ e) ++ (replicate w 32 ++ l)) (ap (λ k. drop k (y ++ x)) y-long ∙ drop-append_seam y x)
    ∙ ap (λ l. l ++ (replicate w 32 ++ x)) (append_assoc a d e)

-- then the buffer is compacted
pub compact_whole : (f : Row) (good : Good f) (b d t x : List ℕ) (c k : ℕ) (s : List ℕ) (to j : ℕ) → length b ≡ 80 * c → length d ≡ 80 * k → length t ≡ 80
    → c + k + 1 < 10 ^ f.width → volume_of f (headers_in f b d k) ≡ b ++ (d ++ t) → Packed f b d (t ++ x) c k s to j
    → laid_at (laid_at (moved s (80 * c) (80 * to) (80 * j)) (80 * (to + j)) (trailer_card f (1 + to) j)) (80 * (to + j + 1)) (replicate (80 * (c + k + 1) - 80 * (to + j + 1)) 32)
    ≡ compacted same_line f (headers_in f b d k) ((b ++ (d ++ t)) ++ x)
unfolding compacted volume_of
compact_whole f good b d t x c k s to j b_long d_long t_long small whole inv =
    let K : List (List ℕ) = latest same_line (headers_in f b d k) in
    let A : List ℕ = joined K in
    let D : List ℕ = directory f 1 K in
    let T : List ℕ = trailer_card f (1 + to) j in
    let T-long : length T ≡ 80 = length-trailer f good (1 + to) j (omega (arith, inv.gap_is)) (omega (arith, inv.hole-is)) in
    let T-is : trailer_card f (1 + cards_in A) (length K) ≡ T = ap₂ (λ u v. trailer_card f (1 + u) v) (cards_of_lem A to inv.cards) inv.lines in
    let w : ℕ = 80 * (c + k + 1) - 80 * (to + j + 1) in
    let was : length (b ++ (d ++ t)) ≡ 80 * (c + k + 1) = length-append b (d ++ t) ∙ ap₂ ◌+◌ b_long (length-append d t ∙ ap₂ ◌+◌ d_long t_long) ∙ omega arith in
    let is : length (A ++ (D ++ T)) ≡ 80 * (to + j + 1) =
    length-append A (D ++ T) ∙ ap₂ ◌+◌ inv.cards (length-append D T ∙ ap₂ ◌+◌ inv.listed T-long) ∙ omega arith in
    ap (λ l. laid_at (laid_at (moved l (80 * c) (80 * to) (80 * j)) (80 * (to + j)) T) (80 * (to + j + 1)) (replicate w 32)) inv.is
    ∙ three_writes A inv.gap D inv.hole t x T (80 * c) (80 * to) (80 * j) (80 * (to + j)) (80 * (to + j + 1)) w
    inv.cards (ap (λ m. m + length inv.gap) inv.cards ∙ inv.gap_is) inv.listed (omega arith) (omega arith)
    (omega (arith, inv.gap_is, inv.hole-is)) (omega arith)
    ∙ ap (λ l. (A ++ (D ++ T)) ++ (replicate w 32 ++ l)) (sym (drop_at (b ++ (d ++ t)) x (80 * (c + k + 1)) was))
    ∙ ap₂ (λ u v. (A ++ (D ++ T)) ++ (replicate (u - v) 32 ++ drop u ((b ++ (d ++ t)) ++ x))) (sym (ap length whole ∙ was)) (sym is)
    ∙ ap (λ l. (A ++ (D ++ l)) ++ (replicate (length (volume_of f (headers_in f b d k)) - length (A ++ (D ++ l))) 32 ++ drop (length (volume_of f (headers_in f b d k))) ((b ++ (d ++ t)) ++ x))) (sym T-is)
