-- The walk that writes a directory in another form: the cards before a place are written, those from it on are as they were.
use Prim.Native.Nat.{ℕ, suc, ◌+◌, ◌-◌, ◌*◌, ◌^◌, ◌≤◌, ◌<◌}
use native.Mathlib.Nat.{sub-zero}
use native.Mathlib.Omega.{arith}
use mathlib.Core.Path.{◌≡◌, refl, sym, ap, ap₂, ◌∙◌}
use mathlib.Core.Bool.{true}
use mathlib.Core.List.{List, [], ◌++◌, append_assoc, append-nil}
use lib.ListN.{length, take, drop, length-append, length-drop, take-append-drop, drop_of_length-le}
use lib.Seq.{take_at, drop_at, length-take-le, take-add, drop-drop, drop-append-le, take-append-le}
use Rattle.base_digits.proofs.digits.Bools.{and_left, and_right}
use Rattle.volume_form.specs.Moved.{laid_at}
use Rattle.volume_form.proofs.moving.Moves.{laid-behind}
use Rattle.volume_form.specs.Rows.{Row}
use Rattle.volume_form.specs.Marked.{entry_card, trailer_card, count_on}
use Rattle.volume_form.proofs.Cards.{Good, entry_longer, length-entry}
use Rattle.header_check.specs.forms.Cards.{cards_in}
use Rattle.volume_rules.specs.Volume.{joined, directory, volume_of}
use Rattle.volume_rules.specs.Sound.{enters, covers, headers_in}
use Rattle.volume_rules.proofs.Covering.{cards_of_lem, Entered, entered, Covered, covered}
use Rattle.volume_rules.proofs.Lines.{headers_goes, headers_end}

-- what a directory covers from a place on: its card there, and what its other cards cover
pub record Next (f : Row) (b d : List ℕ) (k at i n : ℕ) : Type 0 where
  pub card : Entered f (1 + at) n (drop (80 * at) b) (take 80 (drop (80 * i) d))
  pub room : 80 * (at + n) ≤ length b
  pub over : covers f (1 + (at + n)) (drop (80 * (at + n)) b) (drop (80 * (i + 1)) d) (k - (i + 1)) ≡ true

pub next : (f : Row) (b d : List ℕ) (k at i n : ℕ) → i < k → 80 * at ≤ length b → count_on f (take 80 (drop (80 * i) d)) ≡ n
    → covers f (1 + at) (drop (80 * at) b) (drop (80 * i) d) (k - i) ≡ true → Next f b d k at i n
unfolding covers
next f b d k at i n more within n_is over =
    let m : ℕ = k - (i + 1) in
    let e : k - i ≡ suc m = omega arith in
    let here : List ℕ = drop (80 * at) b in
    let on : List ℕ = drop (80 * i) d in
    let o : covers f (1 + at) here on (suc m) ≡ true = ap (λ j. covers f (1 + at) here on j) (sym e) ∙ over in
    let one : enters f (1 + at) here (take 80 on) ≡ true = and_left (enters f (1 + at) here (take 80 on)) _ o in
    let rest = and_right (enters f (1 + at) here (take 80 on)) _ o in
    let x = entered f (1 + at) here (take 80 on) one in
    let y : Entered f (1 + at) n here (take 80 on) = rw (← n_is) x in
    let p : 80 * at + 80 * n ≡ 80 * (at + n) = omega arith in
    let q : 80 * i + 80 ≡ 80 * (i + 1) = omega arith in
    let long : length here ≡ length b - 80 * at = length-drop (80 * at) b in
    let z : 1 + (at + n) ≡ 1 + at + n = omega arith in
    let left : covers f (1 + at + n) (drop (80 * n) here) (drop 80 on) m ≡ true = rw (← n_is) rest in
    record {
      card = y;
      room = omega (arith, y.within);
      over =
          ap (λ j. covers f j (drop (80 * (at + n)) b) (drop (80 * (i + 1)) d) m) z
          ∙ ap₂ (λ u v. covers f (1 + at + n) u v m) (ap (λ j. drop j b) (sym p) ∙ sym (drop-drop (80 * n) (80 * at) b)) (ap (λ j. drop j d) (sym q) ∙ sym (drop-drop 80 (80 * i) d))
          ∙ left;
    }

-- the directory of the headers that are left: the card of the next, and the directory of those behind it
pub directory_goes : (f g : Row) (b d : List ℕ) (k at i n : ℕ) → i < k → count_on f (take 80 (drop (80 * i) d)) ≡ n → 80 * (at + n) ≤ length b
    → directory g (1 + at) (headers_in f (drop (80 * at) b) (drop (80 * i) d) (k - i))
    ≡ entry_card g (take (80 * n) (drop (80 * at) b)) (1 + at) n
    ++ directory g (1 + (at + n)) (headers_in f (drop (80 * (at + n)) b) (drop (80 * (i + 1)) d) (k - (i + 1)))
unfolding directory
directory_goes f g b d k at i n more n_is room =
    let h : List ℕ = take (80 * n) (drop (80 * at) b) in
    let hs : List (List ℕ) = headers_in f (drop (80 * (at + n)) b) (drop (80 * (i + 1)) d) (k - (i + 1)) in
    let c : cards_in h ≡ n = cards_of_lem h n (length-take-le (80 * n) (drop (80 * at) b) (rw length-drop (omega arith))) in
    let z : 1 + at + n ≡ 1 + (at + n) = omega arith in
    ap (directory g (1 + at)) (headers_goes f b d k at i n more n_is)
    ∙ ap (λ m. entry_card g h (1 + at) m ++ directory g (1 + at + m) hs) c
    ∙ ap (λ m. entry_card g h (1 + at) n ++ directory g m hs) z

-- the card built from the buffer is that of the header
pub entry_here : (g : Row) (b y : List ℕ) (at n m : ℕ) → 1 ≤ n → 80 * (at + n) ≤ length b
    → entry_card g (drop (80 * at) (b ++ y)) m n ≡ entry_card g (take (80 * n) (drop (80 * at) b)) m n
entry_here g b y at n m some room =
    let here : List ℕ = drop (80 * at) b in
    let h : List ℕ = take (80 * n) here in
    let l : length h ≡ 80 * n = length-take-le (80 * n) here (rw length-drop (omega arith)) in
    let e : drop (80 * at) (b ++ y) ≡ h ++ (drop (80 * n) here ++ y) =
    drop-append-le (80 * at) b y (omega arith) ∙ ap (λ l. l ++ y) (sym (take-append-drop (80 * n) here)) ∙ append_assoc h (drop (80 * n) here) y in
    ap (λ l. entry_card g l m n) e ∙ entry_longer g h (drop (80 * n) here ++ y) m n (omega arith)

-- b are the headers' cards, d their directory, r what follows it, s the buffer now
pub record Converting (f g : Row) (b d r : List ℕ) (k : ℕ) (s : List ℕ) (at i : ℕ) : Type 0 where
  pub within : 80 * at ≤ length b
  pub over : covers f (1 + at) (drop (80 * at) b) (drop (80 * i) d) (k - i) ≡ true
  pub left : drop (80 * i) (directory g 1 (headers_in f b d k)) ≡ directory g (1 + at) (headers_in f (drop (80 * at) b) (drop (80 * i) d) (k - i))
  pub long : length (take (80 * i) (directory g 1 (headers_in f b d k))) ≡ 80 * i
  pub is : s ≡ b ++ (take (80 * i) (directory g 1 (headers_in f b d k)) ++ (drop (80 * i) d ++ r))

pub convert_starts : (f g : Row) (b d r : List ℕ) (k : ℕ) → covers f 1 b d k ≡ true → (s : List ℕ) → s ≡ b ++ (d ++ r)
    → Converting f g b d r k s 0 0
convert_starts f g b d r k over s e = record { within = omega arith; over = rw sub-zero over; left = rw sub-zero; long = refl; is = e }

-- the buffer keeps its length, and the next directory card stands where it stood
module _ (f g : Row) (b d r : List ℕ) (c k : ℕ) (s : List ℕ) (at i : ℕ) (b_long : length b ≡ 80 * c) (d_long : length d ≡ 80 * k)
    (inv : Converting f g b d r k s at i) where
  abbrev written_so_far : List ℕ
  written_so_far = take (80 * i) (directory g 1 (headers_in f b d k))

  pub convert_long : i ≤ k → length s ≡ length (b ++ (d ++ r))
  convert_long h =
      let w : List ℕ = written_so_far in
      let y : List ℕ = drop (80 * i) d in
      let a = length-append b (w ++ (y ++ r)) in
      let e = length-append w (y ++ r) in
      let o = length-append y r in
      let u = length-append b (d ++ r) in
      let v = length-append d r in
      let z = length-drop (80 * i) d in
      omega (arith, ap length inv.is, inv.long)

  pub convert_there : i < k → take 80 (drop (80 * (c + i)) s) ≡ take 80 (drop (80 * i) d)
  convert_there more =
      let w : List ℕ = written_so_far in
      let y : List ℕ = drop (80 * i) d in
      ap (λ l. take 80 (drop (80 * (c + i)) l)) (inv.is ∙ sym (append_assoc b w (y ++ r)))
      ∙ ap (take 80) (drop_at (b ++ w) (y ++ r) (80 * (c + i)) (length-append b w ∙ ap₂ ◌+◌ b_long inv.long ∙ omega arith))
      ∙ take-append-le 80 y r (rw length-drop (omega arith))

module _ (f g : Row) (good : Good g) (b d r : List ℕ) (c k : ℕ) (s : List ℕ) (at i n : ℕ) (b_long : length b ≡ 80 * c) (d_long : length d ≡ 80 * k)
    (small : 1 + c < 10 ^ g.width) (inv : Converting f g b d r k s at i) (more : i < k) (n_is : count_on f (take 80 (drop (80 * i) d)) ≡ n) where
  abbrev D : List ℕ
  D = directory g 1 (headers_in f b d k)

  abbrev E : List ℕ
  E = entry_card g (take (80 * n) (drop (80 * at) b)) (1 + at) n

  abbrev N : Next f b d k at i n
  N = next f b d k at i n more inv.within n_is inv.over

  some : 1 ≤ n
  some = N.card.some

  -- what is built fits
  pub convert_room : (at + n ≤ c) × (1 ≤ n)
  convert_room = (omega (arith, N.room), some)

  -- what is built is the card of the header
  pub convert_card : entry_card g (drop (80 * at) s) (1 + at) n ≡ E
  convert_card = ap (λ l. entry_card g (drop (80 * at) l) (1 + at) n) inv.is ∙ entry_here g b _ at n (1 + at) some N.room

  e_long : length E ≡ 80
  e_long =
      let l : length (take (80 * n) (drop (80 * at) b)) ≡ 80 * n = length-take-le (80 * n) (drop (80 * at) b) (rw length-drop (omega (arith, N.room))) in
      length-entry g good (1 + at) n (omega (arith, N.room, some)) (omega (arith, N.room)) (take (80 * n) (drop (80 * at) b)) (omega (arith, some))

  here : drop (80 * i) D ≡ E ++ directory g (1 + (at + n)) (headers_in f (drop (80 * (at + n)) b) (drop (80 * (i + 1)) d) (k - (i + 1)))
  here = inv.left ∙ directory_goes f g b d k at i n more n_is N.room

  on : 80 * i + 80 ≡ 80 * (i + 1)
  on = omega arith

  written : take (80 * (i + 1)) D ≡ take (80 * i) D ++ E
  written =
      ap (λ m. take m D) (sym on) ∙ take-add (80 * i) 80 D ∙ ap (λ l. take (80 * i) D ++ l) (ap (take 80) here ∙ take_at E _ 80 e_long)

  pub convert_goes : Converting f g b d r k (laid_at s (80 * (c + i)) (entry_card g (drop (80 * at) s) (1 + at) n)) (at + n) (i + 1)
  convert_goes =
      let p : List ℕ = b ++ take (80 * i) D in
      let y : List ℕ = drop (80 * i) d ++ r in
      let p-long : length p ≡ 80 * (c + i) = length-append b (take (80 * i) D) ∙ ap₂ ◌+◌ b_long inv.long ∙ omega arith in
      let s_is : s ≡ p ++ y = inv.is ∙ sym (append_assoc b (take (80 * i) D) y) in
      let rest : drop 80 y ≡ drop (80 * (i + 1)) d ++ r =
      drop-append-le 80 (drop (80 * i) d) r (rw length-drop (omega arith)) ∙ ap (λ l. l ++ r) (drop-drop 80 (80 * i) d ∙ ap (λ m. drop m d) on) in
      record {
        within = N.room;
        over = N.over;
        left = ap (λ m. drop m D) (sym on) ∙ sym (drop-drop 80 (80 * i) D) ∙ ap (drop 80) here ∙ drop_at E _ 80 e_long;
        long = ap length written ∙ length-append (take (80 * i) D) E ∙ ap₂ ◌+◌ inv.long e_long ∙ on;
        is =
            ap₂ (λ u v. laid_at u (80 * (c + i)) v) s_is convert_card
            ∙ laid-behind p y E (80 * (c + i)) p-long
            ∙ ap (λ m. p ++ (E ++ drop m y)) e_long
            ∙ ap (λ l. p ++ (E ++ l)) rest
            ∙ append_assoc b (take (80 * i) D) _
            ∙ ap (λ l. b ++ l) (sym (append_assoc (take (80 * i) D) E _))
            ∙ ap (λ l. b ++ (l ++ (drop (80 * (i + 1)) d ++ r))) (sym written);
      }

-- at the end the directory is written, and what followed it is as it was
pub convert_ends : (f g : Row) (b d r : List ℕ) (k : ℕ) (s : List ℕ) (at i : ℕ) → length d ≡ 80 * k → k ≤ i → i ≤ k → Converting f g b d r k s at i
    → s ≡ b ++ (directory g 1 (headers_in f b d k) ++ r)
unfolding directory
convert_ends f g b d r k s at i d_long over low inv =
    let D : List ℕ = directory g 1 (headers_in f b d k) in
    let none : drop (80 * i) D ≡ [] = inv.left ∙ ap (directory g (1 + at)) (headers_end f (drop (80 * at) b) (drop (80 * i) d) k i over) in
    let all : take (80 * i) D ≡ D = sym (append-nil (take (80 * i) D)) ∙ ap (λ l. take (80 * i) D ++ l) (sym none) ∙ take-append-drop (80 * i) D in
    let gone : drop (80 * i) d ≡ [] = drop_of_length-le d {i = 80 * i} (omega arith) in
    inv.is ∙ ap₂ (λ u v. b ++ (u ++ (v ++ r))) all gone

-- and with its trailer it is the volume of the same headers
pub convert_whole : (f g : Row) (b d t x : List ℕ) (c k : ℕ) → length b ≡ 80 * c → length d ≡ 80 * k → length t ≡ 80
    → covers f 1 b d k ≡ true → length (directory g 1 (headers_in f b d k)) ≡ 80 * k → length (trailer_card g (1 + c) k) ≡ 80
    → laid_at (b ++ (directory g 1 (headers_in f b d k) ++ (t ++ x))) (80 * (c + k)) (trailer_card g (1 + c) k)
    ≡ volume_of g (headers_in f b d k) ++ x
unfolding volume_of
convert_whole f g b d t x c k b_long d_long t_long over D-long T-long =
    let hs : List (List ℕ) = headers_in f b d k in
    let D : List ℕ = directory g 1 hs in
    let T : List ℕ = trailer_card g (1 + c) k in
    let r : Covered f 1 b d k = covered f 1 b d k over in
    let cards : 1 + cards_in (joined hs) ≡ 1 + c = ap (λ l. 1 + cards_in l) r.body ∙ ap (λ m. 1 + m) (cards_of_lem b c b_long) in
    let T-is : trailer_card g (1 + cards_in (joined hs)) (length hs) ≡ T = ap₂ (trailer_card g) cards r.number in
    ap (λ l. laid_at l (80 * (c + k)) T) (sym (append_assoc b D (t ++ x)))
    ∙ laid-behind (b ++ D) (t ++ x) T (80 * (c + k)) (length-append b D ∙ ap₂ ◌+◌ b_long D-long ∙ omega arith)
    ∙ ap (λ l. (b ++ D) ++ (T ++ l)) (ap (λ m. drop m (t ++ x)) T-long ∙ drop_at t x 80 t_long)
    ∙ append_assoc b D (T ++ x)
    ∙ ap (λ l. b ++ l) (sym (append_assoc D T x))
    ∙ sym (append_assoc b (D ++ T) x)
    ∙ ap₂ (λ u v. (u ++ (D ++ v)) ++ x) (sym r.body) (sym T-is)
