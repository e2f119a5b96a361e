-- Appending a header to a volume.
use Prim.Native.Nat.{ℕ, ◌+◌, ◌-◌, ◌*◌, ◌≤◌}
use native.Mathlib.Omega.{arith}
use mathlib.Core.Path.{◌≡◌, refl, sym, ap, ap₂, ◌∙◌}
use mathlib.Core.List.{List, [], ◌∷◌, ◌++◌, append_assoc, append-nil}
use lib.ListN.{length, take, drop, length-append}
use lib.Seq.{take_at, length-take-le, drop_at, drop-append_seam, take-append_seam, take-append-add, drop-append-add, drop-drop}
use Rattle.volume_form.specs.Moved.{laid_at, moved}
use Rattle.volume_form.proofs.moving.Moves.{laid-behind}
use Rattle.volume_form.specs.Rows.{Row}
use Rattle.volume_form.specs.Marked.{entry_card, trailer_card}
use Rattle.header_check.specs.forms.Cards.{cards_in}
use Rattle.volume_rules.specs.Volume.{joined, directory, volume_of, Whole, Wholes}
use Rattle.volume_rules.specs.Appended.{appended}

pub joined-append : (gs hs : List (List ℕ)) → joined (gs ++ hs) ≡ joined gs ++ joined hs
unfolding joined
joined-append [] hs = refl
joined-append (g ∷ gs) hs = ap (λ l. g ++ l) (joined-append gs hs) ∙ sym (append_assoc g (joined gs) (joined hs))

-- how many cards some headers have together
pub joined-cards : (h : List ℕ) (hs : List (List ℕ)) → Whole h → cards_in (joined (h ∷ hs)) ≡ cards_in h + cards_in (joined hs)
unfolding joined cards_in
joined-cards h hs w = let q : length (h ++ joined hs) ≡ length h + length (joined hs) = length-append h (joined hs) in omega (arith, w.whole)

none : (at : ℕ) → at ≡ at + cards_in (joined [])
unfolding cards_in joined
none at = omega arith

pub directory-append : (f : Row) (at : ℕ) (gs hs : List (List ℕ)) → Wholes gs
    → directory f at (gs ++ hs) ≡ directory f at gs ++ directory f (at + cards_in (joined gs)) hs
unfolding directory
directory-append f at [] hs ws = ap (λ k. directory f k hs) (none at)
directory-append f at (g ∷ gs) hs ws =
    let e : at + cards_in g + cards_in (joined gs) ≡ at + cards_in (joined (g ∷ gs)) = omega (arith, joined-cards g gs ws.0) in
    ap (λ l. entry_card f g at (cards_in g) ++ l) (directory-append f (at + cards_in g) gs hs ws.1)
    ∙ sym (append_assoc (entry_card f g at (cards_in g)) (directory f (at + cards_in g) gs) _)
    ∙ ap (λ k. (entry_card f g at (cards_in g) ++ directory f (at + cards_in g) gs) ++ directory f k hs) e

pub only : (h : List ℕ) → joined (h ∷ []) ≡ h
unfolding joined
only h = append-nil h

single : (f : Row) (at : ℕ) (h : List ℕ) → directory f at (h ∷ []) ≡ entry_card f h at (cards_in h)
unfolding directory
single f at h = append-nil (entry_card f h at (cards_in h))

pub cards-sum : (b h : List ℕ) → length b ≡ 80 * cards_in b → cards_in (b ++ h) ≡ cards_in b + cards_in h
unfolding cards_in
cards-sum b h e = let q : length (b ++ h) ≡ length b + length h = length-append b h in omega arith

-- a stretch behind a front moved up by m
pub moved-behind : (b d x : List ℕ) (m : ℕ) → moved (b ++ (d ++ x)) (length b) (length b + m) (length d) ≡ b ++ (take m (d ++ x) ++ (d ++ drop m x))
unfolding moved
moved-behind b d x m =
    let y : List ℕ = d ++ x in
    let e : length b + m + length d ≡ length b + (length d + m) = omega arith in
    let one : take (length b + m) (b ++ y) ≡ b ++ take m y = take-append-add b y m in
    let two : take (length d) (drop (length b) (b ++ y)) ≡ d = ap (take (length d)) (drop-append_seam b y) ∙ take-append_seam d x in
    let three : drop (length b + m + length d) (b ++ y) ≡ drop m x =
    ap (λ k. drop k (b ++ y)) e ∙ drop-append-add b y (length d + m) ∙ drop-append-add d x m in
    rw (one, two, three) (append_assoc b (take m y) (d ++ drop m x))

-- the four writings of an append, one behind the other
pub four_writes : (b d x h e t : List ℕ) → length h ≤ length (d ++ x)
    → laid_at (laid_at (laid_at (moved (b ++ (d ++ x)) (length b) (length b + length h) (length d)) (length b) h)
    (length b + length h + length d) e) (length b + length h + length d + length e) t
    ≡ b ++ (h ++ (d ++ (e ++ (t ++ drop (length h + length e + length t) x))))
four_writes b d x h e t room =
    let y : List ℕ = d ++ drop (length h) x in
    let p : List ℕ = take (length h) (d ++ x) in
    let p-long : length p ≡ length h = length-take-le (length h) (d ++ x) room in
    let one : laid_at (moved (b ++ (d ++ x)) (length b) (length b + length h) (length d)) (length b) h ≡ b ++ (h ++ y) =
    ap (λ l. laid_at l (length b) h) (moved-behind b d x (length h))
    ∙ laid-behind b (p ++ y) h (length b) refl
    ∙ ap (λ l. b ++ (h ++ l)) (drop_at p y (length h) p-long) in
    let q : List ℕ = (b ++ h) ++ d in
    let q-long : length q ≡ length b + length h + length d = length-append (b ++ h) d ∙ ap (λ k. k + length d) (length-append b h) in
    let three : b ++ (h ++ y) ≡ q ++ drop (length h) x =
    sym (append_assoc b h y) ∙ sym (append_assoc (b ++ h) d (drop (length h) x)) in
    let z : List ℕ = drop (length e) (drop (length h) x) in
    let two : laid_at (b ++ (h ++ y)) (length b + length h + length d) e ≡ q ++ (e ++ z) =
    ap (λ l. laid_at l (length b + length h + length d) e) three ∙ laid-behind q (drop (length h) x) e _ q-long in
    let last : laid_at (q ++ (e ++ z)) (length b + length h + length d + length e) t ≡ (q ++ e) ++ (t ++ drop (length t) z) =
    ap (λ l. laid_at l (length b + length h + length d + length e) t) (sym (append_assoc q e z))
    ∙ laid-behind (q ++ e) z t _ (length-append q e ∙ ap (λ k. k + length e) q-long) in
    let rest : drop (length t) z ≡ drop (length h + length e + length t) x =
    ap (drop (length t)) (drop-drop (length e) (length h) x) ∙ drop-drop (length t) (length h + length e) x in
    ap (λ l. laid_at (laid_at l (length b + length h + length d) e) (length b + length h + length d + length e) t) one
    ∙ ap (λ l. laid_at l (length b + length h + length d + length e) t) two
    ∙ last
    ∙ ap (λ l. (q ++ e) ++ (t ++ l)) rest
    ∙ append_assoc q e _
    ∙ append_assoc (b ++ h) d _
    ∙ append_assoc b h _

-- the volume with a header more
pub volume_append : (f : Row) (hs : List (List ℕ)) (h : List ℕ) → Wholes hs → Whole h → length (joined hs) ≡ 80 * cards_in (joined hs)
    → volume_of f (hs ++ (h ∷ []))
    ≡ joined hs ++ (h ++ (directory f 1 hs ++ (entry_card f h (1 + cards_in (joined hs)) (cards_in h)
    ++ trailer_card f ((1 + cards_in (joined hs)) + cards_in h) (length hs + 1))))
unfolding volume_of
volume_append f hs h ws w long =
    let c : ℕ = cards_in (joined hs) in
    let j : joined (hs ++ (h ∷ [])) ≡ joined hs ++ h = joined-append hs (h ∷ []) ∙ ap (λ l. joined hs ++ l) (only h) in
    let d : directory f 1 (hs ++ (h ∷ [])) ≡ directory f 1 hs ++ entry_card f h (1 + c) (cards_in h) =
    directory-append f 1 hs (h ∷ []) ws ∙ ap (λ l. directory f 1 hs ++ l) (single f (1 + c) h) in
    let n : 1 + cards_in (joined hs ++ h) ≡ 1 + c + cards_in h = ap (λ m. 1 + m) (cards-sum (joined hs) h long) ∙ omega arith in
    let k : length (hs ++ (h ∷ [])) ≡ length hs + 1 = length-append hs (h ∷ []) in
    rw (j, d, k, n)
    (append_assoc (joined hs) h _ ∙ ap (λ l. joined hs ++ (h ++ l)) (append_assoc (directory f 1 hs) _ _))

-- what follows a list of n bytes
drop-whole : (v r : List ℕ) (n m : ℕ) → length v ≡ n → drop (n + m) (v ++ r) ≡ drop m r
drop-whole v r n m e = rw (← e) (drop-append-add v r m)

split : (f : Row) (hs : List (List ℕ)) (r : List ℕ)
    → volume_of f hs ++ r ≡ joined hs ++ (directory f 1 hs ++ (trailer_card f (1 + cards_in (joined hs)) (length hs) ++ r))
unfolding volume_of
split f hs r = append_assoc (joined hs) _ r ∙ ap (λ l. joined hs ++ l) (append_assoc (directory f 1 hs) _ r)

-- appending to a buffer that begins with a volume leaves the volume with a header more, and what lay past its new trailer
pub appended_volume : (f : Row) (hs : List (List ℕ)) (h r : List ℕ) → Wholes hs → Whole h
    → length (joined hs) ≡ 80 * cards_in (joined hs) → length (directory f 1 hs) ≡ 80 * length hs
    → length (volume_of f hs) ≡ 80 * (cards_in (joined hs) + length hs + 1)
    → appended f (1 + cards_in (joined hs)) (length hs) h (volume_of f hs ++ r)
    ≡ volume_of f (hs ++ (h ∷ [])) ++ drop (80 * (cards_in h + 1)) r
unfolding appended
appended_volume f hs h r ws w b_long d_long v_long =
    let c : ℕ = cards_in (joined hs) in
    let k : ℕ = length hs in
    let b : List ℕ = joined hs in
    let d : List ℕ = directory f 1 hs in
    let t : List ℕ = trailer_card f (1 + c) k in
    let n : ℕ = cards_in h in
    let v : volume_of f hs ++ r ≡ b ++ (d ++ (t ++ r)) = split f hs r in
    let z : 1 + c - 1 ≡ c = omega arith in
    let one : take (80 * (1 + c - 1)) (volume_of f hs ++ r) ≡ b = ap₂ (λ m l. take (80 * m) l) z v ∙ take_at b _ (80 * c) b_long in
    let two : take (80 * k) (drop (80 * (1 + c - 1)) (volume_of f hs ++ r)) ≡ d =
    ap₂ (λ m l. take (80 * k) (drop (80 * m) l)) z v
    ∙ ap (take (80 * k)) (drop_at b _ (80 * c) b_long) ∙ take_at d _ (80 * k) d_long in
    let s : 80 * (1 + c + n + k + 1) ≡ 80 * (c + k + 1) + 80 * (n + 1) = omega arith in
    let three : drop (80 * (1 + c + n + k + 1)) (volume_of f hs ++ r) ≡ drop (80 * (n + 1)) r =
    ap (λ m. drop m (volume_of f hs ++ r)) s ∙ drop-whole (volume_of f hs) r _ (80 * (n + 1)) v_long in
    let e : List ℕ = entry_card f h (1 + c) n in
    let u : List ℕ = trailer_card f (1 + c + n) (k + 1) in
    let x : List ℕ = drop (80 * (n + 1)) r in
    rw (one, two, three, volume_append f hs h ws w b_long)
    (sym (append_assoc b _ x ∙ ap (λ l. b ++ l) (append_assoc h _ x ∙ ap (λ l. h ++ l) (append_assoc d _ x ∙ ap (λ l. d ++ l) (append_assoc e u x)))))
