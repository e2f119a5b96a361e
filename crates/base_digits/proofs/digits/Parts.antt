-- Parts of columns, as code lends them.
use Prim.Native.Nat.{ℕ, suc, ◌-◌, ◌<◌}
use native.Mathlib.Omega.{arith}
use mathlib.Core.Path.{◌≡◌, ap, ap₂, ◌∙◌}
use mathlib.Core.List.{List, ◌∷◌, ◌++◌, append-nil}
use lib.ListN.{length, take, drop, set, length-drop, drop_of_length-le}
use lib.Seq.{take_all, drop-cons, drop-set-lt, get_or-set_same, lt-length-set}
use borrow.Rule.Slice.PartMut.{put_mid, same_len_mid}

-- a part that goes to the end
pub rest_part : (k : ℕ) (s : List ℕ) → take (length s - k) (drop k s) ≡ drop k s
rest_part k s = take_all (length s - k) (drop k s) (rw length-drop (omega arith))

-- how long it is
pub rest_length : (k : ℕ) (s : List ℕ) → length (take (length s - k) (drop k s)) ≡ length s - k
rest_length k s = ap length (rest_part k s) ∙ length-drop k s

-- what is put where it stood
pub put_rest : (k : ℕ) (s t : List ℕ) → put_mid k (length s - k) s t ≡ take k s ++ t
put_rest k s t =
    ap (λ (l : List ℕ). take k s ++ (t ++ l)) (drop_of_length-le (drop k s) {i = length s - k} (rw length-drop (omega arith)))
    ∙ ap (λ (l : List ℕ). take k s ++ l) (append-nil t)

pub put_length : (k : ℕ) (s t : List ℕ) → length t ≡ length (take (length s - k) (drop k s)) → length (put_mid k (length s - k) s t) ≡ length s
put_length k s t h = same_len_mid k (length s - k) s t h

-- what stands from a place on, once it is written
pub placed : (j d : ℕ) (s : List ℕ) → j < length s → drop j (set s j d) ≡ d ∷ drop (suc j) s
placed j d s inside =
    drop-cons (set s j d) j 0 (lt-length-set s j d inside)
    ∙ ap₂ (λ x t. x ∷ t) (get_or-set_same s j d 0 inside) (drop-set-lt (suc j) s j d (omega arith))
