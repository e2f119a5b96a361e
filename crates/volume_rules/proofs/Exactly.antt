-- A reader takes some cards for a volume exactly if they are the volume of some headers; and then it tells these.
use Prim.Native.Nat.{ℕ, ◌+◌, ◌-◌, ◌*◌, ◌^◌, ◌≤◌, ◌<◌}
use native.Mathlib.Omega.{arith}
use mathlib.Core.Path.{◌≡◌, refl, sym, ap, ap₂, ◌∙◌}
use mathlib.Core.Bool.{true}
use mathlib.Core.List.{List, ◌++◌, append_assoc}
use lib.Dec.{leb}
use lib.ListN.{length, take, drop, length-append, length-drop, take-append-drop}
use lib.Seq.{take_at, drop_at, length-take-le, take_all, drop-drop, take-take}
use borrow.Author.Tests.{le-leb, leb-true}
use Rattle.base_digits.proofs.digits.Bools.{and_left, and_right}
use Rattle.base_lists.proofs.Comparing.{alike_equal, equal_alike}
use Rattle.volume_form.specs.Rows.{Row}
use Rattle.volume_form.specs.Marked.{trailer_card, first_on}
use Rattle.header_check.specs.forms.Cards.{cards_in}
use Rattle.volume_rules.specs.Volume.{joined, directory, volume_of, Wholes}
use Rattle.volume_rules.specs.Sound.{points, headers_in, last_card, first_of, body_of, directory_of, headers_of, sound}
use Rattle.volume_form.proofs.Cards.{Good, length-trailer, first-trailer}
use Rattle.volume_rules.proofs.Covering.{cards_of_lem, covered, back, Back}

-- a trailer that points back
pub record Pointed (f : Row) (n at : ℕ) (t : List ℕ) : Type 0 where
  pub least : 1 ≤ at
  pub within : at ≤ n
  pub is : t ≡ trailer_card f at (n - at)

pub pointed : (f : Row) (n : ℕ) (t : List ℕ) → points f n t ≡ true → Pointed f n (first_on f t) t
unfolding points
pointed f n t e =
    let at : ℕ = first_on f t in
    let r = and_right (leb 1 at) _ e in
    record {
      least = leb-true 1 at (and_left (leb 1 at) _ e);
      within = leb-true at n (and_left (leb at n) _ r);
      is = alike_equal t (trailer_card f at (n - at)) (and_right (leb at n) _ r);
    }

-- three parts of n cards
parts : (v : List ℕ) (n at : ℕ) → length v ≡ 80 * n → 1 ≤ at → at ≤ n
    → take (80 * (at - 1)) v ++ (take (80 * (n - at)) (drop (80 * (at - 1)) v) ++ take 80 (drop (80 * (n - 1)) v)) ≡ v
parts v n at l h g =
    let p : ℕ = 80 * (at - 1) in
    let q : ℕ = 80 * (n - at) in
    let e : 80 * (n - 1) ≡ p + q = omega arith in
    let a : take 80 (drop (80 * (n - 1)) v) ≡ drop q (drop p v) =
    take_all 80 (drop (80 * (n - 1)) v) (rw length-drop (omega arith)) ∙ ap (λ k. drop k v) e ∙ sym (drop-drop q p v) in
    ap (λ r. take p v ++ (take q (drop p v) ++ r)) a ∙ ap (λ r. take p v ++ r) (take-append-drop q (drop p v)) ∙ take-append-drop p v

module _ (f : Row) (n : ℕ) (v : List ℕ) (l : length v ≡ 80 * n) where
  pub body_long : 1 ≤ first_of f n v → first_of f n v ≤ n → length (body_of f n v) ≡ 80 * (first_of f n v - 1)
  unfolding body_of
  body_long h g = length-take-le (80 * (first_of f n v - 1)) v (omega arith)

  dir_all : take (80 * (n - first_of f n v)) (directory_of f n v) ≡ directory_of f n v
  unfolding directory_of
  dir_all = take-take (80 * (n - first_of f n v)) (80 * (n - first_of f n v)) (drop (80 * (first_of f n v - 1)) v) (omega arith)

  whole : 1 ≤ first_of f n v → first_of f n v ≤ n → body_of f n v ++ (directory_of f n v ++ last_card n v) ≡ v
  unfolding body_of directory_of last_card
  whole h g = parts v n (first_of f n v) l h g

  point_first : points f n (last_card n v) ≡ true → Pointed f n (first_of f n v) (last_card n v)
  unfolding first_of
  point_first e = pointed f n (last_card n v) e

  -- n sound cards are the volume of the headers that they tell
  pub sound_volume : sound f n v ≡ true
      → (volume_of f (headers_of f n v) ≡ v) × Wholes (headers_of f n v) × (n ≡ cards_in (joined (headers_of f n v)) + length (headers_of f n v) + 1)
  unfolding sound headers_of volume_of
  sound_volume e =
      let t : List ℕ = last_card n v in
      let at : ℕ = first_of f n v in
      let x : Pointed f n at t = point_first (and_left (points f n t) _ e) in
      let k : ℕ = n - at in
      let b : List ℕ = body_of f n v in
      let d : List ℕ = directory_of f n v in
      let r = covered f 1 b d k (and_right (points f n t) _ e) in
      let hs : List (List ℕ) = headers_in f b d k in
      let b_long : length b ≡ 80 * (at - 1) = body_long x.least x.within in
      let one : 1 + (at - 1) ≡ at = omega (arith, x.least) in
      let c : 1 + cards_in (joined hs) ≡ at = ap (λ s. 1 + cards_in s) r.body ∙ ap (λ m. 1 + m) (cards_of_lem b (at - 1) b_long) ∙ one in
      let d-all : directory f 1 hs ≡ d = r.cards ∙ dir_all in (
        ap₂ (λ p q. p ++ (q ++ trailer_card f (1 + cards_in (joined hs)) (length hs))) r.body d-all
            ∙ ap₂ (λ p q. b ++ (d ++ trailer_card f p q)) c r.number
            ∙ ap (λ p. b ++ (d ++ p)) (sym x.is)
            ∙ whole x.least x.within,
        r.wholes,
        omega (arith, c, r.number, x.least, x.within),
      )

-- the parts of three parts
module _ (b d t : List ℕ) (c k : ℕ) (b_long : length b ≡ 80 * c) (d_long : length d ≡ 80 * k) (t_long : length t ≡ 80) where
  three_long : length (b ++ (d ++ t)) ≡ 80 * (c + k + 1)
  three_long = let p = length-append b (d ++ t) in let q = length-append d t in omega arith

  three_body : take (80 * c) (b ++ (d ++ t)) ≡ b
  three_body = take_at b (d ++ t) (80 * c) b_long

  three_directory : take (80 * k) (drop (80 * c) (b ++ (d ++ t))) ≡ d
  three_directory = ap (take (80 * k)) (drop_at b (d ++ t) (80 * c) b_long) ∙ take_at d t (80 * k) d_long

  three_last : take 80 (drop (80 * (c + k)) (b ++ (d ++ t))) ≡ t
  three_last =
      ap (λ l. take 80 (drop (80 * (c + k)) l)) (sym (append_assoc b d t))
      ∙ ap (take 80) (drop_at (b ++ d) t (80 * (c + k)) (let p = length-append b d in omega arith))
      ∙ take_all 80 t (omega arith)

-- the volume of some headers is sound, and tells them
module _ (f : Row) (good : Good f) (hs : List (List ℕ)) (ws : Wholes hs) (fits : cards_in (joined hs) + length hs + 1 < 10 ^ f.width) where
  abbrev c : ℕ
  c = cards_in (joined hs)

  abbrev k : ℕ
  k = length hs

  abbrev t : List ℕ
  t = trailer_card f (1 + c) k

  at_small : (1 + c) < 10 ^ f.width
  at_small = omega arith

  k_small : k < 10 ^ f.width
  k_small = omega arith

  r : Back f good 1 hs
  r = back f good 1 hs ws at_small

  t_long : length t ≡ 80
  t_long = length-trailer f good (1 + c) k at_small k_small

  pub volume_long : length (volume_of f hs) ≡ 80 * (c + k + 1)
  unfolding volume_of
  volume_long = three_long (joined hs) (directory f 1 hs) t c k r.whole r.long t_long

  last-is : last_card (c + k + 1) (volume_of f hs) ≡ t
  unfolding last_card volume_of
  last-is = let e : c + k + 1 - 1 ≡ c + k = omega arith in rw e (three_last (joined hs) (directory f 1 hs) t c k r.whole r.long t_long)

  pub first-is : first_of f (c + k + 1) (volume_of f hs) ≡ (1 + c)
  unfolding first_of
  first-is = ap (first_on f) last-is ∙ first-trailer f good (1 + c) k at_small k_small

  pub body_is : body_of f (c + k + 1) (volume_of f hs) ≡ joined hs
  unfolding body_of volume_of
  body_is =
      let e : (1 + c) - 1 ≡ c = omega arith in
      ap (λ m. take (80 * (m - 1)) (volume_of f hs)) first-is
      ∙ ap (λ m. take (80 * m) (volume_of f hs)) e
      ∙ three_body (joined hs) (directory f 1 hs) t c k r.whole r.long t_long

  pub directory-is : directory_of f (c + k + 1) (volume_of f hs) ≡ directory f 1 hs
  unfolding directory_of volume_of
  directory-is =
      let e : (1 + c) - 1 ≡ c = omega arith in
      let g : c + k + 1 - (1 + c) ≡ k = omega arith in
      ap (λ m. take (80 * (c + k + 1 - m)) (drop (80 * (m - 1)) (volume_of f hs))) first-is
      ∙ ap₂ (λ m p. take (80 * m) (drop (80 * p) (volume_of f hs))) g e
      ∙ three_directory (joined hs) (directory f 1 hs) t c k r.whole r.long t_long

  pub number_is : c + k + 1 - first_of f (c + k + 1) (volume_of f hs) ≡ k
  number_is = omega (arith, first-is)

  points-is : points f (c + k + 1) t ≡ true
  unfolding points
  points-is =
      let g : c + k + 1 - (1 + c) ≡ k = omega arith in
      rw (first-trailer f good (1 + c) k at_small k_small, g, le-leb 1 (1 + c) (omega arith), le-leb (1 + c) (c + k + 1) (omega arith)) (equal_alike t t refl)

  pub volume_sound : sound f (c + k + 1) (volume_of f hs) ≡ true
  unfolding sound
  volume_sound = rw (last-is, body_is, directory-is, number_is, points-is) r.sound

  pub volume_told : headers_of f (c + k + 1) (volume_of f hs) ≡ hs
  unfolding headers_of
  volume_told = rw (body_is, directory-is, number_is) r.told
