-- The parts of an accepted volume in its buffer, and what is left there once it has another form or is compacted.
use Prim.Native.Nat.{ℕ, ◌+◌, ◌-◌, ◌*◌, ◌/◌, ◌^◌, ◌≤◌, ◌<◌}
use native.Mathlib.Omega.{arith}
use mathlib.Core.Path.{◌≡◌, sym, ap, ap₂, ◌∙◌}
use mathlib.Core.Bool.{Bool, true, ◌&&◌}
use lib.Dec.{leb}
use borrow.Author.Tests.{leb-true, le-leb, lt-leb}
use Rattle.base_digits.proofs.digits.Bools.{and_left}
use mathlib.Core.List.{List, ◌++◌, append_assoc}
use lib.ListN.{length, take, drop, replicate, length-append, length-drop, take-append-drop}
use lib.Seq.{take_all, take_at, take-take, length-take-le, drop-append-le, take-append-le}
use Rattle.base_refusal.specs.declared.Refusal.{Refusal}
use Rattle.header_check.specs.forms.Cards.{cards_in}
use Rattle.volume_form.specs.Moved.{laid_at, moved}
use Rattle.volume_form.specs.declared.Form.{Form}
use Rattle.volume_form.specs.Rows.{Row, row_of}
use Rattle.volume_form.specs.Marked.{trailer_card}
use Rattle.volume_form.proofs.Cards.{Good, good_row, length-trailer}
use Rattle.volume_rules.specs.Volume.{joined, directory, volume_of}
use Rattle.volume_rules.specs.Sound.{covers, headers_in, last_card, first_of, body_of, directory_of, headers_of}
use Rattle.volume_rules.specs.Judged.{unless, volume_answer}
use Rattle.volume_rules.specs.Converted.{few_on, holds, convert_checked}
use Rattle.volume_rules.specs.Latest.{latest, compacted}
use Rattle.volume_rules.specs.SameLine.{same_line}
use Rattle.volume_rules.specs.Packed.{Packed}
use Rattle.volume_rules.proofs.Covering.{cards_of_lem, Covered, covered, back}
use Rattle.volume_rules.proofs.Judging.{Sounds, sounds, accepted_volume, then_passed, unless-passed}
use Rattle.volume_rules.proofs.Superseded.{few-told}
use Rattle.volume_rules.proofs.Converting.{convert_whole}
use Rattle.volume_rules.proofs.Closing.{compact_whole}
use Rattle.volume_check.specs.Steps.{Trailed}
use Rattle.volume_check.proofs.Placing.{trailed, held}
use Rattle.volume_check.proofs.judging.Parts.{least, before_last, last_long, directory_long}
use Rattle.volume_edit.specs.Parts.{Listed, Closes}
use Rattle.volume_edit.proofs.convert.Steps.{parts₀}
use Rattle.std.specs.Prelude.{Result, Err, ⊤}
use Rattle.base_refusal.specs.Refusals.{no_refusal}

module _ (f : Row) (good : Good f) (n : ℕ) (s : List ℕ) (accepted : volume_answer f n s ≡ no_refusal) (first : ℕ)
    (first-is : first ≡ first_of f n (take (80 * n) s)) where
  abbrev v : List ℕ
  v = take (80 * n) s

  abbrev x : List ℕ
  x = drop (80 * n) s

  abbrev b : List ℕ
  b = take (80 * (first - 1)) s

  abbrev d : List ℕ
  d = take (80 * (n - first)) (drop (80 * (first - 1)) s)

  abbrev t : List ℕ
  t = last_card n (take (80 * n) s)

  tr : Trailed f n (take (80 * n) s)
  tr = trailed f good n s accepted

  known : Sounds f good n s
  known = sounds f good n s accepted

  pub first-least : 1 ≤ first
  first-least = omega (arith, first-is, least f n v tr)

  pub first-within : first ≤ n
  first-within = omega (arith, first-is, before_last f n v tr)

  pub all_held : 80 * n ≤ length s
  all_held = held f good n s accepted

  pub few_enough : n < 10 ^ f.width
  few_enough = omega (arith, tr.few, good.roomy)

  v_long : length v ≡ 80 * n
  v_long = tr.cards.whole

  s_is : s ≡ v ++ x
  s_is = sym (take-append-drop (80 * n) s)

  b_is : b ≡ body_of f n v
  unfolding body_of
  b_is =
      let F : ℕ = first_of f n v in
      ap (λ m. take (80 * (m - 1)) s) first-is ∙ sym (take-take (80 * (F - 1)) (80 * n) s (omega (arith, before_last f n v tr)))

  d_is : d ≡ directory_of f n v
  unfolding directory_of
  d_is =
      let F : ℕ = first_of f n v in
      let l : 1 ≤ F = least f n v tr in
      let w : F ≤ n = before_last f n v tr in
      ap (λ m. take (80 * (n - m)) (drop (80 * (m - 1)) s)) first-is
      ∙ ap (λ l. take (80 * (n - F)) (drop (80 * (F - 1)) l)) s_is
      ∙ ap (take (80 * (n - F))) (drop-append-le (80 * (F - 1)) v x (omega (arith, v_long)))
      ∙ take-append-le (80 * (n - F)) (drop (80 * (F - 1)) v) x (rw length-drop (omega (arith, v_long)))

  hs_is : headers_in f b d (n - first) ≡ headers_of f n v
  unfolding headers_of
  hs_is =
      ap₂ (λ u w. headers_in f u w (n - first)) b_is d_is ∙ ap (λ m. headers_in f (body_of f n v) (directory_of f n v) (n - m)) first-is

  over : covers f 1 b d (n - first) ≡ true
  over =
      ap₂ (λ u w. covers f 1 u w (n - first)) b_is d_is ∙ ap (λ m. covers f 1 (body_of f n v) (directory_of f n v) (n - m)) first-is ∙ known.covers_well

  b_long : length b ≡ 80 * (first - 1)
  b_long = length-take-le (80 * (first - 1)) s (omega (arith, all_held, first-within))

  d_long : length d ≡ 80 * (n - first)
  d_long = length-take-le (80 * (n - first)) (drop (80 * (first - 1)) s) (rw length-drop (omega (arith, all_held, first-within, first-least)))

  t_long : length t ≡ 80
  t_long = last_long n v tr.cards

  rest_is : drop (80 * (first - 1 + (n - first))) s ≡ t ++ x
  unfolding last_card
  rest_is =
      let e : first - 1 + (n - first) ≡ n - 1 = omega (arith, first-within, first-least) in
      ap (λ m. drop (80 * m) s) e ∙ ap (drop (80 * (n - 1))) s_is
      ∙ drop-append-le (80 * (n - 1)) v x (omega (arith, v_long))
      ∙ ap (λ l. l ++ x) (sym (take_all 80 (drop (80 * (n - 1)) v) (rw length-drop (omega (arith, v_long)))))

  -- what the walks over the directory ask
  pub listed : (g : Row) → n < 10 ^ g.width → Listed f g (first - 1) (n - first) s
  listed g small = record {
    room = omega (arith, all_held, first-within, first-least);
    over = over;
    small = omega (arith, few_enough, first-within, first-least);
    small' = omega (arith, first-within, first-least);
  }

  whole_is : s ≡ (b ++ (d ++ t)) ++ x
  whole_is =
      parts₀ s (first - 1) (n - first) ∙ ap (λ l. b ++ (d ++ l)) rest_is
      ∙ ap (λ l. b ++ l) (sym (append_assoc d t x)) ∙ sym (append_assoc b (d ++ t) x)

  front_long : length (b ++ (d ++ t)) ≡ 80 * n
  front_long =
      length-append b (d ++ t) ∙ ap₂ ◌+◌ b_long (length-append d t ∙ ap₂ ◌+◌ d_long t_long) ∙ omega (arith, first-within, first-least)

  front_is : volume_of f (headers_in f b d (n - first)) ≡ b ++ (d ++ t)
  front_is =
      ap (volume_of f) hs_is ∙ sym (accepted_volume f good n s accepted).bytes
      ∙ ap (take (80 * n)) whole_is ∙ take_at (b ++ (d ++ t)) x (80 * n) front_long

  told : Covered f 1 b d (n - first)
  told = covered f 1 b d (n - first) over

  -- in another form
  pub converted_left : (g : Row) → Good g → n < 10 ^ g.width → (u r c : List ℕ)
      → u ≡ b ++ (directory g 1 (headers_in f b d (n - first)) ++ drop (80 * (first - 1 + (n - first))) s)
      → c ≡ trailer_card g first (n - first) → r ≡ laid_at u (80 * (n - 1)) c → r ≡ volume_of g (headers_of f n v) ++ x
  converted_left g good' small u r c u-is c-is r-is =
      let HS : List (List ℕ) = headers_in f b d (n - first) in
      let body : cards_in (joined HS) ≡ first - 1 = ap cards_in told.body ∙ cards_of_lem b (first - 1) b_long in
      let D-long : length (directory g 1 HS) ≡ 80 * (n - first) =
      (back g good' 1 HS told.wholes (omega (arith, body, first-within, first-least))).long ∙ ap (λ m. 80 * m) told.number in
      let e : n - 1 ≡ first - 1 + (n - first) = omega (arith, first-within, first-least) in
      let o : first ≡ 1 + (first - 1) = omega (arith, first-least) in
      let T-long = length-trailer g good' (1 + (first - 1)) (n - first) (omega (arith, first-within, first-least)) (omega (arith, first-within, first-least)) in
      r-is
      ∙ ap₂ (λ l m. laid_at l (80 * m) c) (u-is ∙ ap (λ l. b ++ (directory g 1 HS ++ l)) rest_is) e
      ∙ ap (laid_at (b ++ (directory g 1 HS ++ (t ++ x))) (80 * (first - 1 + (n - first)))) (c-is ∙ ap (λ m. trailer_card g m (n - first)) o)
      ∙ convert_whole f g b d t x (first - 1) (n - first) b_long d_long t_long over D-long T-long
      ∙ ap (λ l. volume_of g l ++ x) hs_is

  -- the trailer's numbers fit, and it has its place
  pub trailer-fits : (g : Row) → n < 10 ^ g.width → (first < 10 ^ g.width) × (n - first < 10 ^ g.width)
  trailer-fits g small = (omega (arith, first-within), omega arith)

  pub lay_fits : (g : Row) → Good g → n < 10 ^ g.width → (u : List ℕ)
      → u ≡ b ++ (directory g 1 (headers_in f b d (n - first)) ++ drop (80 * (first - 1 + (n - first))) s) → 80 * (n - 1) + 80 ≤ length u
  lay_fits g good' small u u-is =
      let HS : List (List ℕ) = headers_in f b d (n - first) in
      let body : cards_in (joined HS) ≡ first - 1 = ap cards_in told.body ∙ cards_of_lem b (first - 1) b_long in
      let D-long : length (directory g 1 HS) ≡ 80 * (n - first) =
      (back g good' 1 HS told.wholes (omega (arith, body, first-within, first-least))).long ∙ ap (λ m. 80 * m) told.number in
      let y : List ℕ = drop (80 * (first - 1 + (n - first))) s in
      let o = length-append b (directory g 1 HS ++ y) in
      let p = length-append (directory g 1 HS) y in
      let z = length-drop (80 * (first - 1 + (n - first))) s in
      omega (arith, ap length u-is, b_long, D-long, all_held, first-within, first-least)

  -- compacted
  module _ (u : List ℕ) (to j : ℕ)
      (packed : Packed f b d (drop (80 * (first - 1 + (n - first))) s) (first - 1) (n - first) u to j) where
    u_long : length u ≡ length s
    u_long =
        let K : List (List ℕ) = latest same_line (headers_in f b d (n - first)) in
        let y : List ℕ = drop (80 * (first - 1 + (n - first))) s in
        let o = length-append (joined K) (packed.gap ++ (directory f 1 K ++ (packed.hole ++ y))) in
        let p = length-append packed.gap (directory f 1 K ++ (packed.hole ++ y)) in
        let q = length-append (directory f 1 K) (packed.hole ++ y) in
        let w = length-append packed.hole y in
        let z = length-drop (80 * (first - 1 + (n - first))) s in
        omega (arith, ap length packed.is, packed.cards, packed.listed, packed.gap_is, packed.hole-is, all_held, first-within, first-least)

    pub closes : Closes f (first - 1) to j n u
    closes = record {
      held = omega (arith, all_held, u_long);
      down = omega (arith, packed.gap_is);
      lines = omega (arith, packed.hole-is, first-within, first-least);
      small = few_enough;
    }

    pub kept-number : to + j + 1 ≡ cards_in (joined (latest same_line (headers_of f n v))) + length (latest same_line (headers_of f n v)) + 1
    kept-number =
        sym (ap₂ (λ p q. p + q + 1) (cards_of_lem (joined (latest same_line (headers_in f b d (n - first)))) to packed.cards) packed.lines)
        ∙ ap (λ l. cards_in (joined (latest same_line l)) + length (latest same_line l) + 1) hs_is

    pub compacted_left : (r : List ℕ)
        → r ≡ laid_at (laid_at (moved u (80 * (first - 1)) (80 * to) (80 * j)) (80 * (to + j)) (trailer_card f (1 + to) j)) (80 * (to + j + 1))
        (replicate (80 * n - 80 * (to + j + 1)) 32)
        → r ≡ compacted same_line f (headers_of f n v) s
    compacted_left r r-is =
        let e : n ≡ first - 1 + (n - first) + 1 = omega (arith, first-within, first-least) in
        let p : Packed f b d (t ++ x) (first - 1) (n - first) u to j = rw (← rest_is) packed in
        r-is
        ∙ ap (λ m. laid_at (laid_at (moved u (80 * (first - 1)) (80 * to) (80 * j)) (80 * (to + j)) (trailer_card f (1 + to) j)) (80 * (to + j + 1))
        (replicate (80 * m - 80 * (to + j + 1)) 32)) e
        ∙ compact_whole f good b d t x (first - 1) (n - first) u to j b_long d_long t_long (omega (arith, few_enough, first-within, first-least)) front_is p
        ∙ ap₂ (λ l m. compacted same_line f l m) hs_is (sym whole_is)

-- whether a form holds an accepted volume, told from its directory
pub holds-told : (f : Row) (good : Good f) (n : ℕ) (s : List ℕ) → volume_answer f n s ≡ no_refusal → (g : Row) (largest most : ℕ) (D : List ℕ) (t : Bool)
    → largest ≡ g.largest → most ≡ g.most → D ≡ directory_of f n (take (80 * n) s) → t ≡ few_on f largest D (length D / 80)
    → n ≤ most → t ≡ holds g n (headers_of f n (take (80 * n) s))
unfolding holds headers_of
holds-told f good n s accepted g largest most D t l-is m-is D-is t-is fits =
    let v : List ℕ = take (80 * n) s in
    let k : ℕ = n - first_of f n v in
    let long : length D / 80 ≡ k = let e = ap length D-is ∙ directory_long f n v (trailed f good n s accepted) in omega arith in
    sym (ap (λ b. b && t) (le-leb n most fits)) ∙ ap₂ (λ m u. leb n m && u) m-is
    (t-is ∙ ap (few_on f largest D) long ∙ ap₂ (λ m l. few_on f m l k) l-is D-is
    ∙ few-told f g.largest 1 (body_of f n v) (directory_of f n v) k (sounds f good n s accepted).covers_well)

pub held-not : (g : Row) (n most : ℕ) (hs : List (List ℕ)) → most ≡ g.most → most < n → leb n most ≡ holds g n hs
unfolding holds
held-not g n most hs m-is h = rw (← m-is, lt-leb n most h)

-- what is said before a conversion
module _ (f g : Row) (n : ℕ) (s : List ℕ) where
  pub convert_good : volume_answer f n s ≡ no_refusal → (y : Result ⊤ Refusal)
      → y ≡ unless (holds g n (headers_of f n (take (80 * n) s))) 21 no_refusal → y ≡ convert_checked f g n s
  unfolding convert_checked
  convert_good e y y_is = rw e y_is

  pub convert_bad : (r : Refusal) → volume_answer f n s ≡ Err r → Err r ≡ convert_checked f g n s
  unfolding convert_checked
  convert_bad r e = rw e

  pub convert_may : convert_checked f g n s ≡ no_refusal → (volume_answer f n s ≡ no_refusal) × (n ≤ g.most)
  unfolding convert_checked holds
  convert_may e =
      let a = then_passed (volume_answer f n s) _ e in
      let c = unless-passed (holds g n (headers_of f n (take (80 * n) s))) 21 no_refusal a.1 in
      (a.0, leb-true n g.most (and_left (leb n g.most) _ c.0))

pub may : (from to : Form) (n : ℕ) (s : List ℕ) → convert_checked (row_of from) (row_of to) n s ≡ no_refusal
    → (volume_answer (row_of from) n s ≡ no_refusal) × (n < 10 ^ (row_of to).width)
may from to n s e = let m = convert_may (row_of from) (row_of to) n s e in (m.0, omega (arith, m.1, (good_row to).roomy))
