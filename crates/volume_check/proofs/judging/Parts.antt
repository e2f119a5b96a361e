-- The parts of a volume whose trailer points back.
use Prim.Native.Nat.{ℕ, ◌+◌, ◌-◌, ◌*◌, ◌/◌, ◌^◌, ◌≤◌, ◌<◌}
use native.Mathlib.Omega.{arith}
use mathlib.Core.Path.{◌≡◌, refl, sym, ap, ap₂, ◌∙◌}
use mathlib.Core.Bool.{Bool, true, false, not, cond, ◌&&◌}
use mathlib.Core.List.{List}
use lib.ListN.{length, take, drop, length-drop}
use lib.Seq.{length-take-le, take_all}
use lib.Dec.{leb}
use borrow.Author.Tests.{le-leb, lt-leb}
use Rattle.base_refusal.specs.Refusals.{refusal}
use Rattle.header_check.specs.forms.Cards.{cards_in}
use Rattle.volume_form.specs.Rows.{Row, row_of}
use Rattle.volume_form.proofs.Cards.{Good}
use Rattle.volume_rules.specs.Sound.{points, mixed, covers, headers_in, last_card, first_of, body_of, directory_of, headers_of}
use Rattle.volume_rules.specs.Judged.{unless, stated, headers_answer, parts_answer, cards_answer, volume_answer, form_in}
use Rattle.std.specs.Str.{bytes_eq}
use Rattle.base_lists.specs.Parts.{alike}
use Rattle.volume_form.specs.declared.Form.TheVariants.{Old, Wide}
use Rattle.volume_rules.proofs.Exactly.{Pointed, pointed}
use Rattle.volume_rules.proofs.Judging.{stated_so}
use Rattle.volume_check.specs.Steps.{Cards, Trailed}
use Rattle.volume_check.proofs.Comparing.{starts_as}
use Rattle.std.specs.Prelude.{Result, Err, ⊤}
use Rattle.base_refusal.specs.declared.Refusal.{Refusal}

-- the last card
module _ (n : ℕ) (v : List ℕ) (c : Cards n v) where
  pub last_starts : 80 * (n - 1) ≤ length v
  last_starts = omega (arith, c.some, c.whole)

  pub last-part : take (length v - 80 * (n - 1)) (drop (80 * (n - 1)) v) ≡ last_card n v
  unfolding last_card
  last-part = let e : length v - 80 * (n - 1) ≡ 80 = omega (arith, c.some, c.whole) in ap (λ m. take m (drop (80 * (n - 1)) v)) e

  pub last_long : length (last_card n v) ≡ 80
  unfolding last_card
  last_long = length-take-le 80 (drop (80 * (n - 1)) v) (rw length-drop (omega (arith, c.some, c.whole)))

-- the card that it tells
module _ (f : Row) (n : ℕ) (v : List ℕ) (t : Trailed f n v) where
  known : Pointed f n (first_of f n v) (last_card n v)
  unfolding first_of
  known = pointed f n (last_card n v) t.trailer

  pub least : 1 ≤ first_of f n v
  least = known.least

  pub before_last : first_of f n v ≤ n
  before_last = known.within

  pub body_ends : 80 * (first_of f n v - 1) ≤ length v
  body_ends = omega (arith, least, before_last, t.cards.whole)

  pub body_long : length (body_of f n v) ≡ 80 * (first_of f n v - 1)
  unfolding body_of
  body_long = length-take-le (80 * (first_of f n v - 1)) v body_ends

  pub directory-part : take (80 * (n - 1) - 80 * (first_of f n v - 1)) (drop (80 * (first_of f n v - 1)) v) ≡ directory_of f n v
  unfolding directory_of
  directory-part =
      let e : 80 * (n - 1) - 80 * (first_of f n v - 1) ≡ 80 * (n - first_of f n v) = omega (arith, least, before_last) in
      ap (λ m. take m (drop (80 * (first_of f n v - 1)) v)) e

  pub directory_long : length (directory_of f n v) ≡ 80 * (n - first_of f n v)
  unfolding directory_of
  directory_long =
      length-take-le (80 * (n - first_of f n v)) (drop (80 * (first_of f n v - 1)) v) (rw length-drop (omega (arith, least, before_last, t.cards.whole)))

  pub body_fits : Good f → (b : List ℕ) → b ≡ body_of f n v → 1 + length b / 80 < 10 ^ f.width
  body_fits good b e = let l : length b ≡ 80 * (first_of f n v - 1) = ap length e ∙ body_long in omega (arith, least, before_last, t.few, good.roomy)

  -- what is said of the parts is said of the cards
  pub parts_said : (b d : List ℕ) (r : Result ⊤ Refusal) → b ≡ body_of f n v → d ≡ directory_of f n v
      → r ≡ unless (not (mixed f.other d (length d / 80))) 18 (unless (covers f 1 b d (length d / 80)) 19 (headers_answer f (headers_in f b d (length d / 80))))
      → r ≡ cards_answer f n v
  unfolding cards_answer parts_answer headers_of
  parts_said b d r p q e =
      let k : length d / 80 ≡ n - first_of f n v = omega (arith, ap length q ∙ directory_long) in
      e
      ∙ ap (λ m. unless (not (mixed f.other d m)) 18 (unless (covers f 1 b d m) 19 (headers_answer f (headers_in f b d m)))) k
      ∙ ap₂ (λ x y. unless (not (mixed f.other y (n - first_of f n v))) 18 (unless (covers f 1 x y (n - first_of f n v)) 19 (headers_answer f (headers_in f x y (n - first_of f n v))))) p q
      ∙ sym (ap (λ x. unless x 18 (unless (not (mixed f.other (directory_of f n v) (n - first_of f n v))) 18 (unless (covers f 1 (body_of f n v) (directory_of f n v) (n - first_of f n v)) 19
      (headers_answer f (headers_in f (body_of f n v) (directory_of f n v) (n - first_of f n v)))))) t.trailer)

-- no trailer
pub no_trailer : (f : Row) (n : ℕ) (v : List ℕ) → points f n (last_card n v) ≡ false → Err (refusal 18 0 0) ≡ cards_answer f n v
unfolding cards_answer
no_trailer f n v e = rw e

-- the stated number
module _ (f : Row) (n : ℕ) (buffer : List ℕ) where
  pub not-stated : stated f n (length buffer / 80) ≡ false → Err (refusal 18 0 0) ≡ volume_answer f n buffer
  unfolding volume_answer cards_in
  not-stated e = rw e

  pub stated-cards : stated f n (length buffer / 80) ≡ true → Cards n (take (80 * n) buffer)
  stated-cards e =
      let s = stated_so f n (length buffer / 80) e in
      record { some = s.some; whole = front n buffer s.held }
    where
      front : (n : ℕ) (b : List ℕ) → n ≤ length b / 80 → length (take (80 * n) b) ≡ 80 * n
      front n b h = length-take-le (80 * n) b (omega arith)

  pub stated-few : stated f n (length buffer / 80) ≡ true → n ≤ f.most
  stated-few e = (stated_so f n (length buffer / 80) e).few

  pub stated-held : stated f n (length buffer / 80) ≡ true → 80 * n ≤ length buffer
  stated-held e = let s = stated_so f n (length buffer / 80) e in omega (arith, s.held)

  pub stated-said : stated f n (length buffer / 80) ≡ true → (r : Result ⊤ Refusal) → r ≡ cards_answer f n (take (80 * n) buffer) → r ≡ volume_answer f n buffer
  unfolding volume_answer cards_in
  stated-said e r a = rw e a

-- the form
module _ (n : ℕ) (buffer : List ℕ) where
  pub form-none : n ≡ 0 → Old ≡ form_in n buffer
  unfolding form_in
  form-none e = rw e

  pub form_short : (n ≡ 0 → ⊥) → length buffer / 80 < n → Old ≡ form_in n buffer
  unfolding form_in cards_in
  form_short s e = rw (lt-leb n (length buffer / 80) e) (go (leb 1 n))
    where
      go : (t : Bool) → Old ≡ cond (t && false) (cond (alike (take 5 (drop (80 * (n - 1)) buffer)) (row_of Wide).trailer) Wide Old) Old
      go true = refl
      go false = refl

  module _ (s : n ≡ 0 → ⊥) (held : n ≤ length buffer / 80) (code : List ℕ) (is : code ≡ (row_of Wide).trailer) (t : Bool)
      (told : t ≡ bytes_eq code (take (length code) (take (length buffer - 80 * (n - 1)) (drop (80 * (n - 1)) buffer)))) where
    five : alike (take 5 (drop (80 * (n - 1)) buffer)) (row_of Wide).trailer ≡ t
    unfolding row_of
    five =
        let l = drop (80 * (n - 1)) buffer in
        let e : take (length buffer - 80 * (n - 1)) l ≡ l = take_all (length buffer - 80 * (n - 1)) l (rw length-drop (omega arith)) in
        sym (told ∙ ap₂ (λ o m. bytes_eq o (take (length o) m)) is e ∙ starts_as (take 5 l) (row_of Wide).trailer)

    by_code : cond t Wide Old ≡ form_in n buffer
    unfolding form_in cards_in
    by_code = rw (le-leb 1 n (omega arith), le-leb n (length buffer / 80) held, five)

    pub form_wide : t ≡ true → Wide ≡ form_in n buffer
    form_wide e = sym (ap (λ x. cond x Wide Old) e) ∙ by_code

    pub form_old : t ≡ false → Old ≡ form_in n buffer
    form_old e = sym (ap (λ x. cond x Wide Old) e) ∙ by_code

-- what is said of the parts, test by test
module _ (f : Row) (b d : List ℕ) (m : Bool) (m-is : m ≡ mixed f.other d (length d / 80)) where
  abbrev said : Result ⊤ Refusal
  said = unless (not (mixed f.other d (length d / 80))) 18 (unless (covers f 1 b d (length d / 80)) 19 (headers_answer f (headers_in f b d (length d / 80))))

  pub parts-mixed : m ≡ true → Err (refusal 18 0 0) ≡ said
  parts-mixed e = rw (← m-is, e)

  module _ (plain : m ≡ false) (t : Bool) (t-is : t ≡ covers f 1 b d (length d / 80)) where
    pub parts-covered : t ≡ true → headers_answer f (headers_in f b d (length d / 80)) ≡ said
    parts-covered e = rw (← m-is, plain, ← t-is, e)

    pub parts_uncovered : t ≡ false → Err (refusal 19 0 0) ≡ said
    parts_uncovered e = rw (← m-is, plain, ← t-is, e)
