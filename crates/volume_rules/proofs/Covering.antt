-- A directory that covers some cards is the directory of the headers that it tells, and these are the cards; and back.
use Prim.Native.Nat.{ℕ, zero, suc, ◌+◌, ◌*◌, ◌^◌, ◌≤◌, ◌<◌}
use native.Mathlib.Omega.{arith}
use mathlib.Core.Path.{◌≡◌, refl, sym, ap, ap₂, ◌∙◌}
use mathlib.Core.Bool.{true}
use mathlib.Core.List.{List, [], ◌∷◌, ◌++◌}
use lib.Dec.{leb}
use lib.ListN.{length, take, drop, length-append, take-append-drop, drop_of_length-le}
use lib.Seq.{take_at, drop_at, length-take-le, take-add}
use borrow.Author.Tests.{eqb-true, le-leb, leb-true}
use Rattle.base_digits.proofs.digits.Bools.{and_left, and_right}
use Rattle.base_lists.specs.Parts.{alike}
use Rattle.base_lists.proofs.Comparing.{alike_equal, equal_alike}
use Rattle.volume_form.specs.Rows.{Row}
use Rattle.volume_form.specs.Marked.{entry_card, count_on}
use Rattle.header_check.specs.forms.Cards.{cards_in}
use Rattle.volume_rules.specs.Volume.{joined, directory, Whole, Wholes}
use Rattle.volume_rules.specs.Sound.{enters, covers, headers_in}
use Rattle.volume_form.proofs.Cards.{Good, entry_longer, length-entry, count-entry}

-- n cards are n
pub cards_of_lem : (h : List ℕ) (n : ℕ) → length h ≡ 80 * n → cards_in h ≡ n
unfolding cards_in
cards_of_lem h n e = omega arith

pub empty : (b : List ℕ) → length b ≡ 0 → b ≡ []
empty b e = drop_of_length-le b {i = 0} (omega arith)

-- what one directory card says of the cards b
pub record Entered (f : Row) (at n : ℕ) (b card : List ℕ) : Type 0 where
  pub some : 1 ≤ n
  pub within : 80 * n ≤ length b
  pub is : card ≡ entry_card f b at n

pub entered : (f : Row) (at : ℕ) (b card : List ℕ) → enters f at b card ≡ true → Entered f at (count_on f card) b card
unfolding enters
entered f at b card e =
    let n : ℕ = count_on f card in
    let r = and_right (leb 1 n) _ e in
    record {
      some = leb-true 1 n (and_left (leb 1 n) _ e);
      within = leb-true (80 * n) (length b) (and_left (leb (80 * n) (length b)) _ r);
      is = alike_equal card (entry_card f b at n) (and_right (leb (80 * n) (length b)) _ r);
    }

-- what covers the cards b tells headers that are these cards, and is their directory
pub record Covered (f : Row) (at : ℕ) (b d : List ℕ) (k : ℕ) : Type 0 where
  pub body : joined (headers_in f b d k) ≡ b
  pub cards : directory f at (headers_in f b d k) ≡ take (80 * k) d
  pub wholes : Wholes (headers_in f b d k)
  pub number : length (headers_in f b d k) ≡ k

pub covered : (f : Row) (at : ℕ) (b d : List ℕ) (k : ℕ) → covers f at b d k ≡ true → Covered f at b d k
unfolding covers headers_in joined directory
covered f at b d zero e = record { body = sym (empty b (eqb-true (length b) 0 e)); cards = refl; wholes = tt; number = refl }
covered f at b d (suc k) e =
    let card : List ℕ = take 80 d in
    let n : ℕ = count_on f card in
    let h : List ℕ = take (80 * n) b in
    let x = entered f at b card (and_left (enters f at b card) _ e) in
    let r = covered f (at + n) (drop (80 * n) b) (drop 80 d) k (and_right (enters f at b card) _ e) in
    let long : length h ≡ 80 * n = length-take-le (80 * n) b x.within in
    let c : cards_in h ≡ n = cards_of_lem h n long in
    let more : 80 * suc k ≡ 80 + 80 * k = omega arith in
    let same : entry_card f h at n ≡ card =
    sym (entry_longer f h (drop (80 * n) b) at n (omega (arith, x.some))) ∙ ap (λ l. entry_card f l at n) (take-append-drop (80 * n) b) ∙ sym x.is in
    record {
      body = ap (λ l. h ++ l) r.body ∙ take-append-drop (80 * n) b;
      cards =
          ap (λ m. entry_card f h at m ++ directory f (at + m) (headers_in f (drop (80 * n) b) (drop 80 d) k)) c
          ∙ ap₂ (λ l m. l ++ m) same r.cards
          ∙ sym (ap (λ m. take m d) more ∙ take-add 80 (80 * k) d);
      wholes = (record { some = rw c x.some; whole = long ∙ ap (λ m. 80 * m) (sym c) }, r.wholes);
      number = ap suc r.number;
    }

-- a volume's numbers fit their columns
module _ (f : Row) (good : Good f) where
  -- one directory card of a header
  enters_one : (at : ℕ) (h x : List ℕ) → Whole h → at < 10 ^ f.width → cards_in h < 10 ^ f.width
      → enters f at (h ++ x) (entry_card f h at (cards_in h)) ≡ true
  unfolding enters
  enters_one at h x one a b =
      let n : ℕ = cards_in h in
      let l : 80 ≤ length h = omega (arith, one.some, one.whole) in
      let c : count_on f (entry_card f h at n) ≡ n = count-entry f good at n a b h l in
      let u : leb 1 n ≡ true = le-leb 1 n one.some in
      let v : leb (80 * n) (length (h ++ x)) ≡ true = le-leb (80 * n) (length (h ++ x)) (omega (arith, length-append h x, one.whole)) in
      let z : alike (entry_card f h at n) (entry_card f (h ++ x) at n) ≡ true = equal_alike _ _ (sym (entry_longer f h x at n l)) in
      rw (c, u, v, z)

  -- the directory of some headers covers them, and tells them
  pub record Back (at : ℕ) (hs : List (List ℕ)) : Type 0 where
    pub sound : covers f at (joined hs) (directory f at hs) (length hs) ≡ true
    pub told : headers_in f (joined hs) (directory f at hs) (length hs) ≡ hs
    pub long : length (directory f at hs) ≡ 80 * length hs
    pub whole : length (joined hs) ≡ 80 * cards_in (joined hs)

  pub back : (at : ℕ) (hs : List (List ℕ)) → Wholes hs → at + cards_in (joined hs) < 10 ^ f.width → Back at hs
  unfolding covers headers_in joined directory cards_in
  back at [] ws fits = record { sound = refl; told = refl; long = refl; whole = refl }
  back at (h ∷ hs) ws fits =
      let n : ℕ = cards_in h in
      let long : length h ≡ 80 * n = ws.0.whole in
      let some : 1 ≤ n = ws.0.some in
      let all : length (h ++ joined hs) ≡ length h + length (joined hs) = length-append h (joined hs) in
      let r = back (at + n) hs ws.1 (omega arith) in
      let at_small : at < 10 ^ f.width = omega arith in
      let n-small : n < 10 ^ f.width = omega arith in
      let l : 80 ≤ length h = omega arith in
      let e : List ℕ = entry_card f h at n in
      let e_long : length e ≡ 80 = length-entry f good at n at_small n-small h l in
      let t : take 80 (e ++ directory f (at + n) hs) ≡ e = take_at e _ 80 e_long in
      let d : drop 80 (e ++ directory f (at + n) hs) ≡ directory f (at + n) hs = drop_at e _ 80 e_long in
      let c : count_on f e ≡ n = count-entry f good at n at_small n-small h l in
      let u : take (80 * n) (h ++ joined hs) ≡ h = take_at h _ (80 * n) long in
      let v : drop (80 * n) (h ++ joined hs) ≡ joined hs = drop_at h _ (80 * n) long in
      record {
        sound = rw (t, d, c, v, enters_one at h (joined hs) ws.0 at_small n-small) r.sound;
        told = rw (t, d, c, u, v) (ap (λ ls. h ∷ ls) r.told);
        long = length-append e (directory f (at + n) hs) ∙ ap₂ ◌+◌ e_long r.long ∙ omega arith;
        whole = let q = r.whole in omega arith;
      }
