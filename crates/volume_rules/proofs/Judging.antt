-- A buffer is accepted exactly if it begins with the volume of headers that are accepted.
use Prim.Native.Nat.{ℕ, zero, suc, ◌+◌, ◌-◌, ◌*◌, ◌%◌, ◌^◌, ◌≤◌, ◌<◌}
use native.Mathlib.Omega.{arith}
use mathlib.Core.Path.{◌≡◌, refl, sym, ap, ap₂, ◌∙◌}
use mathlib.Core.Bool.{Bool, true, false, cond, not, ◌&&◌, false≢true}
use mathlib.Core.List.{List, [], ◌∷◌}
use lib.ListN.{length, take, drop, length-take}
use lib.Seq.{length-take-le, take-take}
use lib.Dec.{eqb, leb, ltb}
use borrow.Author.Tests.{le-leb, leb-true, le-ltb, eq-eqb, ltb-false}
use Rattle.base_digits.proofs.digits.Bools.{and_left, and_right}
use Rattle.base_refusal.specs.declared.Refusal.{Refusal}
use Rattle.base_refusal.specs.Refusals.{refusal, no_refusal}
use Rattle.header_check.specs.forms.Cards.{cards_in}
use Rattle.header_check.specs.Refusing.{refusal_of}
use Rattle.header_laws.proofs.Exactly.{accepted_exactly}
use Rattle.volume_form.specs.Rows.{Row}
use Rattle.volume_form.specs.Marked.{count_on}
use Rattle.volume_form.proofs.Cards.{Good, code-entry}
use Rattle.volume_rules.specs.Volume.{Whole, Wholes}
use Rattle.volume_rules.specs.Sound.{points, mixed, enters, covers, last_card, first_of, body_of, directory_of, headers_of, sound}
use Rattle.volume_rules.specs.Judged.{unless, and_then, stated, header_answer, headers_answer, parts_answer, cards_answer, volume_answer, Accepteds, Holds}
use Rattle.volume_rules.proofs.Covering.{entered}
use Rattle.volume_rules.proofs.Exactly.{sound_volume, volume_sound, volume_told, volume_long}
use Rattle.volume_rules.proofs.Promises.{total}
use Rattle.std.specs.Prelude.{Result, Ok, Err, ⊤}

-- an answer that accepts is no refusal
pub not-refused : (r : Refusal) → ◌≡◌ {A = Result ⊤ Refusal} (Err r) no_refusal → ⊥
not-refused r e = false≢true (sym (ap fine (sym e)))
  where
    fine : Result ⊤ Refusal → Bool
    fine (Ok _) = true
    fine (Err r) = false

-- so many cards of a buffer that holds them
pub front_long : (n : ℕ) (b : List ℕ) → n ≤ cards_in b → length (take (80 * n) b) ≡ 80 * n
unfolding cards_in
front_long n b h = length-take-le (80 * n) b (omega arith)

-- what accepts has passed its test, and what comes behind it accepts
pub unless-passed : (t : Bool) (k : ℕ) (next : Result ⊤ Refusal) → unless t k next ≡ no_refusal → (t ≡ true) × (next ≡ no_refusal)
unless-passed true k next e = (refl, e)
unless-passed false k next e = absurd (not-refused (refusal k 0 0) e)

pub then_passed : (a next : Result ⊤ Refusal) → and_then a next ≡ no_refusal → (a ≡ no_refusal) × (next ≡ no_refusal)
then_passed (Ok _) next e = (refl, e)
then_passed (Err r) next e = absurd (not-refused r e)

-- a stated number
pub record Stated (f : Row) (n room : ℕ) : Type 0 where
  pub some : 1 ≤ n
  pub few : n ≤ f.most
  pub held : n ≤ room

pub stated_so : (f : Row) (n room : ℕ) → stated f n room ≡ true → Stated f n room
unfolding stated
stated_so f n room e =
    let r = and_right (leb 1 n) _ e in
    record {
      some = leb-true 1 n (and_left (leb 1 n) _ e);
      few = leb-true n f.most (and_left (leb n f.most) _ r);
      held = leb-true n room (and_right (leb n f.most) _ r);
    }

pub so_stated : (f : Row) (n room : ℕ) → Stated f n room → stated f n room ≡ true
unfolding stated
so_stated f n room s = rw (le-leb 1 n s.some, le-leb n f.most s.few, le-leb n room s.held)

-- a header that a volume takes is accepted, of whole cards, and not too large for the form
pub record Taken (f : Row) (h : List ℕ) : Type 0 where
  pub accepted : refusal_of h ≡ no_refusal
  pub whole : Whole h
  pub few : cards_in h ≤ f.largest

accepted-whole : (h : List ℕ) → refusal_of h ≡ no_refusal → Whole h
unfolding cards_in
accepted-whole h a =
    let s = ((accepted_exactly h).0 a).0 in
    let some : length h ≡ 0 → ⊥ = s.some in
    let whole : length h % 80 ≡ 0 = s.whole in
    record { some = omega arith; whole = omega arith }

pub header_taken : (f : Row) (h : List ℕ) → header_answer f h ≡ no_refusal → Taken f h
unfolding header_answer
header_taken f h e = go (eqb (length h % 80) 0) refl (ltb f.largest (cards_in h)) refl e
  where
    go : (a : Bool) → eqb (length h % 80) 0 ≡ a → (b : Bool) → ltb f.largest (cards_in h) ≡ b
        → cond (a && b) (Err (refusal 3 0 0)) (refusal_of h) ≡ no_refusal → Taken f h
    go true p true q x = absurd (not-refused (refusal 3 0 0) x)
    go true p false q x = record { accepted = x; whole = accepted-whole h x; few = ltb-false f.largest (cards_in h) q }
    go false p b q x =
        let s = ((accepted_exactly h).0 x).0 in
        absurd (false≢true (sym p ∙ eq-eqb (length h % 80) 0 s.whole))

pub taken_header : (f : Row) (h : List ℕ) → refusal_of h ≡ no_refusal → cards_in h ≤ f.largest → header_answer f h ≡ no_refusal
unfolding header_answer
taken_header f h a l = let q : ltb f.largest (cards_in h) ≡ false = le-ltb f.largest (cards_in h) l in go (eqb (length h % 80) 0) q
  where
    go : (t : Bool) → ltb f.largest (cards_in h) ≡ false → cond (t && ltb f.largest (cards_in h)) (Err (refusal 3 0 0)) (refusal_of h) ≡ no_refusal
    go true q = rw q a
    go false q = a

-- all of some headers
pub headers_taken : (f : Row) (hs : List (List ℕ)) → headers_answer f hs ≡ no_refusal → Accepteds f hs
unfolding headers_answer
headers_taken f [] e = tt
headers_taken f (h ∷ hs) e = let r = then_passed (header_answer f h) (headers_answer f hs) e in (r.0, headers_taken f hs r.1)

pub taken_headers : (f : Row) (hs : List (List ℕ)) → Accepteds f hs → headers_answer f hs ≡ no_refusal
unfolding headers_answer
taken_headers f [] a = refl
taken_headers f (h ∷ hs) a = rw a.0 (taken_headers f hs a.1)

pub taken_wholes : (f : Row) (hs : List (List ℕ)) → Accepteds f hs → Wholes hs
taken_wholes f [] a = tt
taken_wholes f (h ∷ hs) a = ((header_taken f h a.0).whole, taken_wholes f hs a.1)

-- a directory that covers its cards has no card of the other form
pub covers_unmixed : (f : Row) (good : Good f) (at : ℕ) (b d : List ℕ) (k : ℕ) → covers f at b d k ≡ true → mixed f.other d k ≡ false
unfolding covers mixed
covers_unmixed f good at b d zero e = refl
covers_unmixed f good at b d (suc k) e =
    let card : List ℕ = take 80 d in
    let n : ℕ = count_on f card in
    let x = entered f at b card (and_left (enters f at b card) _ e) in
    let c : take 5 d ≡ f.entry = sym (take-take 5 80 d (omega arith)) ∙ ap (take 5) x.is ∙ code-entry f good b at n in
    let y = covers_unmixed f good (at + n) (drop (80 * n) b) (drop 80 d) k (and_right (enters f at b card) _ e) in
    rw (c, good.apart) y

module _ (f : Row) (good : Good f) (n : ℕ) (buffer : List ℕ) where
  abbrev v : List ℕ
  v = take (80 * n) buffer

  -- what an accepted volume is known to be
  pub record Sounds : Type 0 where
    pub stated_well : Stated f n (cards_in buffer)
    pub long : length v ≡ 80 * n
    pub points_well : points f n (last_card n v) ≡ true
    pub covers_well : covers f 1 (body_of f n v) (directory_of f n v) (n - first_of f n v) ≡ true
    pub headers_well : headers_answer f (headers_of f n v) ≡ no_refusal

  pub sounds : volume_answer f n buffer ≡ no_refusal → Sounds
  unfolding volume_answer cards_answer parts_answer
  sounds e =
      let a = unless-passed (stated f n (cards_in buffer)) 18 _ e in
      let b = unless-passed (points f n (last_card n v)) 18 _ a.1 in
      let m = unless-passed (not (mixed f.other (directory_of f n v) (n - first_of f n v))) 18 _ b.1 in
      let c = unless-passed (covers f 1 (body_of f n v) (directory_of f n v) (n - first_of f n v)) 19 _ m.1 in
      let s = stated_so f n (cards_in buffer) a.0 in
      record { stated_well = s; long = front_long n buffer s.held; points_well = b.0; covers_well = c.0; headers_well = c.1 }

  both_true : Sounds → sound f n v ≡ true
  unfolding sound
  both_true s = rw (s.points_well, s.covers_well)

  -- an accepted volume is the volume of the headers that it tells
  pub accepted_volume : volume_answer f n buffer ≡ no_refusal → Holds f n buffer (headers_of f n v)
  accepted_volume e =
      let s = sounds e in
      let r = sound_volume f n v s.long (both_true s) in
      let a = headers_taken f (headers_of f n v) s.headers_well in
      record { bytes = sym r.0; cards = r.2; few = s.stated_well.few; accepted = a }

  module _ (hs : List (List ℕ)) (is : Holds f n buffer hs) where
    ws : Wholes hs
    ws = taken_wholes f hs is.accepted

    fits : total hs < 10 ^ f.width
    fits = omega (arith, is.cards, is.few, good.roomy)

    held : n ≤ cards_in buffer
    unfolding cards_in
    held =
        let a : length (take (80 * n) buffer) ≡ 80 * n = ap length is.bytes ∙ volume_long f good hs ws fits ∙ ap (λ k. 80 * k) (sym is.cards) in
        let b = length-take (80 * n) buffer in
        omega arith

    -- and it tells the headers of which it is the volume
    pub volume_tells : headers_of f n v ≡ hs
    volume_tells = ap₂ (λ k l. headers_of f k l) is.cards is.bytes ∙ volume_told f good hs ws fits

    sound-there : sound f n v ≡ true
    sound-there = ap₂ (λ k l. sound f k l) is.cards is.bytes ∙ volume_sound f good hs ws fits

    -- the volume of accepted headers is accepted
    pub volume_accepted : volume_answer f n buffer ≡ no_refusal
    unfolding volume_answer cards_answer parts_answer sound
    volume_accepted =
        let p : points f n (last_card n v) ≡ true = and_left (points f n (last_card n v)) _ sound-there in
        let c = and_right (points f n (last_card n v)) _ sound-there in
        rw (so_stated f n (cards_in buffer) (record { some = omega (arith, is.cards); few = is.few; held = held }), p, covers_unmixed f good 1 (body_of f n v) (directory_of f n v) (n - first_of f n v) c, c, volume_tells)
        (taken_headers f hs is.accepted)
