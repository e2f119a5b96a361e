-- The directory card and the trailer: they have 80 bytes, and their numbers stand where they are read.
use Prim.Native.Nat.{ℕ, suc, ◌+◌, ◌^◌, ◌≤◌, ◌<◌}
use native.Mathlib.Nat.{lt_of_lt_of_le, pow-le-pow_right}
use native.Mathlib.Omega.{arith}
use mathlib.Core.Path.{◌≡◌, refl, ap, ap₂, ◌∙◌}
use mathlib.Core.Bool.{false}
use mathlib.Core.List.{List, [], ◌∷◌, ◌++◌, append_assoc}
use lib.ListN.{length, take, drop, length-append, length-replicate, length-drop}
use lib.Seq.{take_at, drop-append-add, length-take-le, take-append-le, drop-append-le}
use Rattle.base_lists.specs.Parts.{alike}
use Rattle.volume_form.specs.declared.Form.{Form}
use Rattle.volume_form.specs.declared.Form.TheVariants.{Old, Wide}
use Rattle.volume_form.specs.Spelled.{spelled, standing}
use Rattle.volume_form.specs.Rows.{Row, row_of}
use Rattle.volume_form.specs.Marked.{name_of, sequence_of, fielded, padded, entry_card, trailer_card, count_on, first_on, start_on}
use Rattle.volume_form.proofs.Spelling.{standing-spelled, length-spelled}

-- what the laws ask of a row
pub record Good (f : Row) : Type 0 where
  pub entry5 : length f.entry ≡ 5
  pub trailer5 : length f.trailer ≡ 5
  pub some : 1 ≤ f.width
  pub narrow : f.width ≤ 20
  pub roomy : f.most < 10 ^ f.width
  pub apart : alike f.entry f.other ≡ false

pub good_row : (f : Form) → Good (row_of f)
unfolding row_of alike
good_row Old = record { entry5 = refl; trailer5 = refl; some = omega arith; narrow = omega arith; roomy = omega arith; apart = refl }
good_row Wide = record { entry5 = refl; trailer5 = refl; some = omega arith; narrow = omega arith; roomy = omega arith; apart = refl }

-- no form has more cards than a machine can count
pub most-small : (f : Form) → (row_of f).most ≤ 20000
unfolding row_of
most-small Old = omega arith
most-small Wide = omega arith

pub most-some : (f : Form) → 1 ≤ (row_of f).most
unfolding row_of
most-some Old = omega arith
most-some Wide = omega arith

-- the field behind p and a blank
field_at : (p s q : List ℕ) (n w : ℕ) → length p + 1 ≡ n → length s ≡ w → take w (drop n ((p ++ (32 ∷ s)) ++ q)) ≡ s
field_at p s q n w e l =
    let a : (p ++ (32 ∷ s)) ++ q ≡ p ++ (32 ∷ (s ++ q)) = append_assoc p (32 ∷ s) q in
    rw (a, ← e, drop-append-add p (32 ∷ (s ++ q)) 1) (take_at s q w l)

length-padded : (s : List ℕ) → length s ≤ 80 → length (padded s) ≡ 80
unfolding padded
length-padded s h = rw (length-append, length-replicate) (omega arith)

length-field : (p s : List ℕ) (n w : ℕ) → length p ≡ n → length s ≡ w → length (p ++ (32 ∷ s)) ≡ n + suc w
length-field p s n w e l = length-append p (32 ∷ s) ∙ ap₂ (λ a b. a + suc b) e l

pub length_name : (h : List ℕ) → 80 ≤ length h → length (name_of h) ≡ 16
unfolding name_of
length_name h l = length-take-le 16 (drop 28 h) (rw length-drop (omega arith))

pub length_sequence : (h : List ℕ) → 80 ≤ length h → length (sequence_of h) ≡ 4
unfolding sequence_of
length_sequence h l = length-take-le 4 (drop 45 h) (rw length-drop (omega arith))

small : (w n : ℕ) → w ≤ 20 → n < 10 ^ w → n < 10 ^ 20
small w n h l = lt_of_lt_of_le l (pow-le-pow_right (omega arith) h)

module _ (f : Row) (good : Good f) (at n : ℕ) (at_small : at < 10 ^ f.width) (n-small : n < 10 ^ f.width) where
  w : ℕ
  w = f.width

  at_long : length (spelled f.width at) ≡ f.width
  at_long = length-spelled f.width at good.some at_small

  n_long : length (spelled f.width n) ≡ f.width
  n_long = length-spelled f.width n good.some n-small

  pub length-trailer : length (trailer_card f at n) ≡ 80
  unfolding trailer_card fielded
  length-trailer =
      let a : length (f.trailer ++ (32 ∷ spelled f.width at)) ≡ 5 + suc f.width = length-field f.trailer _ 5 _ good.trailer5 at_long in
      let b = length-field (f.trailer ++ (32 ∷ spelled f.width at)) (spelled f.width n) _ _ a n_long in
      length-padded _ (omega (arith, b, good.narrow))

  -- the first card that a trailer tells
  pub first-trailer : first_on f (trailer_card f at n) ≡ at
  unfolding first_on trailer_card fielded padded
  first-trailer =
      let t : List ℕ = f.trailer in
      let s : List ℕ = spelled f.width at in
      let r : List ℕ = 32 ∷ spelled f.width n in
      ap (λ l. standing (take f.width (drop 6 l))) (append_assoc (t ++ (32 ∷ s)) r _)
      ∙ ap standing (field_at t s _ 6 f.width (ap (λ k. k + 1) good.trailer5) at_long)
      ∙ standing-spelled f.width at (small f.width at good.narrow at_small)

  module _ (h : List ℕ) (long : 80 ≤ length h) where
    before : List ℕ
    before = fielded f.entry (name_of h ∷ sequence_of h ∷ spelled f.width at ∷ [])

    before_long : length before ≡ 28 + f.width
    unfolding before fielded
    before_long =
        let a = length-field f.entry (name_of h) 5 16 good.entry5 (length_name h long) in
        let b = length-field (f.entry ++ (32 ∷ name_of h)) (sequence_of h) _ 4 a (length_sequence h long) in
        length-field ((f.entry ++ (32 ∷ name_of h)) ++ (32 ∷ sequence_of h)) (spelled f.width at) _ _ b at_long ∙ omega arith

    pub length-entry : length (entry_card f h at n) ≡ 80
    unfolding entry_card before fielded
    length-entry =
        let b = length-field before (spelled f.width n) _ _ before_long n_long in
        length-padded _ (omega (arith, b, good.narrow))

    -- the number of cards that a directory card tells
    pub count-entry : count_on f (entry_card f h at n) ≡ n
    unfolding count_on entry_card before fielded padded
    count-entry =
        ap standing (field_at before (spelled f.width n) _ (29 + f.width) f.width (omega (arith, before_long)) n_long)
        ∙ standing-spelled f.width n (small f.width n good.narrow n-small)

    front : List ℕ
    front = fielded f.entry (name_of h ∷ sequence_of h ∷ [])

    front_long : length front ≡ 27
    unfolding front fielded
    front_long =
        let a = length-field f.entry (name_of h) 5 16 good.entry5 (length_name h long) in
        length-field (f.entry ++ (32 ∷ name_of h)) (sequence_of h) _ 4 a (length_sequence h long)

    -- the first card that a directory card tells
    pub start_entry : start_on f (entry_card f h at n) ≡ at
    unfolding start_on entry_card front fielded padded
    start_entry =
        ap (λ l. standing (take f.width (drop 28 l))) (append_assoc (front ++ (32 ∷ spelled f.width at)) (32 ∷ spelled f.width n) _)
        ∙ ap standing (field_at front (spelled f.width at) _ 28 f.width (ap (λ k. k + 1) front_long) at_long)
        ∙ standing-spelled f.width at (small f.width at good.narrow at_small)

-- the directory copies from the first card alone: whatever follows it
pub entry_longer : (f : Row) (h x : List ℕ) (at n : ℕ) → 80 ≤ length h → entry_card f (h ++ x) at n ≡ entry_card f h at n
unfolding entry_card name_of sequence_of
entry_longer f h x at n l =
    let a : take 16 (drop 28 (h ++ x)) ≡ take 16 (drop 28 h) =
    ap (take 16) (drop-append-le 28 h x (omega arith)) ∙ take-append-le 16 (drop 28 h) x (rw length-drop (omega arith)) in
    let b : take 4 (drop 45 (h ++ x)) ≡ take 4 (drop 45 h) =
    ap (take 4) (drop-append-le 45 h x (omega arith)) ∙ take-append-le 4 (drop 45 h) x (rw length-drop (omega arith)) in
    rw (a, b)

-- and they stand there where they are read: in columns 7 to 22 and 24 to 27
module _ (f : Row) (good : Good f) (h : List ℕ) (at n : ℕ) (long : 80 ≤ length h) where
  pub name_entry : take 16 (drop 6 (entry_card f h at n)) ≡ name_of h
  unfolding entry_card fielded padded
  name_entry =
      let p : List ℕ = f.entry ++ (32 ∷ name_of h) in
      let q : List ℕ = 32 ∷ sequence_of h in
      let a : List ℕ = 32 ∷ spelled f.width at in
      let c : List ℕ = 32 ∷ spelled f.width n in
      ap (λ l. take 16 (drop 6 l)) (append_assoc ((p ++ q) ++ a) c _ ∙ append_assoc (p ++ q) a _ ∙ append_assoc p q _)
      ∙ field_at f.entry (name_of h) _ 6 16 (ap (λ k. k + 1) good.entry5) (length_name h long)

  pub sequence_entry : take 4 (drop 23 (entry_card f h at n)) ≡ sequence_of h
  unfolding entry_card fielded padded
  sequence_entry =
      let p : List ℕ = f.entry ++ (32 ∷ name_of h) in
      let q : List ℕ = 32 ∷ sequence_of h in
      let a : List ℕ = 32 ∷ spelled f.width at in
      let c : List ℕ = 32 ∷ spelled f.width n in
      let l : length p ≡ 5 + 17 = length-field f.entry (name_of h) 5 16 good.entry5 (length_name h long) in
      ap (λ l. take 4 (drop 23 l)) (append_assoc ((p ++ q) ++ a) c _ ∙ append_assoc (p ++ q) a _)
      ∙ field_at p (sequence_of h) _ 23 4 (ap (λ k. k + 1) l) (length_sequence h long)

-- their codes
pub code-entry : (f : Row) (good : Good f) (h : List ℕ) (at n : ℕ) → take 5 (entry_card f h at n) ≡ f.entry
unfolding entry_card fielded padded
code-entry f good h at n =
    let p : List ℕ = f.entry in
    let q : List ℕ = 32 ∷ name_of h in
    let r : List ℕ = 32 ∷ sequence_of h in
    let a : List ℕ = 32 ∷ spelled f.width at in
    let c : List ℕ = 32 ∷ spelled f.width n in
    ap (take 5) (append_assoc (((p ++ q) ++ r) ++ a) c _ ∙ append_assoc ((p ++ q) ++ r) a _ ∙ append_assoc (p ++ q) r _ ∙ append_assoc p q _)
    ∙ take_at p _ 5 good.entry5

pub code-trailer : (f : Row) (good : Good f) (at n : ℕ) → take 5 (trailer_card f at n) ≡ f.trailer
unfolding trailer_card fielded padded
code-trailer f good at n =
    let p : List ℕ = f.trailer in
    let a : List ℕ = 32 ∷ spelled f.width at in
    let c : List ℕ = 32 ∷ spelled f.width n in
    ap (take 5) (append_assoc (p ++ a) c _ ∙ append_assoc p a _) ∙ take_at p _ 5 good.trailer5
