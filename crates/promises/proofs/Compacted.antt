-- A volume compacted within its buffer: what is kept, what is blank, what stays; twice is once, and the room can be appended to.
use Prim.Native.Nat.{ℕ, zero, suc, ◌+◌, ◌-◌, ◌*◌, ◌≤◌, ◌<◌}
use native.Mathlib.Nat.{not-suc-le-zero, le_of_suc-le-suc}
use native.Mathlib.Omega.{arith}
use mathlib.Core.Path.{◌≡◌, refl, sym, ap, ap₂, ◌∙◌}
use mathlib.Core.Bool.{Bool, true, false, not, ◌||◌, false≢true}
use mathlib.Core.Logic.{◌↔◌}
use mathlib.Core.List.{List, [], ◌∷◌, ◌++◌}
use lib.ListN.{length, take, drop, get_or, replicate, length-append, length-replicate}
use lib.Seq.{take_at, drop_at, drop-drop}
use Rattle.base_lists.specs.Parts.{keep}
use Rattle.header_check.specs.forms.Cards.{cards_in}
use Rattle.volume_form.specs.declared.Form.{Form}
use Rattle.volume_form.specs.Rows.{Row, row_of}
use Rattle.volume_form.proofs.Cards.{good_row}
use Rattle.volume_rules.specs.Volume.{joined, volume_of, Wholes}
use Rattle.volume_rules.specs.Sound.{headers_of}
use Rattle.volume_rules.specs.Judged.{header_answer, Holds, Accepteds, form_in}
use Rattle.volume_rules.specs.Latest.{superseded, latest, compacted}
use Rattle.volume_rules.specs.SameLine.{same_line}
use Rattle.volume_rules.proofs.Promises.{total}
use Rattle.volume_rules.proofs.Appending.{joined-cards}
use Rattle.volume_rules.proofs.Exactly.{volume_long}
use Rattle.volume_rules.proofs.Latest.{latest_twice, latest_wholes}
use Rattle.volume_rules.proofs.Judging.{so_stated, taken_wholes, volume_accepted, volume_tells}
use Rattle.volume_edit.specs.Written.{cards_by, append_answer, append_checked, room_answer, compact_answer, compacted_by}
use Rattle.promises.specs.Rewritten.{kept_answer, kept_left}
use Rattle.promises.proofs.Forms.{form-told}
use Rattle.promises.proofs.Converted.{long, whole_buffer}
use Rattle.std.specs.Prelude.{Ok}
use Rattle.base_refusal.specs.Refusals.{no_refusal}

-- what is kept of accepted headers is accepted
latest_accepteds : (f : Row) (hs : List (List ℕ)) → Accepteds f hs → Accepteds f (latest same_line hs)
unfolding latest
latest_accepteds f [] a = tt
latest_accepteds f (h ∷ hs) a = go (latest_accepteds f hs a.1) (not (superseded same_line h hs))
  where
    go : Accepteds f (latest same_line hs) → (x : Bool) → Accepteds f (keep x h (latest same_line hs))
    go r true = (a.0, r)
    go r false = r

-- and has no more cards than they
latest_total : (hs : List (List ℕ)) → Wholes hs → total (latest same_line hs) ≤ total hs
unfolding latest
latest_total [] ws = omega arith
latest_total (h ∷ hs) ws = go (latest_total hs ws.1) (joined-cards h hs ws.0) (joined-cards h (latest same_line hs) ws.0) (not (superseded same_line h hs))
  where
    go : total (latest same_line hs) ≤ total hs → cards_in (joined (h ∷ hs)) ≡ cards_in h + cards_in (joined hs)
        → cards_in (joined (h ∷ latest same_line hs)) ≡ cards_in h + cards_in (joined (latest same_line hs))
        → (x : Bool) → total (keep x h (latest same_line hs)) ≤ total (h ∷ hs)
    go r p q true = omega arith
    go r p q false = omega arith

-- a later line is the same
pub record Later (h : List ℕ) (hs : List (List ℕ)) : Type 0 where
  pub place : ℕ
  pub there : place < length hs
  pub same : same_line h (get_or hs place []) ≡ true

to_later : (h : List ℕ) (hs : List (List ℕ)) → superseded same_line h hs ≡ true → Later h hs
unfolding superseded
to_later h [] e = absurd (false≢true e)
to_later h (g ∷ hs) e = go (to_later h hs) (same_line h g) refl e
  where
    go : (superseded same_line h hs ≡ true → Later h hs) → (t : Bool) → same_line h g ≡ t → (t || superseded same_line h hs) ≡ true → Later h (g ∷ hs)
    go more true q x = record { place = 0; there = omega arith; same = q }
    go more false q x = let l = more x in record { place = suc l.place; there = omega (arith, l.there); same = l.same }

of_later : (h : List ℕ) (hs : List (List ℕ)) (p : ℕ) → p < length hs → same_line h (get_or hs p []) ≡ true → superseded same_line h hs ≡ true
unfolding superseded
of_later h [] p l e = absurd (not-suc-le-zero l)
of_later h (g ∷ hs) zero l e = rw e
of_later h (g ∷ hs) (suc p) l e = go (of_later h hs p (le_of_suc-le-suc l) e) (same_line h g)
  where
    go : superseded same_line h hs ≡ true → (t : Bool) → (t || superseded same_line h hs) ≡ true
    go x true = refl
    go x false = x

-- a line is superseded exactly if a later one is the same
pub superseded_exactly : (h : List ℕ) (hs : List (List ℕ)) → (superseded same_line h hs ≡ true) ↔ Later h hs
superseded_exactly h hs = (to_later h hs, λ l. of_later h hs l.place l.there l.same)

-- where no line is superseded all are kept
pub all-kept : (hs : List (List ℕ))
    → ((gs : List (List ℕ)) (h : List ℕ) (later : List (List ℕ)) → hs ≡ gs ++ (h ∷ later) → superseded same_line h later ≡ false)
    → latest same_line hs ≡ hs
unfolding latest
all-kept [] none = refl
all-kept (h ∷ hs) none =
    rw (none [] h hs refl) (ap (λ l. h ∷ l) (all-kept hs (λ gs g later e. none (h ∷ gs) g later (ap (λ l. h ∷ l) e))))

module _ (form : Form) (n : ℕ) (buffer : List ℕ) (hs : List (List ℕ)) (is : Holds (row_of form) n buffer hs) where
  abbrev f : Row
  f = row_of form

  abbrev kept : List (List ℕ)
  kept = latest same_line hs

  abbrev m : ℕ
  m = total kept

  told : form_in n buffer ≡ form
  told = form-told form n buffer hs is

  tells : headers_of f n (take (80 * n) buffer) ≡ hs
  tells = volume_tells f (good_row form) n buffer hs is

  -- the number of cards of the lines that are kept
  pub kept-cards : kept_answer n buffer ≡ Ok m
  unfolding compact_answer
  kept-cards =
      ap (λ x. compact_answer (row_of x) n buffer) told
      ∙ ap₂ (λ a gs. cards_by a (total (latest same_line gs))) (volume_accepted f (good_row form) n buffer hs is) tells

  pub kept_fewer : m ≤ n
  kept_fewer = omega (arith, is.cards, latest_total hs (taken_wholes f hs is.accepted))

  was_long : length (volume_of f hs) ≡ 80 * n
  was_long = long f (good_row form) n buffer hs is

  now_long : length (volume_of f kept) ≡ 80 * m
  now_long =
      volume_long f (good_row form) kept (latest_wholes same_line hs (taken_wholes f hs is.accepted))
      (omega (arith, kept_fewer, is.few, (good_row form).roomy))

  abbrev rest : List ℕ
  rest = replicate (80 * n - 80 * m) 32 ++ drop (80 * n) buffer

  -- their volume, blanks up to and with the old trailer, and what lay past it
  pub kept_left_lem : kept_left n buffer ≡ volume_of f kept ++ (replicate (80 * n - 80 * m) 32 ++ drop (80 * n) buffer)
  unfolding compacted
  kept_left_lem =
      ap (λ a. compacted_by (row_of (form_in n buffer)) a (headers_of (row_of (form_in n buffer)) n (take (80 * n) buffer)) buffer) kept-cards
      ∙ ap (λ x. compacted same_line (row_of x) (headers_of (row_of x) n (take (80 * n) buffer)) buffer) told
      ∙ ap (λ gs. compacted same_line f gs buffer) tells
      ∙ ap₂ (λ a b. volume_of f kept ++ (replicate (a - b) 32 ++ drop a buffer)) was_long now_long

  pub kept-holds : Holds f m (kept_left n buffer) kept
  kept-holds = record {
    bytes = ap (take (80 * m)) kept_left_lem ∙ take_at (volume_of f kept) rest (80 * m) now_long;
    cards = refl;
    few = omega (arith, kept_fewer, is.few);
    accepted = latest_accepteds f hs is.accepted;
  }

  behind_new : drop (80 * m) (kept_left n buffer) ≡ rest
  behind_new = ap (drop (80 * m)) kept_left_lem ∙ drop_at (volume_of f kept) rest (80 * m) now_long

  -- the cards that are freed are blank
  pub kept_freed : take (80 * n - 80 * m) (drop (80 * m) (kept_left n buffer)) ≡ replicate (80 * n - 80 * m) 32
  kept_freed =
      ap (take (80 * n - 80 * m)) behind_new
      ∙ take_at (replicate (80 * n - 80 * m) 32) (drop (80 * n) buffer) (80 * n - 80 * m) (length-replicate (80 * n - 80 * m) 32)

  -- what lay past the old trailer stays
  pub kept-behind : drop (80 * n) (kept_left n buffer) ≡ drop (80 * n) buffer
  kept-behind =
      let e : 80 * n ≡ 80 * m + (80 * n - 80 * m) = omega (arith, kept_fewer) in
      ap (λ k. drop k (kept_left n buffer)) e
      ∙ sym (drop-drop (80 * n - 80 * m) (80 * m) (kept_left n buffer))
      ∙ ap (drop (80 * n - 80 * m)) behind_new
      ∙ drop_at (replicate (80 * n - 80 * m) 32) (drop (80 * n) buffer) (80 * n - 80 * m) (length-replicate (80 * n - 80 * m) 32)

  -- nothing superseded: the very bytes
  pub kept-all : latest same_line hs ≡ hs → (kept_answer n buffer ≡ Ok n) × (kept_left n buffer ≡ buffer)
  kept-all e =
      let same : m ≡ n = ap total e ∙ sym is.cards in
      let none : 80 * n - 80 * m ≡ 0 = omega arith in (
        kept-cards ∙ ap Ok same,
        kept_left_lem
            ∙ ap₂ (λ gs k. volume_of f gs ++ (replicate k 32 ++ drop (80 * n) buffer)) e none
            ∙ whole_buffer f (good_row form) n buffer hs is,
      )

  -- the buffer is as long as before
  pub kept_long : length (kept_left n buffer) ≡ length buffer
  kept_long =
      let a = length-append (volume_of f kept) rest in
      let b = length-append (replicate (80 * n - 80 * m) 32) (drop (80 * n) buffer) in
      let c = length-replicate {A = ℕ} (80 * n - 80 * m) 32 in
      let d = length-append (volume_of f hs) (drop (80 * n) buffer) in
      let w : length (volume_of f hs ++ drop (80 * n) buffer) ≡ length buffer = ap length (whole_buffer f (good_row form) n buffer hs is) in
      ap length kept_left_lem ∙ omega (arith, kept_fewer, was_long, now_long)

  -- a header that a volume takes can be appended where the form allows so many cards and the buffer holds them
  pub kept_append : (h : List ℕ) → header_answer f h ≡ no_refusal → m + cards_in h + 1 ≤ f.most → m + cards_in h + 1 ≤ cards_in buffer
      → append_answer f m (kept_left n buffer) h ≡ Ok (m + cards_in h + 1)
  unfolding append_answer append_checked room_answer cards_in
  kept_append h a few room =
      let s = so_stated f (m + cards_in h + 1) (cards_in (kept_left n buffer))
      (record { some = omega arith; few = few; held = rw kept_long room }) in
      rw (volume_accepted f (good_row form) m (kept_left n buffer) kept kept-holds, a, s)

-- compacting again answers the same number and leaves the very bytes
pub kept_twice : (form : Form) (n : ℕ) (buffer : List ℕ) (hs : List (List ℕ)) → Holds (row_of form) n buffer hs
    → (kept_answer (total (latest same_line hs)) (kept_left n buffer) ≡ Ok (total (latest same_line hs)))
    × (kept_left (total (latest same_line hs)) (kept_left n buffer) ≡ kept_left n buffer)
kept_twice form n buffer hs is =
    kept-all form (total (latest same_line hs)) (kept_left n buffer) (latest same_line hs) (kept-holds form n buffer hs is) (latest_twice same_line hs)
