-- A volume after an append: it is the volume of the headers with one more, each earlier line is as it was, and so is all behind it.
use Prim.Native.Nat.{ℕ, zero, suc, ◌+◌, ◌-◌, ◌*◌, ◌^◌, ◌≤◌, ◌<◌}
use native.Mathlib.Nat.{not-suc-le-zero, le_of_suc-le-suc}
use native.Mathlib.Omega.{arith}
use mathlib.Core.Path.{◌≡◌, refl, sym, ap, ◌∙◌}
use mathlib.Core.Bool.{cond, ◌&&◌}
use mathlib.Core.List.{List, [], ◌∷◌, ◌++◌}
use lib.Dec.{leb}
use lib.ListN.{length, take, drop, get_or, length-append}
use lib.Seq.{take_at, drop_at}
use borrow.Author.Tests.{le-leb}
use Rattle.base_refusal.specs.declared.Refusal.{Refusal}
use Rattle.header_check.specs.forms.Cards.{cards_in}
use Rattle.header_check.specs.Refusing.{refusal_of}
use Rattle.volume_form.specs.declared.Form.{Form}
use Rattle.volume_form.specs.Rows.{Row, row_of}
use Rattle.volume_form.proofs.Cards.{Good, good_row, most-some}
use Rattle.volume_rules.specs.Volume.{joined, volume_of, Wholes}
use Rattle.volume_rules.specs.Sound.{headers_of}
use Rattle.volume_rules.specs.Judged.{header_answer, Accepteds, Holds}
use Rattle.volume_rules.proofs.Promises.{total}
use Rattle.volume_rules.proofs.Covering.{back}
use Rattle.volume_rules.proofs.Appending.{joined-append, only, cards-sum}
use Rattle.volume_rules.proofs.Exactly.{volume_long}
use Rattle.volume_rules.proofs.Judging.{header_taken, volume_accepted, volume_tells, taken_wholes, not-refused}
use Rattle.volume_check.specs.Answers.{lines_of, line_of}
use Rattle.volume_check.proofs.Placing.{line-is, lines-counted}
use Rattle.volume_edit.specs.Written.{append_checked, cards_by, append_answer, empty_answer, left_by}
use Rattle.volume_edit.proofs.Appends.{May, may_append, one_small}
use Rattle.std.specs.Prelude.{Result, Ok, Err, ⊤}
use Rattle.base_refusal.specs.Refusals.{no_refusal}

-- one of some accepted headers
one_taken : (f : Row) (hs : List (List ℕ)) (p : ℕ) → Accepteds f hs → p < length hs → refusal_of (get_or hs p []) ≡ no_refusal
one_taken f [] p all l = absurd (not-suc-le-zero l)
one_taken f (g ∷ hs) zero all l = (header_taken f g all.0).accepted
one_taken f (g ∷ hs) (suc p) all l = one_taken f hs p all.1 (le_of_suc-le-suc l)

-- the line at a place of a buffer that begins with the volume of some headers
module _ (f : Row) (good : Good f) (n : ℕ) (buffer : List ℕ) (hs : List (List ℕ)) (is : Holds f n buffer hs) where
  pub line_back : (place : ℕ) → 1 ≤ place → place ≤ length hs → line_of f n buffer place ≡ get_or hs (place - 1) []
  line_back place a b =
      line-is f good n buffer (volume_accepted f good n buffer hs is) place
      ∙ ap (λ gs. cond (leb 1 place && leb place (length gs)) (get_or gs (place - 1) []) []) (volume_tells f good n buffer hs is)
      ∙ rw (le-leb 1 place a, le-leb place (length hs) b)

  pub lines-there : lines_of f n buffer ≡ Ok (length hs)
  lines-there =
      sym (lines-counted f n buffer (volume_accepted f good n buffer hs is) (length hs) (ap length (sym (volume_tells f good n buffer hs is))))

  pub line_taken : (place : ℕ) → 1 ≤ place → place ≤ length hs → refusal_of (line_of f n buffer place) ≡ no_refusal
  line_taken place a b = ap refusal_of (line_back place a b) ∙ one_taken f hs (place - 1) is.accepted (omega arith)

accepteds_more : (f : Row) (hs : List (List ℕ)) (h : List ℕ) → Accepteds f hs → header_answer f h ≡ no_refusal → Accepteds f (hs ++ (h ∷ []))
accepteds_more f [] h all a = (a, tt)
accepteds_more f (g ∷ hs) h all a = (all.0, accepteds_more f hs h all.1 a)

-- the header at a place, with one more behind the last
earlier : (hs : List (List ℕ)) (h : List ℕ) (p : ℕ) → p < length hs → get_or (hs ++ (h ∷ [])) p [] ≡ get_or hs p []
earlier [] h p l = absurd (not-suc-le-zero l)
earlier (g ∷ hs) h zero l = refl
earlier (g ∷ hs) h (suc p) l = earlier hs h p (le_of_suc-le-suc l)

newest : (hs : List (List ℕ)) (h : List ℕ) → get_or (hs ++ (h ∷ [])) (length hs) [] ≡ h
newest [] h = refl
newest (g ∷ hs) h = newest hs h

-- the number of cards that is answered was judged well
judged : (x : Result ⊤ Refusal) (k m : ℕ) → cards_by x k ≡ Ok m → (x ≡ no_refusal) × (m ≡ k)
judged (Ok _) k m e = (refl, sym (number e))
  where
    told : Result ℕ Refusal → ℕ
    told (Ok n) = n
    told (Err r) = 0

    number : ◌≡◌ {A = Result ℕ Refusal} (Ok k) (Ok m) → k ≡ m
    number q = ap told q
judged (Err r) k m e = absurd (apart (sym e))
  where
    said : Result ℕ Refusal → Result ⊤ Refusal
    said (Ok n) = no_refusal
    said (Err r) = Err r

    apart : ◌≡◌ {A = Result ℕ Refusal} (Ok m) (Err r) → ⊥
    apart q = not-refused r (sym (ap said q))

module _ (form : Form) (n m : ℕ) (buffer h : List ℕ) (hs : List (List ℕ)) (is : Holds (row_of form) n buffer hs)
    (done : append_answer (row_of form) n buffer h ≡ Ok m) where
  good : Good (row_of form)
  good = good_row form

  abbrev pub left : List ℕ
  left = left_by (row_of form) (append_answer (row_of form) n buffer h) (headers_of (row_of form) n (take (80 * n) buffer) ++ (h ∷ [])) buffer

  was : (append_checked (row_of form) n buffer h ≡ no_refusal) × (m ≡ n + cards_in h + 1)
  unfolding append_answer
  was = judged (append_checked (row_of form) n buffer h) (n + cards_in h + 1) m done

  may : May (row_of form) n buffer h
  may = may_append (row_of form) n buffer h was.0

  -- the number of cards, and the buffer
  pub append-cards : m ≡ n + cards_in h + 1
  append-cards = was.1

  pub append_left : left ≡ volume_of (row_of form) (hs ++ (h ∷ [])) ++ drop (80 * m) buffer
  append_left =
      ap (λ a. left_by (row_of form) a (headers_of (row_of form) n (take (80 * n) buffer) ++ (h ∷ [])) buffer) done
      ∙ ap (λ gs. volume_of (row_of form) (gs ++ (h ∷ [])) ++ drop (80 * m) buffer) (volume_tells (row_of form) good n buffer hs is)

  more : Accepteds (row_of form) (hs ++ (h ∷ []))
  more = accepteds_more (row_of form) hs h is.accepted may.header

  all_whole : Wholes (hs ++ (h ∷ []))
  all_whole = taken_wholes (row_of form) (hs ++ (h ∷ [])) more

  cards_now : m ≡ total (hs ++ (h ∷ []))
  cards_now =
      omega (arith, append-cards, is.cards, joined_more, length-append hs (h ∷ []))
    where
      was_small : 1 + cards_in (joined hs) < 10 ^ (row_of form).width
      was_small = omega (arith, is.cards, is.few, good.roomy)

      joined_more : cards_in (joined (hs ++ (h ∷ []))) ≡ cards_in (joined hs) + cards_in h
      joined_more =
          ap cards_in (joined-append hs (h ∷ []) ∙ ap (λ l. joined hs ++ l) (only h))
          ∙ cards-sum (joined hs) h (back (row_of form) good 1 hs (taken_wholes (row_of form) hs is.accepted) was_small).whole

  fits : total (hs ++ (h ∷ [])) < 10 ^ (row_of form).width
  fits = omega (arith, cards_now, append-cards, may.room.few, good.roomy)

  new_long : length (volume_of (row_of form) (hs ++ (h ∷ []))) ≡ 80 * m
  new_long = volume_long (row_of form) good (hs ++ (h ∷ [])) all_whole fits ∙ ap (λ k. 80 * k) (sym cards_now)

  -- it begins with the volume of the headers with one more
  pub append_volume : Holds (row_of form) m left (hs ++ (h ∷ []))
  append_volume = record {
    bytes = ap (take (80 * m)) append_left ∙ take_at (volume_of (row_of form) (hs ++ (h ∷ []))) (drop (80 * m) buffer) (80 * m) new_long;
    cards = cards_now;
    few = omega (arith, append-cards, may.room.few);
    accepted = more;
  }

  -- past the new trailer all is as it was
  pub append-behind : drop (80 * m) left ≡ drop (80 * m) buffer
  append-behind = ap (drop (80 * m)) append_left ∙ drop_at (volume_of (row_of form) (hs ++ (h ∷ []))) (drop (80 * m) buffer) (80 * m) new_long

  -- each earlier line reads back as before, and the last is the header
  pub append_earlier : (place : ℕ) → 1 ≤ place → place ≤ length hs → line_of (row_of form) m left place ≡ line_of (row_of form) n buffer place
  append_earlier place a b =
      line_back (row_of form) good m left (hs ++ (h ∷ [])) append_volume place a (omega (arith, length-append hs (h ∷ [])))
      ∙ earlier hs h (place - 1) (omega arith)
      ∙ sym (line_back (row_of form) good n buffer hs is place a b)

  pub append-last : line_of (row_of form) m left (length hs + 1) ≡ h
  append-last =
      line_back (row_of form) good m left (hs ++ (h ∷ [])) append_volume (length hs + 1) (omega arith) (omega (arith, length-append hs (h ∷ [])))
      ∙ ap (λ p. get_or (hs ++ (h ∷ [])) p []) last
      ∙ newest hs h
    where
      last : length hs + 1 - 1 ≡ length hs
      last = omega arith

-- a refused append leaves the buffer as it came
pub append-stays : (f : Row) (n : ℕ) (buffer h : List ℕ) (r : Refusal) (gs : List (List ℕ)) → append_answer f n buffer h ≡ Err r
    → left_by f (append_answer f n buffer h) gs buffer ≡ buffer
append-stays f n buffer h r gs e = ap (λ a. left_by f a gs buffer) e

-- the empty volume
pub empty_volume : (form : Form) (buffer : List ℕ) → empty_answer buffer ≡ Ok 1
    → Holds (row_of form) 1 (left_by (row_of form) (empty_answer buffer) [] buffer) []
unfolding joined cards_in
empty_volume form buffer e =
    let l : length (volume_of (row_of form) []) ≡ 80 * 1 = volume_long (row_of form) (good_row form) [] tt (one_small form) in
    record {
      bytes = ap (λ a. take (80 * 1) (left_by (row_of form) a [] buffer)) e ∙ take_at (volume_of (row_of form) []) (drop (80 * 1) buffer) (80 * 1) l;
      cards = refl;
      few = most-some form;
      accepted = tt;
    }
