-- A conversion's refusal is the first that its rows give.
use Prim.Native.Nat.{ℕ, zero, suc, ◌+◌, ◌*◌, ◌/◌, ◌%◌}
use mathlib.Core.Path.{◌≡◌, refl, sym, ap, ◌∙◌}
use mathlib.Core.Bool.{Bool, true, false, cond, not, ◌&&◌, ◌||◌}
use mathlib.Core.Logic.{◌↔◌}
use mathlib.Core.List.{List, [], ◌∷◌, ◌++◌}
use lib.Dec.{eqb, ltb}
use lib.ListN.{length, take, drop}
use Rattle.base_refusal.specs.declared.Refusal.{Refusal}
use Rattle.base_refusal.specs.Refusals.{refusal}
use Rattle.value_text.specs.printable.Bytes.{first_bad}
use Rattle.value_field.proofs.spelling.Absence.{zero_one}
use Rattle.card_laws.specs.exactly.Rows.{Row, row, given, Exactly}
use Rattle.card_laws.proofs.exactly.Given.{or_else, given-append, exactly}
use Rattle.media_diskette.specs.Lines.{disk_of, lines_in}
use Rattle.media_diskette.specs.Answers.{refused_by, in_room, bad_byte, offence_of, told, offence, sized, cards_judged, file_judged, to_answer, from_answer}
use Rattle.promises.specs.Media.{byte_rows, to_rows, at_byte, file_rows, from_rows, in_converted}
use Rattle.std.specs.Prelude.{Result, Ok, Err, Option, None, Some}

-- an answer by the refusal in it
refused_as : (a : Result ℕ Refusal) (r : Refusal) → (a ≡ Err r) ↔ (in_converted a ≡ Some r)
refused_as (Ok n) r = (λ e. absurd (zero_one cc), λ e. absurd (zero_one cc))
refused_as (Err q) r = (λ e. ap in_converted e, λ e. let x : q ≡ r = cc in ap Err x)

length_as : (a : Result ℕ Refusal) → ((n : ℕ) × (a ≡ Ok n)) ↔ (in_converted a ≡ None)
length_as (Ok n) = (λ e. refl, λ e. (n, refl))
length_as (Err q) = (λ e. absurd (let x = e.1 in zero_one cc), λ e. absurd (zero_one cc))

-- rows of bytes, and what comes behind them
bytes-given : (c n : ℕ) (h : List ℕ) → given (byte_rows c n h) ≡ bad_byte c n h
unfolding given byte_rows bad_byte
bytes-given c zero h = refl
bytes-given c (suc n) h =
    ap (cond (ltb (first_bad (take 80 h)) 80) (Some (refusal 4 (c + 1) (first_bad (take 80 h) + 1)))) (bytes-given (c + 1) n (drop 80 h))

-- a refusal, then what is judged behind it
behind : (o : Option Refusal) (a : Result ℕ Refusal) (room : ℕ) (rest : Option Refusal) → rest ≡ in_converted (in_room room a)
    → or_else o rest ≡ in_converted (in_room room (refused_by o a))
behind None a room rest e = e
behind (Some r) a room rest e = refl

room-given : (room n : ℕ) → given (row 17 0 0 (ltb room n) ∷ []) ≡ in_converted (in_room room (Ok n))
unfolding given
room-given room n = go (ltb room n)
  where
    go : (t : Bool) → cond t (Some (refusal 17 0 0)) None ≡ in_converted (cond t (Err (refusal 17 0 0)) (Ok n))
    go true = refl
    go false = refl

module _ (h : List ℕ) (room : ℕ) where
  to-given : in_converted (to_answer h room) ≡ given (to_rows h room)
  unfolding to_answer cards_judged to_rows given
  to-given = sym (go (eqb (length h) 0) (eqb (length h % 80) 0) (ltb 800 (length h / 80)))
    where
      last : given (byte_rows 0 (length h / 80) h ++ (row 17 0 0 (ltb room (length (disk_of h))) ∷ []))
          ≡ in_converted (in_room room (refused_by (bad_byte 0 (length h / 80) h) (Ok (length (disk_of h)))))
      last =
          given-append (byte_rows 0 (length h / 80) h) (row 17 0 0 (ltb room (length (disk_of h))) ∷ [])
          ∙ ap (λ o. or_else o (given (row 17 0 0 (ltb room (length (disk_of h))) ∷ []))) (bytes-given 0 (length h / 80) h)
          ∙ behind (bad_byte 0 (length h / 80) h) (Ok (length (disk_of h))) room (given (row 17 0 0 (ltb room (length (disk_of h))) ∷ []))
          (room-given room (length (disk_of h)))

      go : (a b c : Bool)
          → cond a (Some (refusal 1 0 0)) (cond (not b) (Some (refusal 2 0 0)) (cond c (Some (refusal 3 0 0))
          (given (byte_rows 0 (length h / 80) h ++ (row 17 0 0 (ltb room (length (disk_of h))) ∷ [])))))
          ≡ in_converted (in_room room (cond a (Err (refusal 1 0 0)) (cond (not b) (Err (refusal 2 0 0)) (cond c (Err (refusal 3 0 0))
          (refused_by (bad_byte 0 (length h / 80) h) (Ok (length (disk_of h))))))))
      go true b c = refl
      go false false c = refl
      go false true true = refl
      go false true false = last

  -- from cards
  pub to_exactly : Exactly (to_rows h room) (λ r. to_answer h room ≡ Err r) ((n : ℕ) × (to_answer h room ≡ Ok n))
  to_exactly = exactly (to_rows h room) (in_converted (to_answer h room)) to-given (refused_as (to_answer h room)) (length_as (to_answer h room))

-- a byte's rows, and what comes behind it
byte-given : (lines k b : ℕ) (rows : List Row) → given (at_byte lines k b ++ rows) ≡ told (offence_of b k) lines k (given rows)
unfolding given offence_of
byte-given lines k b rows = go (eqb b 13 || eqb b 10) (ltb b 32 || ltb 126 b) (ltb k 80)
  where
    go : (p q r : Bool)
        → cond p (Some (refusal 16 (lines + 1) (k + 1))) (cond q (Some (refusal 4 (lines + 1) (k + 1)))
        (cond (not r) (Some (refusal 15 (lines + 1) (k + 1))) (given rows)))
        ≡ told (cond p 16 (cond q 4 (cond r 0 15))) lines k (given rows)
    go true q r = refl
    go false true r = refl
    go false false true = refl
    go false false false = refl

file_given : (lines k : ℕ) (f : List ℕ) → given (file_rows lines k f) ≡ offence lines k f
unfolding given file_rows offence
file_given lines k [] = go (eqb k 0)
  where
    go : (t : Bool) → cond (not t) (Some (refusal 16 (lines + 1) (k + 1))) None ≡ told (cond t 0 16) lines k None
    go true = refl
    go false = refl
file_given lines k (b ∷ []) =
    byte-given lines k b (file_rows lines (k + 1) []) ∙ ap (told (offence_of b k) lines k) (file_given lines (k + 1) [])
file_given lines k (b ∷ x ∷ s) = go (eqb b 13 && eqb x 10) (file_given (lines + 1) 0 s) (file_given lines (k + 1) (x ∷ s))
  where
    go : (t : Bool) → given (file_rows (lines + 1) 0 s) ≡ offence (lines + 1) 0 s
        → given (file_rows lines (k + 1) (x ∷ s)) ≡ offence lines (k + 1) (x ∷ s)
        → given (cond t (file_rows (lines + 1) 0 s) (at_byte lines k b ++ file_rows lines (k + 1) (x ∷ s)))
        ≡ cond t (offence (lines + 1) 0 s) (told (offence_of b k) lines k (offence lines (k + 1) (x ∷ s)))
    go true e q = e
    go false e q = byte-given lines k b (file_rows lines (k + 1) (x ∷ s)) ∙ ap (told (offence_of b k) lines k) q

module _ (f : List ℕ) (room : ℕ) where
  abbrev ends : List Row
  ends = row 3 0 0 (ltb 800 (length (lines_in f))) ∷ row 17 0 0 (ltb room (length (lines_in f) * 80)) ∷ []

  ends-given : given ends ≡ in_converted (in_room room (sized (length (lines_in f))))
  unfolding given sized
  ends-given = go (ltb 800 (length (lines_in f)))
    where
      go : (t : Bool) → cond t (Some (refusal 3 0 0)) (given (row 17 0 0 (ltb room (length (lines_in f) * 80)) ∷ []))
          ≡ in_converted (in_room room (cond t (Err (refusal 3 0 0)) (Ok (length (lines_in f) * 80))))
      go true = refl
      go false = room-given room (length (lines_in f) * 80)

  from-given : in_converted (from_answer f room) ≡ given (from_rows f room)
  unfolding from_answer file_judged from_rows given
  from-given = sym (go (eqb (length f) 0))
    where
      rest : given (file_rows 0 0 f ++ ends) ≡ in_converted (in_room room (refused_by (offence 0 0 f) (sized (length (lines_in f)))))
      rest =
          given-append (file_rows 0 0 f) ends
          ∙ ap (λ o. or_else o (given ends)) (file_given 0 0 f)
          ∙ behind (offence 0 0 f) (sized (length (lines_in f))) room (given ends) ends-given

      go : (a : Bool) → cond a (Some (refusal 1 0 0)) (given (file_rows 0 0 f ++ ends))
          ≡ in_converted (in_room room (cond a (Err (refusal 1 0 0)) (refused_by (offence 0 0 f) (sized (length (lines_in f))))))
      go true = refl
      go false = rest

  -- from diskette
  pub from_exactly : Exactly (from_rows f room) (λ r. from_answer f room ≡ Err r) ((n : ℕ) × (from_answer f room ≡ Ok n))
  from_exactly = exactly (from_rows f room) (in_converted (from_answer f room)) from-given (refused_as (from_answer f room)) (length_as (from_answer f room))
