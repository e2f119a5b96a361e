-- A step of the walk that compacts: a line that is superseded is passed over; one that is not is kept, which takes two writes.
use Prim.Native.Nat.{ℕ, ◌+◌, ◌-◌, ◌*◌, ◌^◌, ◌≤◌, ◌<◌}
use native.Mathlib.Omega.{arith}
use mathlib.Core.Path.{◌≡◌, sym, ap, ap₂, ◌∙◌}
use mathlib.Core.Bool.{true, false}
use mathlib.Core.List.{List, [], ◌∷◌, ◌++◌, append_assoc, append-nil}
use lib.ListN.{length, take, drop, length-append, length-drop, take-append-drop}
use lib.Seq.{take_at, drop_at, length-take-le, drop-drop, drop-append-le}
use Rattle.volume_form.specs.Moved.{laid_at, moved}
use Rattle.volume_form.proofs.moving.Moves.{laid-behind}
use Rattle.volume_form.specs.Rows.{Row}
use Rattle.volume_form.specs.Marked.{entry_card, count_on}
use Rattle.volume_form.proofs.Cards.{Good, entry_longer, length-entry}
use Rattle.header_check.specs.forms.Cards.{cards_in}
use Rattle.volume_rules.specs.Volume.{joined, directory, Whole}
use Rattle.volume_rules.specs.Sound.{headers_in}
use Rattle.volume_rules.specs.Latest.{superseded, latest}
use Rattle.volume_rules.specs.SameLine.{same_line, superseded_on}
use Rattle.volume_rules.proofs.Covering.{cards_of_lem}
use Rattle.volume_rules.proofs.Appending.{joined-append, directory-append}
use Rattle.volume_rules.proofs.Latest.{latest-kept, latest-passed, moved_down_lem, gap_long}
use Rattle.volume_rules.proofs.Lines.{headers_goes}
use Rattle.volume_rules.proofs.Promises.{wholes_more}
use Rattle.volume_rules.proofs.Converting.{Next, next}
use Rattle.volume_rules.proofs.Superseded.{entered-header, superseded-told}
use Rattle.volume_rules.proofs.Compacting.{Compacting}

-- a header h moved down over a gap, and its directory card e laid behind those of the headers before it
two_writes : (a g h b d o c y e : List ℕ) (p q to n : ℕ) → length a ≡ to → length a + length g ≡ p → length h ≡ n
    → to + n + length g + length b + length d ≡ q → length e ≡ length c
    → laid_at (moved (a ++ (g ++ ((h ++ b) ++ (d ++ (o ++ (c ++ y)))))) p to n) q e
    ≡ (a ++ h) ++ (drop (length h) (g ++ h) ++ (b ++ ((d ++ e) ++ (drop (length c) (o ++ c) ++ y))))
two_writes a g h b d o c y e p q to n a-long p-is h_long q-is e_long =
    let x : List ℕ = b ++ (d ++ (o ++ (c ++ y))) in
    let g' : List ℕ = drop (length h) (g ++ h) in
    let z : List ℕ = o ++ (c ++ y) in
    let front : List ℕ = (a ++ h) ++ (g' ++ (b ++ d)) in
    let one : moved (a ++ (g ++ (h ++ x))) p to n ≡ (a ++ h) ++ (g' ++ x) = rw (← p-is, ← h_long, ← a-long) (moved_down_lem a g h x) in
    let two : (a ++ h) ++ (g' ++ x) ≡ front ++ z =
    ap (λ l. (a ++ h) ++ l) (ap (λ l. g' ++ l) (sym (append_assoc b d z)) ∙ sym (append_assoc g' (b ++ d) z)) ∙ sym (append_assoc (a ++ h) (g' ++ (b ++ d)) z) in
    let front_long : length front ≡ q =
    let u = length-append (a ++ h) (g' ++ (b ++ d)) in let v = length-append a h in let w = length-append g' (b ++ d) in let t = length-append b d in
    let l = gap_long g h in omega arith in
    let rest : drop (length e) z ≡ drop (length c) (o ++ c) ++ y =
    ap₂ drop e_long (sym (append_assoc o c y)) ∙ drop-append-le (length c) (o ++ c) y (let u = length-append o c in omega arith) in
    let w : List ℕ = drop (length c) (o ++ c) ++ y in
    ap (λ l. laid_at (moved (a ++ (g ++ l)) p to n) q e) (append_assoc h b (d ++ z))
    ∙ ap (λ l. laid_at l q e) (one ∙ two)
    ∙ laid-behind front z e q front_long
    ∙ ap (λ l. front ++ (e ++ l)) rest
    ∙ append_assoc (a ++ h) (g' ++ (b ++ d)) (e ++ w)
    ∙ ap (λ l. (a ++ h) ++ l) (append_assoc g' (b ++ d) (e ++ w) ∙ ap (λ l. g' ++ l) (append_assoc b d (e ++ w) ∙ ap (λ l. b ++ l) (sym (append_assoc d e w))))

module _ (f : Row) (good : Good f) (b d r : List ℕ) (c k : ℕ) (s : List ℕ) (at i to j n : ℕ) (b_long : length b ≡ 80 * c) (d_long : length d ≡ 80 * k)
    (small : 1 + c < 10 ^ f.width) (inv : Compacting f b d r k s at i to j) (more : i < k) (n_is : count_on f (take 80 (drop (80 * i) d)) ≡ n) where
  abbrev N : Next f b d k at i n
  N = next f b d k at i n more inv.within n_is inv.over

  abbrev h : List ℕ
  h = take (80 * n) (drop (80 * at) b)

  abbrev card : List ℕ
  card = take 80 (drop (80 * i) d)

  abbrev hs : List (List ℕ)
  hs = headers_in f (drop (80 * (at + n)) b) (drop (80 * (i + 1)) d) (k - (i + 1))

  some : 1 ≤ n
  some = N.card.some

  h_long : length h ≡ 80 * n
  h_long = length-take-le (80 * n) (drop (80 * at) b) (rw length-drop (omega (arith, N.room)))

  card_long : length card ≡ 80
  card_long = length-take-le 80 (drop (80 * i) d) (rw length-drop (omega arith))

  -- how the numbers of the walk stand to each other
  pub compact_room : (at + n ≤ c) × (1 ≤ n) × (to ≤ at) × (j ≤ i)
  compact_room = (omega (arith, N.room), some, omega (arith, inv.gap_is), omega (arith, inv.hole-is))

  body_splits : drop (80 * at) b ≡ h ++ drop (80 * (at + n)) b
  body_splits =
      let p : 80 * at + 80 * n ≡ 80 * (at + n) = omega arith in
      sym (take-append-drop (80 * n) (drop (80 * at) b)) ∙ ap (λ l. h ++ l) (drop-drop (80 * n) (80 * at) b ∙ ap (λ m. drop m b) p)

  directory_splits : drop (80 * i) d ≡ card ++ drop (80 * (i + 1)) d
  directory_splits =
      let p : 80 * i + 80 ≡ 80 * (i + 1) = omega arith in
      sym (take-append-drop 80 (drop (80 * i) d)) ∙ ap (λ l. card ++ l) (drop-drop 80 (80 * i) d ∙ ap (λ m. drop m d) p)

  -- the buffer, cut where the line's cards and its directory card end
  cut : s ≡ joined inv.front ++ (inv.gap ++ ((h ++ drop (80 * (at + n)) b)
      ++ (directory f 1 inv.front ++ (inv.hole ++ (card ++ (drop (80 * (i + 1)) d ++ r))))))
  cut =
      let y : List ℕ = drop (80 * (i + 1)) d in
      inv.is
      ∙ ap₂ (λ u v. joined inv.front ++ (inv.gap ++ (u ++ (directory f 1 inv.front ++ (inv.hole ++ (v ++ r)))))) body_splits directory_splits
      ∙ ap (λ l. joined inv.front ++ (inv.gap ++ ((h ++ drop (80 * (at + n)) b) ++ (directory f 1 inv.front ++ (inv.hole ++ l))))) (append_assoc card y r)

  -- the buffer is as long as its parts
  compact_long : 80 * c ≤ length s
  compact_long =
      let A : List ℕ = joined inv.front in
      let y : List ℕ = directory f 1 inv.front ++ (inv.hole ++ (drop (80 * i) d ++ r)) in
      let p = length-append A (inv.gap ++ (drop (80 * at) b ++ y)) in
      let q = length-append inv.gap (drop (80 * at) b ++ y) in
      let u = length-append (drop (80 * at) b) y in
      let v = length-drop (80 * at) b in
      omega (arith, ap length inv.is, inv.cards, inv.gap_is, inv.within)

  -- whether the line is superseded, told from the directory
  pub superseded_here : superseded_on card (drop (80 * (i + 1)) d) (k - (i + 1)) ≡ superseded same_line h hs
  superseded_here =
      ap (λ l. superseded_on l (drop (80 * (i + 1)) d) (k - (i + 1))) (entered-header f (1 + at) n (drop (80 * at) b) card N.card)
      ∙ superseded-told f good h (1 + at) n (omega (arith, some, h_long)) (1 + (at + n)) (drop (80 * (at + n)) b) (drop (80 * (i + 1)) d) (k - (i + 1)) N.over

  -- a line that is superseded is passed over
  pub compact_passes : superseded same_line h hs ≡ true → Compacting f b d r k s (at + n) (i + 1) to j
  compact_passes gone =
      let g : List ℕ = inv.gap in
      let o : List ℕ = inv.hole in
      let D : List ℕ = directory f 1 inv.front in
      let y : List ℕ = drop (80 * (i + 1)) d ++ r in
      let x : List ℕ = drop (80 * (at + n)) b in
      record {
        front = inv.front;
        gap = g ++ h;
        hole = o ++ card;
        kept =
            inv.kept ∙ ap (λ l. inv.front ++ latest same_line l) (headers_goes f b d k at i n more n_is)
            ∙ ap (λ l. inv.front ++ l) (latest-passed same_line h hs gone);
        wholes = inv.wholes;
        cards = inv.cards;
        lines = inv.lines;
        listed = inv.listed;
        gap_is = let q = length-append g h in omega (arith, q, inv.gap_is, h_long);
        hole-is = let q = length-append o card in omega (arith, q, inv.hole-is, card_long);
        within = N.room;
        over = N.over;
        is =
            cut
            ∙ ap (λ l. joined inv.front ++ l)
            (ap (λ l. g ++ l) (append_assoc h x (D ++ (o ++ (card ++ y)))) ∙ sym (append_assoc g h (x ++ (D ++ (o ++ (card ++ y)))))
            ∙ ap (λ l. (g ++ h) ++ (x ++ (D ++ l))) (sym (append_assoc o card y)));
      }

  abbrev E : List ℕ
  E = entry_card f h (1 + to) n

  e_long : length E ≡ 80
  e_long = length-entry f good (1 + to) n (omega (arith, N.room, inv.gap_is, some)) (omega (arith, N.room)) h (omega (arith, some, h_long))

  h_cards : cards_in h ≡ n
  h_cards = cards_of_lem h n h_long

  h_whole : Whole h
  h_whole = record { some = rw h_cards some; whole = h_long ∙ ap (λ m. 80 * m) (sym h_cards) }

  abbrev more_front : List (List ℕ)
  more_front = inv.front ++ (h ∷ [])

  joined_more : joined more_front ≡ joined inv.front ++ h
  unfolding joined
  joined_more = joined-append inv.front (h ∷ []) ∙ ap (λ l. joined inv.front ++ l) (append-nil h)

  directory_more : directory f 1 more_front ≡ directory f 1 inv.front ++ E
  unfolding directory
  directory_more =
      directory-append f 1 inv.front (h ∷ []) inv.wholes
      ∙ ap (λ l. directory f 1 inv.front ++ l) (append-nil _)
      ∙ ap₂ (λ u v. directory f 1 inv.front ++ entry_card f h (1 + u) v) (cards_of_lem (joined inv.front) to inv.cards) h_cards

  -- the card built from the moved buffer is that of the header
  pub compact_card : (u : List ℕ) → u ≡ moved s (80 * at) (80 * to) (80 * n) → entry_card f (drop (80 * to) u) (1 + to) n ≡ E
  unfolding moved
  compact_card u u-is =
      let A : List ℕ = take (80 * to) s in
      let A-long : length A ≡ 80 * to = length-take-le (80 * to) s (omega (arith, compact_long, compact_room.2, compact_room.0)) in
      let front : drop (80 * at) s ≡ h ++ _ =
      ap (drop (80 * at)) (cut ∙ sym (append_assoc (joined inv.front) inv.gap _))
      ∙ drop_at (joined inv.front ++ inv.gap) _ (80 * at) (length-append (joined inv.front) inv.gap ∙ ap (λ m. m + length inv.gap) inv.cards ∙ inv.gap_is)
      ∙ append_assoc h (drop (80 * (at + n)) b) _ in
      let mid : take (80 * n) (drop (80 * at) s) ≡ h = ap (take (80 * n)) front ∙ take_at h _ (80 * n) h_long in
      ap (λ l. entry_card f (drop (80 * to) l) (1 + to) n) u-is
      ∙ ap (λ l. entry_card f l (1 + to) n) (drop_at A _ (80 * to) A-long ∙ ap (λ l. l ++ drop (80 * to + 80 * n) s) mid)
      ∙ entry_longer f h _ (1 + to) n (omega (arith, some, h_long))

  -- a line that is not superseded is kept
  pub compact_keeps : superseded same_line h hs ≡ false
      → Compacting f b d r k (laid_at (moved s (80 * at) (80 * to) (80 * n)) (80 * (c + j)) E) (at + n) (i + 1) (to + n) (j + 1)
  compact_keeps stays =
      let g : List ℕ = inv.gap in
      let o : List ℕ = inv.hole in
      let x : List ℕ = drop (80 * (at + n)) b in
      let A : List ℕ = joined inv.front in
      let D : List ℕ = directory f 1 inv.front in
      let y : List ℕ = drop (80 * (i + 1)) d ++ r in
      let x-long : length x ≡ length b - 80 * (at + n) = length-drop (80 * (at + n)) b in
      record {
        front = more_front;
        gap = drop (length h) (g ++ h);
        hole = drop (length card) (o ++ card);
        kept =
            inv.kept ∙ ap (λ l. inv.front ++ latest same_line l) (headers_goes f b d k at i n more n_is)
            ∙ ap (λ l. inv.front ++ l) (latest-kept same_line h hs stays)
            ∙ sym (append_assoc inv.front (h ∷ []) _);
        wholes = wholes_more inv.front h inv.wholes h_whole;
        cards = ap length joined_more ∙ length-append A h ∙ ap₂ ◌+◌ inv.cards h_long ∙ omega arith;
        lines = length-append inv.front (h ∷ []) ∙ ap (λ m. m + 1) inv.lines;
        listed = ap length directory_more ∙ length-append D E ∙ ap₂ ◌+◌ inv.listed e_long ∙ omega arith;
        gap_is = let q = gap_long g h in omega (arith, q, inv.gap_is);
        hole-is = let q = gap_long o card in omega (arith, q, inv.hole-is);
        within = N.room;
        over = N.over;
        is =
            ap (λ l. laid_at (moved l (80 * at) (80 * to) (80 * n)) (80 * (c + j)) E) cut
            ∙ two_writes A g h x D o card y E (80 * at) (80 * (c + j)) (80 * to) (80 * n) inv.cards
            (ap (λ m. m + length g) inv.cards ∙ inv.gap_is) h_long (omega (arith, inv.gap_is, inv.listed, x-long, N.room)) (e_long ∙ sym card_long)
            ∙ ap₂ (λ u v. u ++ (drop (length h) (g ++ h) ++ (x ++ (v ++ (drop (length card) (o ++ card) ++ y))))) (sym joined_more) (sym directory_more);
      }
