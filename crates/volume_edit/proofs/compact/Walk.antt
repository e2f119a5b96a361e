-- The walk that packs the lines that are kept, in the buffer.
use Prim.Native.Nat.{ℕ, ◌+◌, ◌-◌, ◌*◌, ◌/◌, ◌^◌, ◌≤◌, ◌<◌}
use native.Mathlib.Omega.{arith}
use mathlib.Core.Path.{◌≡◌, refl, sym, ap, ap₂, ◌∙◌}
use mathlib.Core.Bool.{Bool, true, false}
use mathlib.Core.List.{List}
use lib.ListN.{length, take, drop, length-drop}
use Rattle.volume_form.specs.Rows.{Row}
use Rattle.volume_form.specs.Marked.{count_on}
use Rattle.volume_form.proofs.Cards.{Good}
use Rattle.volume_rules.specs.Sound.{headers_in}
use Rattle.volume_rules.specs.Latest.{superseded}
use Rattle.volume_rules.specs.SameLine.{same_line, superseded_on}
use Rattle.volume_rules.specs.Packed.{Packed}
use Rattle.volume_rules.proofs.Compacting.{Compacting, compact_starts, compact_length, compact_first, compact_later, compact_ends}
use Rattle.volume_rules.proofs.Keeping.{compact_room, superseded_here, compact_passes, compact_card, compact_keeps}
use Rattle.volume_edit.specs.Parts.{Listed, LineFits, line_kept}
use Rattle.volume_edit.proofs.convert.Steps.{cards₀, directory₀, rest₀, parts₀, cards_long, directory_long}

abbrev pub Pack : Row → List ℕ → ℕ → ℕ → List ℕ → ℕ → ℕ → ℕ → ℕ → Type 0
Pack f s₀ body k s at i to j = Compacting f (cards₀ s₀ body k) (directory₀ s₀ body k) (rest₀ s₀ body k) k s at i to j

module _ (f : Row) (good : Good f) (s₀ : List ℕ) (body k : ℕ) (l : Listed f f body k s₀) where
  b_long : length (cards₀ s₀ body k) ≡ 80 * body
  b_long = cards_long s₀ body k (omega (arith, l.room))

  d_long : length (directory₀ s₀ body k) ≡ 80 * k
  d_long = directory_long s₀ body k (omega (arith, l.room))

  small : 1 + body < 10 ^ f.width
  small = omega (arith, l.small)

  pub pack_starts : Pack f s₀ body k s₀ 0 0 0 0
  pack_starts = compact_starts f (cards₀ s₀ body k) (directory₀ s₀ body k) (rest₀ s₀ body k) k l.over s₀ (parts₀ s₀ body k)

  module _ (s : List ℕ) (at i to j : ℕ) (inv : Pack f s₀ body k s at i to j) where
    pub pack_long : i ≤ k → length s ≡ length s₀
    pack_long h =
        compact_length f (cards₀ s₀ body k) (directory₀ s₀ body k) (rest₀ s₀ body k) body k s at i to j b_long d_long inv h
        ∙ sym (ap length (parts₀ s₀ body k))

    pub pack-ends : k ≤ i → i ≤ k → Packed f (cards₀ s₀ body k) (directory₀ s₀ body k) (rest₀ s₀ body k) body k s to j
    pack-ends h h' = compact_ends f (cards₀ s₀ body k) (directory₀ s₀ body k) (rest₀ s₀ body k) body k s at i to j b_long d_long h h' inv

    -- one step: the directory card here is a, those behind it are y
    module _ (more : i < k) (n : ℕ)
        (n_is : n ≡ count_on f (take (80 * (body + i) + 80 - 80 * (body + i)) (drop (80 * (body + i)) s))) where
      abbrev a : List ℕ
      a = take (80 * (body + i) + 80 - 80 * (body + i)) (drop (80 * (body + i)) s)

      abbrev y : List ℕ
      y = take (80 * (body + k) - (80 * (body + i) + 80)) (drop (80 * (body + i) + 80) s)

      a_is : a ≡ take 80 (drop (80 * i) (directory₀ s₀ body k))
      a_is =
          let e : 80 * (body + i) + 80 - 80 * (body + i) ≡ 80 = omega arith in
          ap (λ m. take m (drop (80 * (body + i)) s)) e
          ∙ compact_first f (cards₀ s₀ body k) (directory₀ s₀ body k) (rest₀ s₀ body k) body k s at i to j b_long d_long inv (omega arith) more

      y_is : y ≡ drop (80 * (i + 1)) (directory₀ s₀ body k)
      y_is = compact_later f (cards₀ s₀ body k) (directory₀ s₀ body k) (rest₀ s₀ body k) body k s at i to j b_long d_long inv (omega arith) more

      number : count_on f (take 80 (drop (80 * i) (directory₀ s₀ body k))) ≡ n
      number = ap (count_on f) (sym a_is) ∙ sym n_is

      pub pack-room : (at + n ≤ body) × (1 ≤ n) × (to ≤ at) × (j ≤ i)
      pack-room =
          compact_room f good (cards₀ s₀ body k) (directory₀ s₀ body k) (rest₀ s₀ body k) body k s at i to j n b_long d_long small inv more number

      pub pack-fits : LineFits f at to n (body + j) s
      pack-fits =
          let r = pack-room in
          let e : length s ≡ length s₀ = pack_long (omega arith) in
          record {
            some = r.1;
            down = r.2;
            line = omega (arith, r.0, l.room);
            entry = omega (arith, r.3, l.room);
            first = omega (arith, r.0, r.1, r.2, l.small);
            number = omega (arith, r.0, l.small);
          }

      y_cards : length y / 80 ≡ k - (i + 1)
      y_cards = let e = ap length y_is in let z = length-drop (80 * (i + 1)) (directory₀ s₀ body k) in omega (arith, d_long)

      module _ (gone : Bool) (gone-is : gone ≡ superseded_on a y (length y / 80)) where
        told : superseded_on (take 80 (drop (80 * i) (directory₀ s₀ body k))) (drop (80 * (i + 1)) (directory₀ s₀ body k)) (k - (i + 1)) ≡ gone
        told = sym (gone-is ∙ ap₂ (λ u m. superseded_on u y m) a_is y_cards
            ∙ ap (λ u. superseded_on (take 80 (drop (80 * i) (directory₀ s₀ body k))) u (k - (i + 1))) y_is)

        said : superseded same_line (take (80 * n) (drop (80 * at) (cards₀ s₀ body k)))
            (headers_in f (drop (80 * (at + n)) (cards₀ s₀ body k)) (drop (80 * (i + 1)) (directory₀ s₀ body k)) (k - (i + 1))) ≡ gone
        said = sym (superseded_here f good (cards₀ s₀ body k) (directory₀ s₀ body k) (rest₀ s₀ body k) body k s at i to j n b_long d_long small inv more number) ∙ told

        pub pack_passes : gone ≡ true → Pack f s₀ body k s (at + n) (i + 1) to j
        pack_passes e =
            compact_passes f good (cards₀ s₀ body k) (directory₀ s₀ body k) (rest₀ s₀ body k) body k s at i to j n b_long d_long small inv more number (said ∙ e)

        pub pack_keeps : gone ≡ false → Pack f s₀ body k (line_kept f at to n (body + j) s) (at + n) (i + 1) (to + n) (j + 1)
        unfolding line_kept
        pack_keeps e =
            rw (compact_card f good (cards₀ s₀ body k) (directory₀ s₀ body k) (rest₀ s₀ body k) body k s at i to j n b_long d_long small inv more number _ refl)
            (compact_keeps f good (cards₀ s₀ body k) (directory₀ s₀ body k) (rest₀ s₀ body k) body k s at i to j n b_long d_long small inv more number (said ∙ e))
