-- What the parts come to: reading after appending and converting.
use Prim.Native.Nat.{ℕ, ◌+◌, ◌^◌, ◌<◌}
use mathlib.Core.Path.{◌≡◌, ap, ◌∙◌}
use mathlib.Core.Bool.{true}
use mathlib.Core.List.{List, [], ◌∷◌, ◌++◌}
use lib.ListN.{length}
use Rattle.volume_form.specs.Rows.{Row}
use Rattle.header_check.specs.forms.Cards.{cards_in}
use Rattle.volume_rules.specs.Volume.{joined, volume_of, Whole, Wholes}
use Rattle.volume_rules.specs.Sound.{headers_of, sound}
use Rattle.volume_form.proofs.Cards.{Good}
use Rattle.volume_rules.proofs.Exactly.{volume_sound, volume_told}

pub wholes_more : (hs : List (List ℕ)) (h : List ℕ) → Wholes hs → Whole h → Wholes (hs ++ (h ∷ []))
wholes_more [] h ws w = (w, tt)
wholes_more (g ∷ gs) h ws w = (ws.0, wholes_more gs h ws.1 w)

-- how many cards the volume of some headers has
abbrev pub total : List (List ℕ) → ℕ
total hs = cards_in (joined hs) + length hs + 1

-- to another form: the volume of the same headers
unfoldable pub converted : Row → Row → ℕ → List ℕ → List ℕ
converted f g n v = volume_of g (headers_of f n v)

module _ (f g : Row) (good : Good f) (good' : Good g) (hs : List (List ℕ)) (ws : Wholes hs)
    (fits : total hs < 10 ^ f.width) (fits' : total hs < 10 ^ g.width) where
  pub converted_is : converted f g (total hs) (volume_of f hs) ≡ volume_of g hs
  unfolding converted
  converted_is = ap (volume_of g) (volume_told f good hs ws fits)

  -- there and back are the old bytes
  pub converted_back : converted g f (total hs) (converted f g (total hs) (volume_of f hs)) ≡ volume_of f hs
  unfolding converted
  converted_back = ap (converted g f (total hs)) converted_is ∙ ap (volume_of f) (volume_told g good' hs ws fits')

-- a header more: the new volume is sound, and tells the earlier headers and the new one
pub append-told : (f : Row) (good : Good f) (hs : List (List ℕ)) (h : List ℕ) → Wholes hs → Whole h → total (hs ++ (h ∷ [])) < 10 ^ f.width
    → (sound f (total (hs ++ (h ∷ []))) (volume_of f (hs ++ (h ∷ []))) ≡ true)
    × (headers_of f (total (hs ++ (h ∷ []))) (volume_of f (hs ++ (h ∷ []))) ≡ hs ++ (h ∷ []))
append-told f good hs h ws w fits =
    (volume_sound f good _ (wholes_more hs h ws w) fits, volume_told f good _ (wholes_more hs h ws w) fits)
