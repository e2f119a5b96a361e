-- A volume in another form: which forms can hold it, and what is said before it is written.
use Rattle.std.specs.Prelude.{ℕ, zero, suc, ◌*◌, Bool, true, ◌&&◌, List, [], ◌∷◌, take, drop, leb, Result, ⊤}
use Rattle.header_check.specs.forms.Cards.{cards_in}
use Rattle.volume_form.specs.Rows.{Row}
use Rattle.volume_form.specs.Marked.{count_on}
use Rattle.volume_rules.specs.Sound.{headers_of}
use Rattle.volume_rules.specs.Judged.{unless, and_then, volume_answer}
use Rattle.base_refusal.specs.declared.Refusal.{Refusal}
use Rattle.base_refusal.specs.Refusals.{no_refusal}

-- no header has more than m cards
unfoldable pub few : ℕ → List (List ℕ) → Bool
few m [] = true
few m (h ∷ hs) = leb (cards_in h) m && few m hs

-- the same, told by the k directory cards d
unfoldable pub few_on : Row → ℕ → List ℕ → ℕ → Bool
few_on f m d zero = true
few_on f m d (suc k) = leb (count_on f (take 80 d)) m && few_on f m (drop 80 d) k

-- a form holds a volume of n cards and these headers
unfoldable pub holds : Row → ℕ → List (List ℕ) → Bool
holds g n hs = leb n g.most && few g.largest hs

-- the volume's own refusal, then 21
unfoldable pub convert_checked : Row → Row → ℕ → List ℕ → Result ⊤ Refusal
convert_checked f g n buffer = and_then (volume_answer f n buffer) (unless (holds g n (headers_of f n (take (80 * n) buffer))) 21 no_refusal)
