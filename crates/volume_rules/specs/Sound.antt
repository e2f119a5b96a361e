-- What a reader asks of some cards before it takes them for a volume: 18 and 19.
use Rattle.std.specs.Prelude.{ℕ, zero, suc, ◌+◌, ◌-◌, ◌*◌, List, [], ◌∷◌, Bool, false, ◌&&◌, ◌||◌, length, take, drop, eqb, leb}
use Rattle.base_lists.specs.Parts.{alike}
use Rattle.volume_form.specs.Rows.{Row}
use Rattle.volume_form.specs.Marked.{entry_card, trailer_card, count_on, first_on}

-- the card t is the trailer of a volume of n cards
unfoldable pub points : Row → ℕ → List ℕ → Bool
points f n t = leb 1 (first_on f t) && (leb (first_on f t) n && alike t (trailer_card f (first_on f t) (n - first_on f t)))

-- one directory card: of a header that is not empty, begins the cards b and is within them
unfoldable pub enters : Row → ℕ → List ℕ → List ℕ → Bool
enters f at b card = leb 1 (count_on f card) && (leb (80 * count_on f card) (length b) && alike card (entry_card f b at (count_on f card)))

-- k directory cards d cover the cards b, the first of which has the number `at`
unfoldable pub covers : Row → ℕ → List ℕ → List ℕ → ℕ → Bool
covers f at b d zero = eqb (length b) 0
covers f at b d (suc k) =
    enters f at b (take 80 d) && covers f (at + count_on f (take 80 d)) (drop (80 * count_on f (take 80 d)) b) (drop 80 d) k

-- the headers that they tell
unfoldable pub headers_in : Row → List ℕ → List ℕ → ℕ → List (List ℕ)
headers_in f b d zero = []
headers_in f b d (suc k) =
    take (80 * count_on f (take 80 d)) b ∷ headers_in f (drop (80 * count_on f (take 80 d)) b) (drop 80 d) k

-- one of the k cards d has the code of the other form's directory cards
unfoldable pub mixed : List ℕ → List ℕ → ℕ → Bool
mixed other d zero = false
mixed other d (suc k) = alike (take 5 d) other || mixed other (drop 80 d) k

-- a volume v of n cards in its parts
unfoldable pub last_card : ℕ → List ℕ → List ℕ
last_card n v = take 80 (drop (80 * (n - 1)) v)

unfoldable pub first_of : Row → ℕ → List ℕ → ℕ
first_of f n v = first_on f (last_card n v)

unfoldable pub body_of : Row → ℕ → List ℕ → List ℕ
body_of f n v = take (80 * (first_of f n v - 1)) v

unfoldable pub directory_of : Row → ℕ → List ℕ → List ℕ
directory_of f n v = take (80 * (n - first_of f n v)) (drop (80 * (first_of f n v - 1)) v)

unfoldable pub headers_of : Row → ℕ → List ℕ → List (List ℕ)
headers_of f n v = headers_in f (body_of f n v) (directory_of f n v) (n - first_of f n v)

-- no 18 and no 19
unfoldable pub sound : Row → ℕ → List ℕ → Bool
sound f n v = points f n (last_card n v) && covers f 1 (body_of f n v) (directory_of f n v) (n - first_of f n v)
