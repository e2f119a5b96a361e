-- The question about a key: whether it has no definition, one and where, or several and how many.
use Rattle.std.specs.Prelude.{ℕ, List, Bool, cond, ◌&&◌, eqb, leb, pos, get_or, Result, Ok, Err, ⊤}
use Rattle.base_refusal.specs.Refusals.{refusal}
use Rattle.header_check.specs.forms.Cards.{card_at}
use Rattle.header_check.specs.Refusing.{refusal_of}
use Rattle.tie_rules.specs.Offered.{text_class, pair_class, natural, whole_offered, pair_offered, text_offered}
use Rattle.tie_rules.specs.Ties.{Role, classes}
use Rattle.tie_rules.specs.Keys.{class_at, key_at}
use Rattle.tie_rules.specs.Definitions.{definitions_of, place_of}
use Rattle.tie_lookup.specs.declared.questions.Key.{Key}
use Rattle.tie_lookup.specs.declared.questions.Key.TheVariants.{Whole, Pair, Text}
use Rattle.tie_lookup.specs.declared.questions.Defined.{Defined}
use Rattle.tie_lookup.specs.declared.questions.Defined.TheVariants.{None, Only, Several}
use Rattle.base_refusal.specs.declared.Refusal.{Refusal}

-- the classes of keys
unfoldable pub is_class : ℕ → Bool
is_class class = leb 1 class && leb class classes

-- those of streamers, nodes, motion sensors and observations
abbrev pub streamer_class : ℕ
streamer_class = 2

abbrev pub node_class : ℕ
node_class = 3

abbrev pub sensor_class : ℕ
sensor_class = 5

abbrev pub observation_class : ℕ
observation_class = 10

-- a key that is offered for a class, a text as the bytes lent beside it: none where the class has keys of another kind
unfoldable pub key_offered : ℕ → Key → List ℕ → List ℕ
key_offered class (Whole n) text = whole_offered class (natural n)
key_offered class (Pair a b) text = pair_offered class (natural a) (natural b)
key_offered class Text text = text_offered class text

-- what a number of definitions, and the place of the only one, say of a key
unfoldable pub defined_by : ℕ → List ℕ → Result Defined Refusal
defined_by n at = cond (eqb n 0) (Ok None) (cond (eqb n 1) (Ok (Only (get_or at 0 0) (get_or at 1 0))) (Ok (Several n)))

-- the header's refusal, then 13 where there is no such class, then that
unfoldable pub answer_by : Result ⊤ Refusal → ℕ → Result Defined Refusal → Result Defined Refusal
answer_by (Err r) class defined = Err r
answer_by (Ok _) class defined = cond (is_class class) defined (Err (refusal 13 0 0))

-- what a header says of a key that is offered
unfoldable pub key_answer : List ℕ → ℕ → Key → List ℕ → Result Defined Refusal
key_answer h class key text =
    answer_by (refusal_of h) class
    (defined_by (definitions_of h class (key_offered class key text)) (place_of h class (key_offered class key text)))

-- a key of a class as it is offered, with its numbers lent beside it in case it is a text
unfoldable pub offer_of : ℕ → List ℕ → Key
offer_of class key =
    cond (eqb class text_class) Text
    (cond (eqb class pair_class) (Pair (pos (get_or key 0 0)) (pos (get_or key 1 0))) (Whole (pos (get_or key 0 0))))

-- what is told of the key that a column of a card, counted from 0, refers to or defines
abbrev pub asked_at : List ℕ → ℕ → ℕ → Role → Result Defined Refusal
asked_at h c column r =
    key_answer h (class_at r (card_at h c) column) (offer_of (class_at r (card_at h c) column) (key_at r (card_at h c) column))
    (key_at r (card_at h c) column)
