-- What an answer leaves in a list that is lent for its numbers.
use Rattle.std.specs.Prelude.{List, [], ◌∷◌, ℤ}
use Rattle.base_lists.specs.Laid.{stored}
use Rattle.p294.specs.declared.answers.Reply.{Reply}

-- the three numbers at the front of a lent list that has room for them; a shorter one stays as it was
unfoldable pub given : List ℤ → Reply → List ℤ
given l r = stored l 0 (r.first ∷ r.second ∷ r.third ∷ [])
