-- The three numbers stored, and the answer that was given.
use Prim.Native.Nat.{◌≤◌, ◌<◌}
use mathlib.Core.Path.{◌≡◌, sym, ap, ◌∙◌}
use mathlib.Core.List.{List, [], ◌∷◌}
use lib.IntN.{ℤ}
use lib.ListN.{length, set}
use mir.Syntax.{w64}
use mir.Val.{to_z, of_z, SFits}
use Rattle.base_lists.proofs.Laying.{stored_sets, stored_full}
use Rattle.p294.specs.declared.answers.Reply.{Reply}
use Rattle.p294.proofs.answers.Steps.{back}
use Rattle.p294.specs.Given.{given}

-- no room for the numbers
pub not-given : (l : List ℤ) (r : Reply) → length l < 3 → l ≡ given l r
unfolding given
not-given l r h = sym (stored_full l 0 (r.first ∷ r.second ∷ r.third ∷ []) h)

-- room for them
pub all-given : (l : List ℤ) (r : Reply) (a b d : ℤ) → 3 ≤ length l → a ≡ r.first → b ≡ r.second → d ≡ r.third
    → set (set (set l 0 a) 1 b) 2 d ≡ given l r
unfolding given
all-given l r a b d h p q s = rw (p, q, s) (sym (stored_sets l 0 (r.first ∷ r.second ∷ r.third ∷ []) h))

-- an answer that was given, by what it is
pub answered : (l m : List ℤ) (r s : Reply) (z : ℤ) → SFits w64 z → z ≡ r.said → m ≡ given l r → r ≡ s
    → (to_z w64 (of_z w64 z) ≡ s.said) × (m ≡ given l s)
answered l m r s z f p q e = (back z s.said f (p ∙ ap (λ x. x.said) e), q ∙ ap (given l) e)
