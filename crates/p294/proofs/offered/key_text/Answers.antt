-- `p294::offered::key_text` meets its contract.
use mathlib.Core.Path.{refl}
use native.Mathlib.Omega.{arith}
use borrow.Author.Tests.{eq-eqb, ne_eqb}
use Rattle.p294.specs.offered.Offers.{key_text_of}
use Rattle.p294.proofs.offered.key_text.Goals as goal

pub returns-then-kind-eq-KEY_TEXT : goal.returns-then-kind-eq-KEY_TEXT
unfolding key_text_of
returns-then-kind-eq-KEY_TEXT c = rw (eq-eqb c.args.kind 3 (omega (arith, c.if-kind-eq-KEY_TEXT.true))) refl

pub returns : goal.returns
unfolding key_text_of
returns c = rw (ne_eqb _ _ c.if-kind-eq-KEY_TEXT.false) refl
