-- Questions about the worked example of the paper.
use mathlib.Core.Path.{◌≡◌, refl}
use mathlib.Core.List.{[], ◌∷◌}
use lib.IntN.{pos, negsuc}
use native.Mathlib.Omega.{arith}
use Rattle.format_layout.specs.Shape.{bytes}
use Rattle.value_text.specs.text.Texts.{text_end, text_of}
use Rattle.base_refusal.specs.Refusals.{refusal}
use Rattle.tie_rules.specs.Offered.{is_whole, natural, whole_offered, pair_offered, text_offered}
use Rattle.tie_laws.proofs.Places.{place-only}
use Rattle.tie_laws.proofs.ExampleCards.{example}
use Rattle.tie_laws.proofs.ExampleSteps.{two_nodes, no_serial}
use Rattle.tie_laws.proofs.Example.{accepted}
use Rattle.tie_laws.proofs.Slips.{found_at}
use Rattle.tie_lookup.specs.declared.questions.Key.TheVariants.{Whole, Pair, Text}
use Rattle.tie_lookup.specs.declared.questions.Defined.TheVariants.{None, Only, Several}
use Rattle.tie_lookup.specs.questions.Questions.{is_class, key_offered, key_answer}
use Rattle.tie_lookup.proofs.questions.Agreed.{no_class, none_exactly, only_exactly, several_exactly, no_key}
use Rattle.std.specs.Prelude.{Ok, Err}

-- streamer 1 is defined on card 10 only, node 214 twice, and the serial A19 nowhere
pub told-there : (key_answer example 2 (Whole (pos 1)) [] ≡ Ok (Only 10 7))
    × (key_answer example 3 (Whole (pos 214)) [] ≡ Ok (Several 2))
    × (key_answer example 4 Text (bytes "A19  ") ≡ (Ok None))
unfolding is_class key_offered whole_offered text_offered natural is_whole text_of text_end
told-there = (
  (only_exactly example 2 (Whole (pos 1)) [] accepted refl 10 7).1 (place-only example 2 (1 ∷ []) 10 7 (omega arith) found_at),
  (several_exactly example 3 (Whole (pos 214)) [] accepted refl 2).1 (omega arith, two_nodes),
  (none_exactly example 4 Text (bytes "A19  ") accepted refl).1 no_serial,
)

-- a pair is no node, a number below 0 neither; and there is no class 11
pub nothing-there : (key_answer example 3 (Pair (pos 214) (pos 1)) [] ≡ (Ok None))
    × (key_answer example 3 (Whole (negsuc 213)) [] ≡ (Ok None))
    × (key_answer example 11 (Whole (pos 214)) [] ≡ Err (refusal 13 0 0))
unfolding is_class key_offered whole_offered pair_offered natural is_whole
nothing-there = (
  no_key example 3 (Pair (pos 214) (pos 1)) [] accepted refl refl,
  no_key example 3 (Whole (negsuc 213)) [] accepted refl refl,
  no_class example 11 (Whole (pos 214)) [] accepted refl,
)
