-- Which kinds of fault a column of a card of a header has.
use Rattle.std.specs.Prelude.{ℕ, false, List}
use Rattle.tie_rules.specs.Faults as kind
use Rattle.tie_check.specs.declared.entries.Broken.{Broken}

unfoldable pub broken_for : List ℕ → List ℕ → ℕ → Broken
broken_for h s column = record {
  undefined = kind.undefined h s column;
  redefined = kind.redefined h s column;
  ambiguous = kind.ambiguous h s column;
  contradicted = kind.contradicted h s column;
  miscounted = kind.miscounted h s column;
}

-- none of them
abbrev pub none_of : Broken
none_of = record { undefined = false; redefined = false; ambiguous = false; contradicted = false; miscounted = false }
