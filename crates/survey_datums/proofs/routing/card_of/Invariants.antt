-- `survey_datums::routing::card_of` meets its contract.
use Prim.Native.Nat.{◌-◌, ◌≤◌}
use mathlib.Core.Path.{◌≡◌}
use Rattle.std.specs.Iterator.Adapters.{enumerate_count, enumerate_source, rev_source}
use Rattle.survey_datums.specs.routing.Tables.{card_of}
use Rattle.survey_datums.proofs.routing.Walking.{Walk}
use Rattle.survey_datums.proofs.routing.card_of.Given as goal

abbrev pub invariant-loop-step : goal.invariant-loop-step
invariant-loop-step l =
    let step = enumerate_count l.step-iterator in
    let lefts = rev_source (enumerate_source l.step-iterator) in
    record {
      from_none : lefts.start ≡ 0;
      not_behind : step ≤ l.place;
      walk : Walk l.table (card_of l.table l.from l.place) lefts.end l.datum (l.place - step);
    }
