-- `check` meets its contract: a 3 for too many cards, and otherwise what the library's check says.
use mathlib.Core.Path.{refl, sym, ap, ◌∙◌}
use Rattle.tie_check.specs.Answer.{answer_for, list_for}
use Rattle.crew_answer.proofs.Limits.{refused-there, taken_there}
use Rattle.crew_answer.proofs.check.Goals as goal
use Rattle.std.specs.Prelude.{Err}

pub returns-then-too_many : goal.returns-then-too_many
unfolding answer_for list_for
returns-then-too_many c =
    record {
      answer = rw (refused-there c.args.header.now (sym c.too_many.ensures ∙ c.if-too_many.true)) (ap Err c.refuse.ensures);
      list = rw (refused-there c.args.header.now (sym c.too_many.ensures ∙ c.if-too_many.true)) refl;
    }

pub returns : goal.returns
returns c =
    record {
      answer = rw (taken_there c.args.header.now (sym c.too_many.ensures ∙ c.if-too_many.false)) c.check.ensures.answer;
      list = rw (taken_there c.args.header.now (sym c.too_many.ensures ∙ c.if-too_many.false)) c.check.ensures.list;
    }
