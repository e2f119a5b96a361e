-- `card_put::opening::open` meets its contract.
use mathlib.Core.Path.{sym, ap, ◌∙◌}
use Rattle.card_put.specs.opening.Opening.{code_answer, card_with}
use Rattle.card_put.proofs.opening.Laying.{open_none, open_odd, kept_odd, open_coded, card_coded, passed_length, read_length}
use native.Mathlib.Omega.{arith}
use Rattle.card_put.proofs.opening.open.Goals as goal
use Rattle.std.specs.Prelude.{Err}

pub returns-then-card-eq0 : goal.returns-then-card-eq0
returns-then-card-eq0 c =
    let t = c.args.code.now in let s = c.args.card.now in record {
      answer = ap Err c.refuse.ensures ∙ sym (open_none t s c.if-card-eq0.true);
      card = sym (kept_odd t s (λ q. omega (arith, c.if-card-eq0.true)));
    }

pub returns-then-card-ne-CARD : goal.returns-then-card-ne-CARD
returns-then-card-ne-CARD c =
    let t = c.args.code.now in let s = c.args.card.now in record {
      answer = ap Err c.refuse-then-card-ne-CARD.ensures ∙ sym (open_odd t s c.if-card-eq0.false c.if-card-ne-CARD.true);
      card = sym (kept_odd t s c.if-card-ne-CARD.true);
    }

pub lay_passed-requires : goal.lay_passed-requires
lay_passed-requires c = (c.if-card-ne-CARD.false, passed_length _ (sym c.code_of-known.ensures ∙ c.in-Passed.is))

pub lay_read-requires : goal.lay_read-requires
lay_read-requires c = (c.if-card-ne-CARD.false, read_length _ _ (sym c.code_of-known.ensures ∙ c.in-Read.is))

pub returns-in-Unknown : goal.returns-in-Unknown
unfolding code_answer card_with
returns-in-Unknown c =
    let t = c.args.code.now in let s = c.args.card.now in let e = sym c.code_of-known.ensures ∙ c.in-Unknown.is in record {
      answer = ap Err c.refuse-in-Unknown.ensures ∙ sym (open_coded t s c.if-card-ne-CARD.false _ e);
      card = sym (card_coded t s c.if-card-ne-CARD.false _ e);
    }

pub returns-in-Passed : goal.returns-in-Passed
unfolding code_answer card_with
returns-in-Passed c =
    let t = c.args.code.now in let s = c.args.card.now in let e = sym c.code_of-known.ensures ∙ c.in-Passed.is in record {
      answer = sym (open_coded t s c.if-card-ne-CARD.false _ e);
      card = c.lay_passed.ensures ∙ sym (card_coded t s c.if-card-ne-CARD.false _ e);
    }

pub returns-in-Read : goal.returns-in-Read
unfolding code_answer card_with
returns-in-Read c =
    let t = c.args.code.now in let s = c.args.card.now in let e = sym c.code_of-known.ensures ∙ c.in-Read.is in record {
      answer = sym (open_coded t s c.if-card-ne-CARD.false _ e);
      card = c.lay_read.ensures ∙ sym (card_coded t s c.if-card-ne-CARD.false _ e);
    }
