-- `base_value::raised` meets its contract.
use Rattle.std.proofs.Common.{◌≡◌, nat_abs, rules, arith, ap₂, ◌∙◌}
use Rattle.base_digits.specs.signs.Signs.{signed_of}
use Rattle.base_value.specs.Sums.{raised_of}
use Rattle.base_value.proofs.Adding.{small-held, raised_small}
use Rattle.base_value.proofs.raised.Goals as goal

raised_is : (c : goal.After-signed) → c.signed.result ≡ raised_of c.args.units c.args.more
unfolding raised_of
raised_is c =
    let size : c.unsigned_abs.result ≡ nat_abs c.args.units = search rules in
    c.signed.ensures ∙ ap₂ signed_of (search rules) (rw (← size) (omega (arith, c.grown.ensures)))

pub returns-clause-raised : goal.returns-clause-raised
returns-clause-raised c = rw (raised_is c) (small-held _ (raised_small _ _))

pub returns-clause-within : goal.returns-clause-within
returns-clause-within c = rw (raised_is c, small-held _ (raised_small _ _)) (raised_small _ _)
