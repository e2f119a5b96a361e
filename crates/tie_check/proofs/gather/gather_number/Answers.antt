-- `tie_check::gather::gather_number` meets its contract.
use mathlib.Core.Path.{sym, ap, ◌∙◌}
use borrow.Author.Rules.{rules}
use Rattle.tie_check.specs.packed.Gathered.{Store, store}
use Rattle.tie_check.proofs.gather.Growing.{no_number, a_number}
use Rattle.tie_check.proofs.gather.gather_number.Goals as goal

pub returns-then-number-eq0 : goal.returns-then-number-eq0
returns-then-number-eq0 c =
    let e = sym (no_number (store c.args.keys.now c.args.links.now) _ c.args.tag c.if-number-eq0.true) in
    record {
      keys = ap (λ (t : Store). t.keys) e;
      links = ap (λ (t : Store). t.links) e;
    }

pub add-requires : goal.add-requires
add-requires c =
    let room = c.requires.links_bound c.if-number-eq0.false in
    record {
      linked = search (rules, room);
      links_bound = search (rules, room);
    }

pub returns : goal.returns
returns c =
    let e = sym (a_number (store c.args.keys.now c.args.links.now) _ c.args.tag c.if-number-eq0.false) in
    record {
      keys = c.add.ensures.keys ∙ ap (λ (t : Store). t.keys) e;
      links = c.add.ensures.links ∙ ap (λ (t : Store). t.links) e;
    }
