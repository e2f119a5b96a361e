-- `look_up` meets its contract: what the entry found tells.
-- Assumes nothing.
use mathlib.Core.Path.{refl, ◌∙◌}
use Prim.Native.Nat.{◌-◌, ◌<◌}
use native.Mathlib.Omega.{arith}
use Rattle.tie_store.specs.Store.{room}
use Rattle.tie_store.proofs.Telling.{told_none, told_absent, link_below, told_many, told_one}
use Rattle.tie_store.proofs.look_up.Goals as goal

pub returns-then-key-eq0 : goal.returns-then-key-eq0
returns-then-key-eq0 c = c.nothing.ensures ∙ told_none c.args.keys.now c.args.links.now _ c.if-key-eq0.true

pub returns-then-link-eq0 : goal.returns-then-link-eq0
returns-then-link-eq0 c =
    c.nothing-then-link-eq0.ensures
    ∙ told_absent c.args.keys.now c.args.links.now _ c.requires c.if-key-eq0.false _ c.find-link.ensures c.if-link-eq0.true

pub overflow_add-link : goal.overflow_add-link
overflow_add-link c =
    let below : c.find-link.result - 1 < room = (link_below c.args.keys.now c.args.links.now c.args.key c.requires c.if-key-eq0.false c.find-link.result
    c.find-link.ensures c.if-link-eq0.false) in
    omega (arith, below)

pub at-times-requires : goal.at-times-requires
at-times-requires c =
    let below : c.find-link.result - 1 < room = (link_below c.args.keys.now c.args.links.now c.args.key c.requires c.if-key-eq0.false c.find-link.result
    c.find-link.ensures c.if-link-eq0.false) in
    omega (arith, below)

pub returns-then-times-ne1 : goal.returns-then-times-ne1
returns-then-times-ne1 c =
    told_many c.args.keys.now c.args.links.now _ c.requires c.if-key-eq0.false _ c.find-link.ensures c.if-link-eq0.false
    _ c.at-times.ensures c.if-times-ne1.true

pub overflow_add-tag : goal.overflow_add-tag
overflow_add-tag c =
    let below : c.find-link.result - 1 < room = (link_below c.args.keys.now c.args.links.now c.args.key c.requires c.if-key-eq0.false c.find-link.result
    c.find-link.ensures c.if-link-eq0.false) in
    omega (arith, below)

pub offset_bounds-links-link : goal.offset_bounds-links-link
offset_bounds-links-link c =
    let below : c.find-link.result - 1 < room = (link_below c.args.keys.now c.args.links.now c.args.key c.requires c.if-key-eq0.false c.find-link.result
    c.find-link.ensures c.if-link-eq0.false) in
    omega (arith, below)

pub bounds-links-link : goal.bounds-links-link
bounds-links-link c =
    let below : c.find-link.result - 1 < room = (link_below c.args.keys.now c.args.links.now c.args.key c.requires c.if-key-eq0.false c.find-link.result
    c.find-link.ensures c.if-link-eq0.false) in
    omega (arith, below)

pub returns : goal.returns
returns c =
    told_one c.args.keys.now c.args.links.now _ c.requires c.if-key-eq0.false _ c.find-link.ensures c.if-link-eq0.false
    _ c.at-times.ensures _ refl c.if-times-ne1.false
