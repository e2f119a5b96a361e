-- What one read adds to the reader's bytes that were read before.
use native.Mathlib.Omega.{arith}
use Rattle.std.proofs.Common.{◌≡◌, ◌≤◌, ◌+◌, ◌-◌, ◌++◌, ℕ, List, length, sym, ap, ◌∙◌, rules}
use Rattle.std.specs.Prelude.{take, drop, None, Some}
use Rattle.std.specs.declared.option.Option.{Option}
use Rattle.std.specs.Io.KnownBytes.{Consumes}
use Rattle.std.proofs.Math.Seq.{take-append-add, length-take-le}
use Rattle.std.proofs.lemmas.List.{append_assoc, take-append-le}
use borrow.Rule.Slice.PartMut.{put_mid}
use Rattle.crew_io.proofs.input.read_all.Goals as goal

-- a reader that gives some bytes, and then more, gives both
both : (a b c : Option (List ℕ)) (xs ys : List ℕ) → Consumes a b xs → Consumes b c ys → Consumes a c (xs ++ ys)
both None b c xs ys h k = _
both (Some s) (Some t) None xs ys h k = k
both (Some s) (Some t) (Some u) xs ys h k = grind (arith, append_assoc)
both (Some s) None c xs ys h k = elim h [ ]

-- the first bytes, and n of the part behind them
placed : (done n k : ℕ) (was part : List ℕ) → done ≤ length was → n ≤ length part
    → take done was ++ take n part ≡ take (done + n) (put_mid done k was part)
placed done n k was part p q =
    let rest = drop k (drop done was) in
    let e : length (take done was) ≡ done = length-take-le done was p in
    let f = rw e at (take-append-add (take done was) (part ++ rest) n) in
    sym (f ∙ ap (λ l. take done was ++ l) (take-append-le n part rest q))

pub loop-done-preserved : goal.loop-done-preserved
loop-done-preserved g c =
    let n = c.in_ok-more.ensures.bound.0 in
    let e = placed c.loop-done.done _ (length c.loop-done.buf - c.loop-done.done) c.loop-done.buf _ (omega arith) n in
    let h = both _ _ _ _ _ c.loop-done.invariant.2 c.in_ok-more.ensures.bytes.0 in
    search (rules, e, h)
