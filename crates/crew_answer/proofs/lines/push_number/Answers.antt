-- `push_number` meets its contract: the digits are filled in beside the buffer and then put.
use Prim.Native.Nat.{◌≤◌, ◌+◌}
use mathlib.Core.Path.{◌≡◌, sym, ◌∙◌}
use lib.ListN.{length, replicate}
use lib.Seq.{length-take-le}
use native.Mathlib.Omega.{arith}
use Rattle.base_digits.specs.digits.Digits.{digits, size}
use Rattle.base_digits.proofs.digits.Spell.{digits-length}
use Rattle.crew_answer.specs.lines.Text.{numeral}
use Rattle.crew_answer.proofs.lines.Pushing.{filled_front, filled_whole, ten_digits}
use Rattle.crew_answer.proofs.lines.push_number.Goals as goal

pub slice_bounds-fill_digits-end : goal.slice_bounds-fill_digits-end
slice_bounds-fill_digits-end c = sym (length-take-le c.size_of-k.result (replicate 20 0) c.size_of-k.ensures.within.1)

pub slice_bounds-text-end-2 : goal.slice_bounds-text-end-2
slice_bounds-text-end-2 c =
    omega (arith, filled_whole c.size_of-k.result c.args.n c.fill_digits.new.columns (replicate 20 0) c.size_of-k.ensures.within.1 c.fill_digits.ensures.columns, c.size_of-k.ensures.within.1)

pub slice_bounds-push_all-end : goal.slice_bounds-push_all-end
slice_bounds-push_all-end c =
    sym (rw (filled_front c.size_of-k.result c.args.n c.fill_digits.new.columns (replicate 20 0) c.size_of-k.ensures.within.1 c.fill_digits.ensures.columns) (digits-length _ _))

pub push_all-requires : goal.push_all-requires
push_all-requires c =
    rw (filled_front c.size_of-k.result c.args.n c.fill_digits.new.columns (replicate 20 0) c.size_of-k.ensures.within.1 c.fill_digits.ensures.columns, digits-length) (omega (arith, c.size_of-k.ensures.within.1))

pub returns : goal.returns
unfolding numeral
returns c =
    let k = c.size_of-k in
    let p = c.push_all in
    let e = filled_front c.size_of-k.result c.args.n c.fill_digits.new.columns (replicate 20 0) c.size_of-k.ensures.within.1 c.fill_digits.ensures.columns in
    let l : length (digits k.result c.args.n) ≡ k.result = digits-length k.result c.args.n in
    let q : p.result ≡ c.args.at + k.result = p.ensures.next ∙ rw (e, l) in record {
      out = p.ensures.out ∙ rw (e, k.ensures.found);
      next = rw (← k.ensures.found, l) q;
      within = omega (arith, k.ensures.within.1);
      short = λ h. let t : size c.args.n ≤ 10 = ten_digits c.args.n h in omega (arith, k.ensures.found);
    }
