-- `tie_rules::packing::bits_in` meets its contract: what was walked over, from the back, is printable and makes the bits so far.
use Rattle.std.proofs.Common.{◌≡◌, ◌-◌, length, ◌∙◌, arith}
use lib.Seq.{take_all}
use Rattle.std.specs.Iterator.Adapters.{rev_source}
use Rattle.std.specs.Slice.Iter.{iter_rest}
use Rattle.tie_rules.proofs.packing.Bits.{bits_begin, printed_begin, bits_room, bits_stop, bits_more, printed_more, bits_end, one_more, inside, last_byte, front_before}
use Rattle.tie_rules.proofs.packing.bits_in.Goals as goal

pub loop-b-init : goal.loop-b-init
loop-b-init c =
    let t = c.args.t.now in
    let e : iter_rest (rev_source c.into_iter-b-iterator.result) ≡ t = cc in
    record {
      is = rw e (take_all (length t) t (omega arith));
      bits = rw e (bits_begin t);
      printed = rw e (printed_begin t);
    }

pub returns-then-b-lt-BLANK : goal.returns-then-b-lt-BLANK
returns-then-b-lt-BLANK c =
    let t = c.args.t.now in
    let front = iter_rest (rev_source c.loop-b.b-iterator) in
    let rest = iter_rest (rev_source c.next.new.self) in
    let s = c.in-Some.ensures.steps in
    let more = one_more t front rest c.in-Some.b.now s c.loop-b.invariant.is in
    let in_text = inside t front rest c.in-Some.b.now s c.loop-b.invariant.is in
    record {
      bits = bits_stop (length front - 1) t (omega (arith, more, in_text))
          (λ p. omega (arith, p.0, c.if-b-lt-BLANK.true, last_byte t front rest c.in-Some.b.now s c.loop-b.invariant.is));
    }

pub returns-then-b-gt-LAST : goal.returns-then-b-gt-LAST
returns-then-b-gt-LAST c =
    let t = c.args.t.now in
    let front = iter_rest (rev_source c.loop-b.b-iterator) in
    let rest = iter_rest (rev_source c.next.new.self) in
    let s = c.in-Some.ensures.steps in
    let more = one_more t front rest c.in-Some.b.now s c.loop-b.invariant.is in
    let in_text = inside t front rest c.in-Some.b.now s c.loop-b.invariant.is in
    record {
      bits = bits_stop (length front - 1) t (omega (arith, more, in_text))
          (λ p. omega (arith, p.1, c.if-b-gt-LAST.true, last_byte t front rest c.in-Some.b.now s c.loop-b.invariant.is));
    }

pub overflow_mul-bits : goal.overflow_mul-bits
overflow_mul-bits c =
    let t = c.args.t.now in
    let front = iter_rest (rev_source c.loop-b.b-iterator) in
    let more = one_more t front (iter_rest (rev_source c.next.new.self)) c.in-Some.b.now c.in-Some.ensures.steps c.loop-b.invariant.is in
    omega (arith, bits_room (length front) t (omega (arith, more)) c.requires c.loop-b.invariant.printed, c.loop-b.invariant.bits)

pub overflow_add-bits : goal.overflow_add-bits
overflow_add-bits c =
    let t = c.args.t.now in
    let front = iter_rest (rev_source c.loop-b.b-iterator) in
    let more = one_more t front (iter_rest (rev_source c.next.new.self)) c.in-Some.b.now c.in-Some.ensures.steps c.loop-b.invariant.is in
    omega (
      arith,
      bits_room (length front) t (omega (arith, more)) c.requires c.loop-b.invariant.printed,
      c.loop-b.invariant.bits,
      c.from.ensures,
      c.if-b-gt-LAST.false,
    )

pub loop-b-preserved : goal.loop-b-preserved
loop-b-preserved c =
    let t = c.args.t.now in
    let front = iter_rest (rev_source c.loop-b.b-iterator) in
    let rest = iter_rest (rev_source c.next.new.self) in
    let s = c.in-Some.ensures.steps in
    let l = c.loop-b.invariant in
    let more = one_more t front rest c.in-Some.b.now s l.is in
    let in_text = inside t front rest c.in-Some.b.now s l.is in
    let last = last_byte t front rest c.in-Some.b.now s l.is in
    let n : length rest ≡ length front - 1 = omega (arith, more) in
    record {
      is = front_before t front rest c.in-Some.b.now s l.is;
      bits = rw n (omega (arith, bits_more (length front) t (omega (arith, more)) in_text, l.bits, c.from.ensures, last));
      printed = rw n (printed_more (length front) t (omega (arith, more)) in_text (omega (arith, last, c.if-b-lt-BLANK.false))
          (omega (arith, last, c.if-b-gt-LAST.false)) l.printed);
    }

pub returns : goal.returns
returns c =
    let front = iter_rest (rev_source c.loop-b.b-iterator) in
    let z : length front ≡ 0 = c.in-None.ensures.steps.0 in
    record { bits = c.loop-b.invariant.bits ∙ bits_end (length front) c.args.t.now (omega (arith, z)) c.loop-b.invariant.printed }
