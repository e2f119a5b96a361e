-- `media_diskette::lay_lines` meets its contract: what was laid, and what is left to lay.
use Rattle.std.proofs.Common.{◌≡◌, ◌+◌, ◌≤◌, ◌++◌, length, length-append, ap, sym, ◌∙◌, arith}
use Rattle.std.specs.Slice.Iter.{chunks_exact_rest}
use Rattle.media_diskette.specs.Lines.{line_of, disk_of}
use Rattle.media_diskette.proofs.Cards.{no_line, first_line}
use Rattle.media_diskette.proofs.Laying.{laid_at, laid_first, laid_none, part_room, room_left, next-line}
use Rattle.media_diskette.proofs.lay_lines.Goals as goal

pub loop-card-init : goal.loop-card-init
loop-card-init c =
    let e : chunks_exact_rest c.into_iter-card-iterator.result ≡ c.args.cards.now = cc in
    record {
      size = cc;
      room = rw e (omega (arith, c.requires));
      laid = ap (λ h. laid_at c.args.out.now 0 (disk_of h)) e ∙ laid_first c.args.out.now (disk_of c.args.cards.now);
    }

pub lay_line-at-requires : goal.lay_line-at-requires
lay_line-at-requires c =
    let l = c.loop-card in
    let rest = chunks_exact_rest c.next.new.self in
    let s = c.in-Some.ensures.steps in
    let more : disk_of (chunks_exact_rest l.card-iterator) ≡ line_of c.in-Some.card.now ++ disk_of rest =
    ap disk_of s.1.0 ∙ first_line c.in-Some.card.now rest (s.1.1 ∙ l.invariant.size) in
    part_room l.out (line_of c.in-Some.card.now) l.at
    (omega (arith, l.invariant.room, ap length more, length-append (line_of c.in-Some.card.now) (disk_of rest)))

pub loop-card-preserved : goal.loop-card-preserved
loop-card-preserved c =
    let l = c.loop-card in
    let r = c.lay_line-at in
    let rest = disk_of (chunks_exact_rest c.next.new.self) in
    let line = line_of c.in-Some.card.now in
    let s = c.in-Some.ensures.steps in
    let more : disk_of (chunks_exact_rest l.card-iterator) ≡ line ++ rest =
    ap disk_of s.1.0 ∙ first_line c.in-Some.card.now (chunks_exact_rest c.next.new.self) (s.1.1 ∙ l.invariant.size) in
    let room : l.at + length (line ++ rest) ≤ length l.out = omega (arith, l.invariant.room, ap length more) in
    record {
      size = s.0 ∙ l.invariant.size;
      room = room_left l.out r.new.out line rest l.at r.result room r.ensures.size r.ensures.out;
      laid = next-line l.out r.new.out line rest l.at r.result room r.ensures.size r.ensures.out ∙ sym (ap (laid_at l.out l.at) more) ∙ l.invariant.laid;
    }

pub returns : goal.returns
returns c =
    let l = c.loop-card in
    let s = c.in-None.ensures.steps in
    sym (ap (laid_at l.out l.at) (no_line (chunks_exact_rest l.card-iterator) (omega (arith, s.1.0, l.invariant.size))) ∙ laid_none l.out l.at)
    ∙ l.invariant.laid
