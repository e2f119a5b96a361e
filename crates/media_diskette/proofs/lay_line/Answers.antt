-- `media_diskette::lay_line` meets its contract: the text, and CR LF behind it.
use mathlib.Core.Path.{ap}
use lib.ListN.{length, length-set}
use native.Mathlib.Omega.{arith}
use Rattle.media_diskette.proofs.Laying.{text_two, line-laid}
use Rattle.media_diskette.proofs.lay_line.Goals as goal

pub copy-requires : goal.copy-requires
copy-requires c = omega (arith, c.requires, ap length c.stretch-line.ensures, text_two c.args.card.now)

pub bounds-out-n : goal.bounds-out-n
bounds-out-n c = omega (arith, c.requires, ap length c.stretch-line.ensures, text_two c.args.card.now)

pub bounds-out-n-2 : goal.bounds-out-n-2
bounds-out-n-2 c =
    simp length-set (omega (arith, c.requires, ap length c.stretch-line.ensures, text_two c.args.card.now))

pub returns : goal.returns
returns c =
    let a = c.args in
    record { size = (line-laid a.card.now a.out.now c.stretch-line.result.now c.copy.new.columns c.stretch-line.ensures c.requires c.copy.ensures).0; out = (line-laid a.card.now a.out.now c.stretch-line.result.now c.copy.new.columns c.stretch-line.ensures c.requires c.copy.ensures).1 }
