-- `media_diskette::lay_card` meets its contract: the line, and blanks behind it up to 80.
use Prim.Native.Nat.{◌+◌}
use mathlib.Core.Path.{sym, ap, ◌∙◌}
use mathlib.Core.List.{◌++◌}
use lib.ListN.{take, drop}
use lib.Seq.{length-take-le}
use native.Mathlib.Omega.{arith}
use Rattle.media_diskette.specs.Lines.{padded}
use Rattle.media_diskette.proofs.Laying.{blanked}
use Rattle.media_diskette.proofs.lay_card.Goals as goal

pub slice_bounds-copy-end : goal.slice_bounds-copy-end
slice_bounds-copy-end c = sym (length-take-le _ _ c.line_length-n.ensures.1)

pub copy-requires : goal.copy-requires
copy-requires c =
    let n = c.line_length-n in
    omega (arith, n.ensures.0, c.requires.0, c.requires.1, length-take-le n.result c.args.file.now n.ensures.1)

pub returns : goal.returns
returns c =
    let n = c.line_length-n in
    let f = c.args.file.now in
    let d = c.args.out.now in
    let k = length-take-le n.result f n.ensures.1 in record {
      size = ap (λ m. m + 2) n.ensures.0;
      out = blanked (take n.result f) d c.copy.new.columns c.fill_blanks.new.columns n.result (sym k)
          (omega (arith, n.ensures.0, c.requires.0)) c.requires.1 c.copy.ensures c.fill_blanks.ensures
          ∙ ap (λ m. padded (take m f) ++ drop 80 d) n.ensures.0;
    }
