-- `media_ebcdic::to_ascii` meets its contract.
use Rattle.media_ebcdic.specs.Tables.{ascii_of}
use Rattle.media_ebcdic.specs.Translating.{ascii_from}
use Rattle.media_ebcdic.proofs.to_ascii.Goals as goal

pub returns-clause-out : goal.returns-clause-out
unfolding ascii_from
returns-clause-out c = c.translate.ensures.out ascii_of (λ b x p. p)
