-- `media_ebcdic::to_ebcdic` meets its contract.
use Rattle.media_ebcdic.specs.Tables.{ebcdic_of}
use Rattle.media_ebcdic.specs.Translating.{ebcdic_from}
use Rattle.media_ebcdic.proofs.to_ebcdic.Goals as goal

pub returns-clause-out : goal.returns-clause-out
unfolding ebcdic_from
returns-clause-out c = c.translate.ensures.out ebcdic_of (λ b x p. p)
