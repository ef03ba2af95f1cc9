use Rattle.std.proofs.Common.{refl}
use Rattle.din_trace.specs.Standing as words
use Rattle.din_trace.proofs.Stands.{stands-longer}
use Rattle.din_trace.proofs.line_reader.LineReader.byte.Goals as goal

pub returns-else-byte-eq10-clause-inside : goal.returns-else-byte-eq10-clause-inside
unfolding words.StandsFor words.line_of words.HasNoFault
returns-else-byte-eq10-clause-inside c other text s = (
  refl,
  stands-longer _ _ text c.args.byte other s.no_fault refl c.next-self.ensures.form
      c.next-self.ensures.begun s,
)
