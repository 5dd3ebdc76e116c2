use Rattle.std.proofs.Common.{rules}
use Rattle.streams.proofs.lines.Lines.line.Goals as goal

pub returns-else-self-clause-short : goal.returns-else-self-clause-short
returns-else-self-clause-short g c = search rules
