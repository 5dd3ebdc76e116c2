use Rattle.register_rows.proofs.NextDue.{past_next}
use Rattle.register_tables.proofs.Readings.{reads_weaker}
use Rattle.register_rows.proofs.key_scan.each_due.Goals as goal
use Rattle.std.proofs.Common.{arith}

pub returns-in-First-clause-reads : goal.returns-in-First-clause-reads
returns-in-First-clause-reads g c = search (arith, reads_weaker, past_next)
