use Rattle.register_rows.proofs.NextDue.{found_later, found_same}
use Rattle.register_tables.proofs.Readings.{reads_as, reads_fail, reads_then, reads_weaker, sight_then}
use Rattle.register_rows.proofs.key_scan.find_due_in_two_searches.Goals as goal
use Rattle.std.proofs.Common.{arith}

pub returns-in_err-found-clause-reads : goal.returns-in_err-found-clause-reads
returns-in_err-found-clause-reads g c = search (arith, reads_fail)

pub returns-then-is_some-clause-reads : goal.returns-then-is_some-clause-reads
returns-then-is_some-clause-reads g c = search (arith, reads_as, found_same)

pub returns-clause-reads : goal.returns-clause-reads
returns-clause-reads g c = search (arith, reads_weaker, found_later, reads_then)

pub returns-clause-sight : goal.returns-clause-sight
returns-clause-sight g c = search (arith, sight_then)
