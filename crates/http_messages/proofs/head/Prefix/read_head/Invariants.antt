-- The search for a head ends with the reader's turns.
use Rattle.std.proofs.Common.{◌≡◌, ◌-◌, ◌≤◌}
use Rattle.std.specs.Io.KnownBytes.{Consumes}
use Rattle.http_messages.specs.declared.head.TheConstants.{MAX_EXCHANGE_READS}
use Rattle.http_messages.proofs.head.Prefix.read_head.Given as goal

abbrev pub invariant-reads : goal.invariant-reads
invariant-reads g l = record {
  bytes : Consumes (g.R.Read.remaining l.fn.reader.inner) (g.R.Read.remaining l.reader.inner) l.self;
  sound : l.reader.failed ≡ l.fn.reader.failed;
  turns : l.fn.reader.turns ≤ l.reader.turns;
  bounded : l.fn.reader.turns ≤ MAX_EXCHANGE_READS → l.reader.turns ≤ MAX_EXCHANGE_READS;
}

abbrev pub decreases-reads : goal.decreases-reads
decreases-reads g l = MAX_EXCHANGE_READS - l.reader.turns
