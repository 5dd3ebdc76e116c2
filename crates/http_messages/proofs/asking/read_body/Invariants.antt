-- What is held is what stood after the head, and then what came; each read brings a byte.
use Rattle.std.proofs.Common.{◌≡◌, ◌-◌, ◌≤◌, ◌++◌, List, ℕ, length, take}
use Rattle.std.specs.Io.KnownBytes.{Consumes}
use Rattle.http_messages.specs.declared.head.TheConstants.{MAX_EXCHANGE_READS}
use Rattle.http_messages.proofs.asking.read_body.Given as goal

abbrev pub invariant-reads : goal.invariant-reads
invariant-reads g l = record {
  got : (more : List ℕ) × Consumes (g.R.Read.remaining l.fn.reader.inner) (g.R.Read.remaining l.reader.inner) more
      × (l.body.items ≡ take l.length l.after ++ more) × (length more ≡ l.read);
  few : length l.body.items ≤ l.length;
  counted : l.read ≤ length l.body.items;
  sound : l.reader.failed ≡ l.fn.reader.failed;
  bounded : l.fn.reader.turns ≤ MAX_EXCHANGE_READS → l.reader.turns ≤ MAX_EXCHANGE_READS;
}

abbrev pub decreases-reads : goal.decreases-reads
decreases-reads g l = l.length - length l.body.items
