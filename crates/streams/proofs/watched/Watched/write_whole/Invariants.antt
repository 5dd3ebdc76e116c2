-- `write_whole` ends, since each turn takes a byte or comes nearer to the last interruption that it bears.
use Rattle.std.proofs.Common.{◌-◌, ◌+◌, ◌*◌, ◌≡◌, ◌<◌, ◌≤◌, length, take}
use Rattle.std.specs.Io.KnownBytes.{Appends}
use Rattle.streams.specs.Watched.{one_more}
use Rattle.streams.proofs.watched.Watched.write_whole.Given as goal

abbrev pub invariant-loop-written : goal.invariant-loop-written
invariant-loop-written g l = record {
  within : l.written ≤ length l.bytes;
  part : Appends (g.W.Write.contents l.initial.self.inner) (g.W.Write.contents l.self.inner) (take l.written l.bytes);
  sound : l.self.failed ≡ l.initial.self.failed;
  later : l.initial.self.turns ≤ l.self.turns;
  bounded : l.initial.self.idle ≤ l.max_idle → l.self.idle ≤ l.max_idle;
  counted : 0 < l.written → one_more l.initial.self.turns ≤ l.self.turns;
}

abbrev pub decreases-loop-written : goal.decreases-loop-written
decreases-loop-written g l = (length l.bytes - l.written) * (l.max_idle + 1) + (l.max_idle - l.self.idle)
