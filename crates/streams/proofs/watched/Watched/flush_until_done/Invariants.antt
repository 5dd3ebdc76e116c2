-- `flush_until_done` ends with the interruptions that it bears, and an interrupted flush appends nothing.
use Rattle.std.proofs.Common.{◌-◌, ◌≡◌, ◌≤◌}
use Rattle.std.specs.Io.KnownBytes.{Keeps}
use Rattle.streams.proofs.watched.Watched.flush_until_done.Given as goal

abbrev pub invariant-loop-self : goal.invariant-loop-self
invariant-loop-self g l = record {
  kept : Keeps (g.W.Write.contents l.initial.self.inner) (g.W.Write.contents l.self.inner);
  sound : l.self.failed ≡ l.initial.self.failed;
  later : l.initial.self.turns ≤ l.self.turns;
  bounded : l.initial.self.idle ≤ l.max_idle → l.self.idle ≤ l.max_idle;
}

abbrev pub decreases-loop-self : goal.decreases-loop-self
decreases-loop-self g l = l.max_idle - l.self.idle
