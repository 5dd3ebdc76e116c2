-- `read_piece` ends with its turns, and an interrupted read consumes nothing.
use Rattle.std.proofs.Common.{◌-◌, ◌≡◌, ◌≤◌, length}
use Rattle.std.specs.Io.KnownBytes.{Keeps}
use Rattle.streams.proofs.watched.Watched.read_piece.Given as goal

abbrev pub invariant-loop-self : goal.invariant-loop-self
invariant-loop-self g l = record {
  room : length l.piece ≡ length l.initial.piece;
  kept : Keeps (g.R.Read.remaining l.initial.self.inner) (g.R.Read.remaining l.self.inner);
  sound : l.self.failed ≡ l.initial.self.failed;
  later : l.initial.self.turns ≤ l.self.turns;
  idle : l.initial.self.idle ≤ l.self.idle;
  bounded : l.initial.self.turns ≤ l.max_turns → l.self.turns ≤ l.max_turns;
}

abbrev pub decreases-loop-self : goal.decreases-loop-self
decreases-loop-self g l = l.max_turns - l.self.turns
