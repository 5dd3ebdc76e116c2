-- `next` ends with the reader's turns, and all that was looked at so far is of one line.
use Rattle.std.proofs.Common.{◌≡◌, ◌-◌, ◌*◌, ◌≤◌, ℕ, List}
use Rattle.std.specs.Io.KnownBytes.{prepend_known}
use Rattle.streams.specs.declared.lines.TheConstants.{MAX_PIECE_LENGTH}
use Rattle.streams.specs.{declared.watched.TheConstants.MAX_READS, Lines.Takes, Lines.work_left}
use Rattle.streams.proofs.LinesLemmas.{Begun}
use Rattle.streams.proofs.lines.Lines.next.Given as goal

abbrev pub invariant-loop-self : goal.invariant-loop-self
invariant-loop-self g l = record {
  begun : (so_far : List ℕ) × Begun g.row.MAX_LENGTH
      (prepend_known l.fn.self.unread (g.R.Read.remaining l.fn.reader.inner))
      (prepend_known l.self.unread (g.R.Read.remaining l.reader.inner)) l.self so_far;
  taken : (bytes : List ℕ) × Takes (g.R.Read.remaining l.fn.reader.inner) (g.R.Read.remaining l.reader.inner)
      l.fn.self l.self bytes;
  within : l.self.taken ≤ MAX_PIECE_LENGTH * l.reader.turns;
  sound : l.reader.failed ≡ l.fn.reader.failed;
  turns : l.fn.reader.turns ≤ l.reader.turns;
  bounded : l.fn.reader.turns ≤ MAX_READS → l.reader.turns ≤ MAX_READS;
  work : work_left l.reader.turns l.self.unread ≤ work_left l.fn.reader.turns l.fn.self.unread;
}

abbrev pub decreases-loop-self : goal.decreases-loop-self
decreases-loop-self g l = MAX_READS - l.reader.turns
