use Rattle.std.proofs.Common.{◌+◌, ◌*◌, ◌≤◌}
use Rattle.register_core.specs.declared.answer.TheConstants.{MAX_REPLY_LENGTH}
use Rattle.streams.specs.declared.watched.TheConstants.{MAX_IDLE_TURNS}
use Rattle.register_desk.specs.Items.{ServedItems}
use Rattle.register_desk.specs.Run.{AreFlushed, Wrote}
use Rattle.register_desk.specs.Desk.{GoesOn}
use Rattle.register_desk.proofs.items.serve_items.Given as goal

abbrev pub invariant-loop-item : goal.invariant-loop-item
invariant-loop-item g l = record {
  ready : g.T.Items.is_ready (l.source, l.input);
  served : ServedItems g.T.Items.came g.T.Items.ends g.T.Items.fails g.S.Store (l.fn.source, l.fn.input)
      (l.source, l.input) (g.W.Write.contents l.fn.writer.inner) (g.W.Write.contents l.writer.inner) l.fn.desk l.desk
      l.replies;
  wrote : Wrote (g.W.Write.contents l.fn.writer.inner) (g.W.Write.contents l.writer.inner) l.written;
  some : l.replies + g.T.Items.left (l.source, l.input) ≤ g.T.Items.left (l.fn.source, l.fn.input);
  short : l.written ≤ MAX_REPLY_LENGTH * l.replies;
  idle_bounded : l.writer.idle ≤ MAX_IDLE_TURNS;
  flushed : AreFlushed l.written l.fn.writer.unflushed l.writer.unflushed;
  goes_on : GoesOn l.fn.desk l.desk;
}

abbrev pub decreases-loop-item : goal.decreases-loop-item
decreases-loop-item g l = g.T.Items.left (l.source, l.input)
