use Rattle.std.proofs.Common.{arith, rules}
use Rattle.sqlite.specs.Held.{state}
use Rattle.register_schema.proofs.Beside.{adds_again, adds_nothing, indexes_more}
use Rattle.register_schema.proofs.creation.make_indexes.Goals as goal

pub loop-index-init : goal.loop-index-init
loop-index-init g c = record { same = search rules; so_far = search rules; beside = adds_nothing _ }

pub loop-index-preserved : goal.loop-index-preserved
loop-index-preserved g c = record {
  same = search rules;
  so_far = indexes_more c.loop-index.index-index (omega (arith, c.loop-index-test.true))
      (state g.S.Store c.args.tx.now.conn.now)
      (state g.S.Store c.loop-index.tx.conn.now) (state g.S.Store c.make_index.new.tx.conn.now)
      c.in_ok-make_index.field-0 c.loop-index.invariant.so_far c.in_ok-make_index.ensures.made;
  beside = adds_again (state g.S.Store c.args.tx.now.conn.now) (state g.S.Store c.loop-index.tx.conn.now)
      (state g.S.Store c.make_index.new.tx.conn.now) c.in_ok-make_index.field-0 c.loop-index.invariant.beside
      c.in_ok-make_index.ensures.beside;
}
