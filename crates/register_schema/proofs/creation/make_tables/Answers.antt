use Rattle.std.proofs.Common.{rules}
use Rattle.sqlite.specs.Held.{state}
use Rattle.register_schema.proofs.Beside.{adds_more, adds_nothing}
use Rattle.register_schema.proofs.creation.make_tables.Goals as goal

pub loop-table-init : goal.loop-table-init
loop-table-init g c = record { same = search rules; so_far = search rules; beside = adds_nothing _ }

pub loop-table-preserved : goal.loop-table-preserved
loop-table-preserved g c = record {
  same = search rules;
  so_far = search rules;
  beside = adds_more _ (state g.S.Store c.args.tx.now.conn.now)
      (state g.S.Store c.loop-table.tx.conn.now) (state g.S.Store c.make_table.new.tx.conn.now)
      c.in_ok-make_table.field-0 c.loop-table.invariant.beside c.in_ok-make_table.ensures.beside;
}
