use Rattle.std.proofs.Common.{rules}
use Rattle.register_tables.specs.TableReads.{seen}
use Rattle.register_tables.proofs.RowFound.{key_read, params, reads_one, keeps_sight}
use Rattle.register_tables.proofs.Texts.{find_is, find_text}
use Rattle.register_rows.proofs.stored_key.find_key_row.Goals as goal

pub returns-clause-reads : goal.returns-clause-reads
returns-clause-reads g c =
    reads_one g.S.Store (key_read c.args.number) (search rules) c.args.connection.now c.find_one_row.new.self
    c.find_one_row.result (rw c.params-to_sql.ensures at c.find_one_row.ensures.finds)

pub returns-clause-sight : goal.returns-clause-sight
returns-clause-sight g c =
    let one = rw c.params-to_sql.ensures at c.find_one_row.ensures.finds in
    keeps_sight find_text (params c.args.number) find_is.query (seen g.S.Store c.args.connection.now)
    (seen g.S.Store c.find_one_row.new.self) one.answer one.row
