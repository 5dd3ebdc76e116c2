use Rattle.std.proofs.Common.{rules}
use Rattle.register_tables.proofs.RowFound.{reads_one, request_read}
use Rattle.register_rows.proofs.accepted_request.find_request.Goals as goal

pub returns-clause-reads : goal.returns-clause-reads
returns-clause-reads g c =
    reads_one g.S.Store (request_read c.args.caller.now c.args.number) (search rules) c.args.connection.now
    c.find_one_row.new.self c.find_one_row.result
    (rw (c.params-to_sql.ensures, c.params-to_sql-2.ensures, c.text.ensures.value) at c.find_one_row.ensures.finds)
