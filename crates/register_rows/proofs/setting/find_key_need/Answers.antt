use Rattle.std.proofs.Common.{rules}
use Rattle.register_tables.proofs.RowFound.{reads_one}
use Rattle.register_rows.proofs.{KeyedFound.value_read, SettingTexts.needs_are}
use Rattle.register_rows.proofs.setting.find_key_need.Goals as goal

pub returns-clause-reads : goal.returns-clause-reads
returns-clause-reads g c =
    reads_one g.S.Store (value_read needs_are c.args.key) (search rules)
    c.args.connection.now c.find_one_row.new.self c.find_one_row.result
    (rw c.params-to_sql.ensures at c.find_one_row.ensures.finds)
