use Rattle.std.proofs.Common.{rules}
use Rattle.period_core.specs.KeyType.{key_type_code}
use Rattle.register_tables.specs.TableReads.{seen}
use Rattle.register_rows.proofs.SettingTables.{find_text, number_params}
use Rattle.register_rows.proofs.SettingTexts.{periods, periods_are}
use Rattle.register_tables.proofs.RowFound.{reads_one, keeps_sight}
use Rattle.register_rows.proofs.KeyedFound.{searched, value_read}
use Rattle.register_rows.proofs.setting.find_office_period.Goals as goal

pub returns-clause-reads : goal.returns-clause-reads
returns-clause-reads g c =
    reads_one g.S.Store (value_read periods_are (key_type_code c.args.kind))
    (search rules) c.args.connection.now c.find_one_row.new.self c.find_one_row.result
    (rw (c.params-to_sql.ensures, c.from.ensures, c.code.ensures) at c.find_one_row.ensures.finds)

pub returns-clause-sight : goal.returns-clause-sight
returns-clause-sight g c =
    let one = rw (c.params-to_sql.ensures, c.from.ensures, c.code.ensures) at c.find_one_row.ensures.finds in
    keeps_sight (find_text periods) (number_params (key_type_code c.args.kind)) (searched periods_are).query
    (seen g.S.Store c.args.connection.now) (seen g.S.Store c.find_one_row.new.self) one.answer one.row
