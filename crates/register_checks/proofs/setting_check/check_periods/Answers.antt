use Rattle.std.proofs.Common.{Err, ap, arith}
use Rattle.register_tables.specs.declared.table.TableName.TheVariants.{Period}
use Rattle.register_checks.specs.{CheckedTables.ShowsTypePeriod, CheckedRows.IsAnyPeriod}
use Rattle.register_checks.proofs.EntriesChecked.{entries_stopped, entries_read, none_shown, periods_checked}
use Rattle.register_checks.proofs.Asked.{query_of}
use Rattle.register_checks.proofs.setting_check.check_periods.Goals as goal

pub returns-clause-checks : goal.returns-clause-checks
returns-clause-checks g c t second = search (arith, entries_read, periods_checked, none_shown)

pub check_rows-requires-clause-query : goal.check_rows-requires-clause-query
check_rows-requires-clause-query g c = query_of Period

pub returns-in_err-check_rows-clause-checks : goal.returns-in_err-check_rows-clause-checks
returns-in_err-check_rows-clause-checks g c t second =
    let stopped = c.in_err-check_rows in
    entries_stopped Period ShowsTypePeriod IsAnyPeriod t (periods_checked t second) _ _ c.check_rows.ensures.survives
    stopped.field-0.0 c.from_residual.result c.from_residual.ensures.1
    (λ clean is. stopped.ensures.meaning clean (ap Err is))
    (λ clean is. stopped.ensures.refused clean (none_shown ShowsTypePeriod IsAnyPeriod) (ap Err is))
    (λ clean is. stopped.ensures.memory clean (ap Err is))
