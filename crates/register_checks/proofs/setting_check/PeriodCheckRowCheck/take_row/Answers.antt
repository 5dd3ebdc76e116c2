use Rattle.std.proofs.Common.{◌≡◌, true, false, sym, ◌∙◌}
use Rattle.register_checks.specs.{CheckedTables.ShowsTypePeriod, CheckedRows.IsAnyPeriod}
use Rattle.register_checks.proofs.EntriesChecked.{found_none, found_one, one_more, one_odd}
use Rattle.register_checks.proofs.setting_check.PeriodCheckRowCheck.take_row.Goals as goal

pub returns-clause-taken : goal.returns-clause-taken
returns-clause-taken c result first rows taken =
    let passed : c.is_some.result ≡ true = cc in
    let it = found_one c.period_row_in.result _ _ c.period_row_in.ensures (sym c.is_some.ensures ∙ passed) in
    one_more ShowsTypePeriod IsAnyPeriod rows c.args.row.now _ taken it.1 tt

pub returns-clause-refused : goal.returns-clause-refused
returns-clause-refused c result first rows taken =
    let off : c.is_some.result ≡ false = cc in
    let none = found_none c.period_row_in.result _ _ c.period_row_in.ensures (sym c.is_some.ensures ∙ off) in
    one_odd ShowsTypePeriod IsAnyPeriod rows c.args.row.now (λ set shows any. none set shows)
