use Rattle.std.proofs.Common.{Err, ap, refl}
use Rattle.register_tables.specs.declared.table.TableName.TheVariants.{Approval}
use Rattle.register_checks.specs.{CheckedTables.ShowsName, CheckedRows.IsListed}
use Rattle.register_checks.proofs.EntriesChecked.{entries_stopped, entries_read_beside, none_shown}
use Rattle.register_checks.proofs.{Asked.query_of, ApprovalsChecked.are_checked}
use Rattle.register_checks.proofs.custody_check.check_approval_rows.Goals as goal

pub check_rows-requires-clause-query : goal.check_rows-requires-clause-query
check_rows-requires-clause-query g c = query_of Approval

pub returns-clause-checks : goal.returns-clause-checks
returns-clause-checks g c t knows =
    let Passes = IsListed c.args.custodians.items in
    entries_read_beside Approval ShowsName Passes t (are_checked t c.args.custodians knows) _ _
    c.check_rows.ensures.survives
    (λ clean. c.in_ok-check_rows.ensures.met clean (refl, none_shown ShowsName Passes))

pub returns-in_err-check_rows-clause-checks : goal.returns-in_err-check_rows-clause-checks
returns-in_err-check_rows-clause-checks g c t knows =
    let Passes = IsListed c.args.custodians.items in
    let stopped = c.in_err-check_rows in
    entries_stopped Approval ShowsName Passes t (are_checked t c.args.custodians knows) _ _
    c.check_rows.ensures.survives
    stopped.field-0.0 c.from_residual.result c.from_residual.ensures.1
    (λ clean is. stopped.ensures.meaning clean (ap Err is))
    (λ clean is. stopped.ensures.refused clean (refl, none_shown ShowsName Passes) (ap Err is))
    (λ clean is. stopped.ensures.memory clean (ap Err is))
