use Rattle.std.proofs.Common.{Err, ap, refl, arith}
use Rattle.register_checks.specs.CheckedTables.{ShowsKept, mark_of}
use Rattle.register_tables.specs.declared.table.TableName.TheVariants.{Request}
use Rattle.register_checks.specs.OpeningChecks.{IsReplyOf}
use Rattle.register_checks.proofs.EntriesChecked.{entries_stopped, entries_read_beside, none_shown, are_checked}
use Rattle.register_checks.proofs.Asked.{query_of}
use Rattle.register_checks.proofs.request_check.check_requests.Goals as goal

pub check_rows-requires-clause-query : goal.check_rows-requires-clause-query
check_rows-requires-clause-query g c = query_of Request

pub returns-clause-checks : goal.returns-clause-checks
returns-clause-checks g c t counts = search (arith, entries_read_beside, are_checked, none_shown)

pub returns-in_err-check_rows-clause-checks : goal.returns-in_err-check_rows-clause-checks
returns-in_err-check_rows-clause-checks g c t counts =
    let Passes = IsReplyOf (mark_of c.args.found.now) in
    let stopped = c.in_err-check_rows in
    entries_stopped Request ShowsKept Passes t (are_checked t c.args.found.now counts) _ _
    c.check_rows.ensures.survives
    stopped.field-0.0 c.from_residual.result c.from_residual.ensures.1
    (λ clean is. stopped.ensures.meaning clean (ap Err is))
    (λ clean is. stopped.ensures.refused clean (refl, none_shown ShowsKept Passes) (ap Err is))
    (λ clean is. stopped.ensures.memory clean (ap Err is))
