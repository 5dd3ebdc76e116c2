use Rattle.std.proofs.Common.{Err, ap, refl, arith}
use Rattle.register_checks.specs.CheckedTables.{ShowsKeyNeed, counts_of}
use Rattle.register_tables.specs.declared.table.TableName.TheVariants.{Quorum}
use Rattle.register_checks.specs.OpeningChecks.{IsNeedOf}
use Rattle.register_checks.proofs.EntriesChecked.{entries_stopped, entries_read_beside, none_shown, needs_checked}
use Rattle.register_checks.proofs.Asked.{query_of}
use Rattle.register_checks.proofs.setting_check.check_needs.Goals as goal

pub check_rows-requires-clause-query : goal.check_rows-requires-clause-query
check_rows-requires-clause-query g c = query_of Quorum

pub returns-clause-checks : goal.returns-clause-checks
returns-clause-checks g c t second told = search (arith, entries_read_beside, needs_checked, none_shown)

pub returns-in_err-check_rows-clause-checks : goal.returns-in_err-check_rows-clause-checks
returns-in_err-check_rows-clause-checks g c t second told =
    let Passes = IsNeedOf (counts_of c.args.found.now) in
    let stopped = c.in_err-check_rows in
    entries_stopped Quorum ShowsKeyNeed Passes t (needs_checked t c.args.found.now second told) _ _
    c.check_rows.ensures.survives
    stopped.field-0.0 c.from_residual.result c.from_residual.ensures.1
    (λ clean is. stopped.ensures.meaning clean (ap Err is))
    (λ clean is. stopped.ensures.refused clean (refl, none_shown ShowsKeyNeed Passes) (ap Err is))
    (λ clean is. stopped.ensures.memory clean (ap Err is))
