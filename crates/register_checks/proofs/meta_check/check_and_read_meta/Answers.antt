use Rattle.std.proofs.Common.{Err, ap, refl, ◌∙◌}
use Rattle.sqlite.specs.Held.{state}
use Rattle.register_tables.specs.declared.table.TableName.TheVariants.{Meta}
use Rattle.register_checks.specs.Within.CheckedRows.{counts_in}
use Rattle.register_checks.proofs.Asked.{query_of}
use Rattle.register_checks.proofs.MetaChecked.{meta_fails, meta_none, meta_told, told_as}
use Rattle.register_checks.proofs.meta_check.check_and_read_meta.Goals as goal

pub check_rows-requires-clause-query : goal.check_rows-requires-clause-query
check_rows-requires-clause-query g c = query_of Meta

pub returns-in-Some-clause-checks : goal.returns-in-Some-clause-checks
returns-in-Some-clause-checks g c t =
    meta_told t _ _ c.check_rows.ensures.survives c.in-Some.told c.counts_or_refusal.result
    (c.counts_or_refusal.ensures ∙ ap counts_in c.in-Some.told-is)
    (told_as _ _ _ _ c.in-Some.is (λ clean. c.in_ok-check_rows.ensures.met clean refl))

pub returns-in-None-clause-checks : goal.returns-in-None-clause-checks
returns-in-None-clause-checks g c t =
    meta_none t _ _ c.check_rows.ensures.survives
    (told_as _ _ _ _ c.in-None.is (λ clean. c.in_ok-check_rows.ensures.met clean refl))

pub returns-in_err-check_rows-clause-checks : goal.returns-in_err-check_rows-clause-checks
returns-in_err-check_rows-clause-checks g c t =
    let old = state g.S.Store c.args.connection.now in
    let new = state g.S.Store c.check_rows.new.connection in
    let stopped = c.in_err-check_rows in
    meta_fails t old new c.check_rows.ensures.survives stopped.field-0.0 c.from_residual.result
    c.from_residual.ensures.1
    (λ clean is. stopped.ensures.meaning clean (ap Err is))
    (λ clean is. stopped.ensures.refused clean refl (ap Err is))
    (λ clean is. stopped.ensures.memory clean (ap Err is))
