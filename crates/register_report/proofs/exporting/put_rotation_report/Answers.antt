use Rattle.std.proofs.Common.{inl, inr, rules, ap, ap₂, sym, subst, ◌∙◌, arith}
use Rattle.std.proofs.lemmas.Bool.{cases_Bool}
use Rattle.key_rows.specs.{DueRows.AreListed, Report.horizon, Report.report_text}
use Rattle.register_core.specs.History.{period}
use Rattle.register_desk.specs.Desk.{ChangesNothing, IsClean}
use Rattle.register_desk.specs.KeyRows.{AreAll, all_rows}
use Rattle.register_desk.specs.declared.desk.Desk.{Desk}
use Rattle.register_report.proofs.exporting.put_rotation_report.Goals.{then-are_all_unset, else-are_all_unset}
use Rattle.register_report.proofs.RowsWritten.{EndsAt, report_rows}
use Rattle.register_report.proofs.WholeTable.{puts_all, puts_none}
use Rattle.register_report.proofs.exporting.put_rotation_report.Goals as goal

pub returns-in_err-periods-clause-puts : goal.returns-in_err-periods-clause-puts
returns-in_err-periods-clause-puts g c =
    puts_none c.from_residual.result
    (λ is. elim (cases_Bool c.args.desk.now.is_broken) [
      | inl broken ↦ absurd (let told = (c.in_err-periods.ensures.broken broken).0 in cc)
      | inr whole ↦ absurd (let told = c.in_err-periods.ensures.refused whole in let both = sym told ∙ is in cc)
    ])
    c.from_residual.ensures.1

pub returns-clause-puts : goal.returns-clause-puts
returns-clause-puts g c =
    let lent = c.in_ok-rows.ensures in
    let periods = c.in_ok-periods.ensures in
    let nothing = subst (λ (d : Desk _ _). ChangesNothing g.S.Store c.args.desk.now d) (sym lent.same) periods.reads in
    puts_all c.args.desk.now _ c.put_table.ensures.table nothing
    (ap (λ (d : Desk _ _). d.is_broken) lent.same ∙ periods.mark) c.put_table.ensures.passes.reads (search rules)
    lent.begins.2 (sym periods.mark ∙ lent.whole)
    (λ h text stands clean is.
    let found = periods.found h stands (subst (λ (d : Desk _ _). IsClean g.S.Store d) lent.same clean) in
    let at = c.latest-latest.ensures.latest h stands in
    let until = c.horizon-until.ensures ∙ ap (λ t. horizon t c.args.days) at in
    let ends : EndsAt c.latest-latest.result c.horizon-until.result c.in_ok-periods.periods h stands.lawful found
    c.if-are_all_unset.last = elim c.if-are_all_unset.branch [
      | then-are_all_unset w ↦ inl (c.are_all_unset.ensures.0 (search rules), w.last-is)
      | else-are_all_unset w ↦ inr (w.last-is ∙ w.last_moment-last.ensures)
    ] in
    let all = report_rows c.latest-latest.result c.horizon-until.result c.in_ok-periods.periods h stands.lawful found
    c.if-are_all_unset.last (omega (arith, until)) ends is.0
    (subst (λ last. AreListed (all_rows h) last (period h) is.0) (sym until) is.1) in (
      all.0,
      subst (λ u. AreAll u (all_rows h) all.0) (sym lent.begins.1) all.1,
      all.2 ∙ ap₂ (λ now last. report_text now last is.0) at until ∙ sym is.2,
    ))
