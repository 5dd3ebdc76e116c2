use Rattle.std.proofs.Common.{rules, subst, sym, ap}
use Rattle.register_desk.specs.{declared.desk.Desk.Desk, Desk.ChangesNothing}
use Rattle.register_desk.proofs.Readings.{nothing_done}
use Rattle.register_report.proofs.WholeTable.{export_rows, puts_all, puts_none}
use Rattle.register_report.proofs.exporting.put_export.Goals as goal

pub returns-in_err-rows-clause-puts : goal.returns-in_err-rows-clause-puts
returns-in_err-rows-clause-puts g c =
    puts_none c.from_residual.result (λ is. absurd (let broken = c.in_err-rows.ensures.broken.0 in cc))
    c.from_residual.ensures.1

pub returns-clause-puts : goal.returns-clause-puts
returns-clause-puts g c =
    let lent = c.in_ok-rows.ensures in
    let nothing = subst (λ (d : Desk _ _). ChangesNothing g.S.Store c.args.desk.now d) (sym lent.same)
    (nothing_done g.S.Store c.args.desk.now) in
    puts_all c.args.desk.now _ c.put_table.ensures.table nothing (ap (λ (d : Desk _ _). d.is_broken) lent.same)
    c.put_table.ensures.passes.reads (search rules) lent.begins.2 lent.whole
    (λ h text stands clean is. export_rows c.in_ok-rows.rows lent.begins.1 h text is)
