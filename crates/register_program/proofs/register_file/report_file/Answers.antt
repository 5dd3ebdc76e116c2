use Rattle.register_program.proofs.Acts.{breaks_none}
use Rattle.register_program.proofs.Living.{asked_leaves, opens_asked, reports_none, of_desk}
use Rattle.register_program.proofs.register_file.report_file.Goals as goal

pub returns-clause-reports : goal.returns-clause-reports
returns-clause-reports g c = record {
  lives = λ h rows lawful holds are clean.
      let after = c.close_desk-files.ensures.clean clean in
      let alone = c.rotation-outcome.ensures.alone.reads in
      let stands = c.in_ok-desk.ensures.stands h lawful holds (alone.clean after) in
      of_desk (c.close_desk-files.ensures.closes clean) (λ may leaves. record {
        writes = c.rotation-outcome.ensures.agrees h rows stands after are;
        leaves = asked_leaves alone stands c.in_ok-desk.ensures.whole after leaves;
      });
  keeps = λ h lawful holds clean.
      let after = c.close_desk-files.ensures.clean clean in
      let alone = c.rotation-outcome.ensures.alone.reads in
      let stands = c.in_ok-desk.ensures.stands h lawful holds (alone.clean after) in
      of_desk (c.close_desk-files.ensures.closes clean) (λ may leaves.
      asked_leaves alone stands c.in_ok-desk.ensures.whole after leaves);
  opens = opens_asked c.in_ok-desk.desk c.rotation-outcome.new.desk c.in_ok-desk.ensures.nothing
      c.rotation-outcome.ensures.alone.reads.clean c.close_desk-files.ensures.clean;
}

pub returns-clause-ends : goal.returns-clause-ends
returns-clause-ends g c = record { writer = c.rotation-outcome.ensures.writer; ends = c.rotation-outcome.ensures.ends }

pub returns-in_err-desk-clause-reports : goal.returns-in_err-desk-clause-reports
returns-in_err-desk-clause-reports g c =
    reports_none _ _ _ _ c.in_err-desk.field-0.0
    c.in_err-desk.ensures.refuses c.args.days _ _ c.from_residual.result c.from_residual.ensures.1

pub returns-clause-desk : goal.returns-clause-desk
returns-clause-desk g c =
    breaks_none g.F.Opened.Store c.close_desk-files.result.1 c.in_ok-desk.desk c.rotation-outcome.new.desk
    c.in_ok-desk.ensures.whole c.close_desk-files.ensures.mark c.rotation-outcome.result.end
    c.rotation-outcome.ensures.alone
