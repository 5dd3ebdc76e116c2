use Rattle.register_program.proofs.Living.{fault_leaves, lives_anyway, runs_none, of_desk}
use Rattle.register_program.proofs.Acts.{breaks_as}
use Rattle.register_program.proofs.register_file.run_file.Goals as goal

pub returns-clause-runs : goal.returns-clause-runs
returns-clause-runs g c =
    let run = c.run-outcome in
    record {
      lives = λ h bytes items rest lawful holds known has clean.
          let after = c.close_desk-files.ensures.clean clean in
          let stands = c.in_ok-desk.ensures.stands h lawful holds (run.ensures.clean after) in
          let runs = run.ensures.runs bytes items rest known has in
          let next = runs.leaves h stands c.in_ok-desk.ensures.whole after in
          let over = runs.agrees h stands after in
          of_desk (c.close_desk-files.ensures.closes clean) (λ may leaves. record {
            over = over;
            leaves = leaves.one_of _ _ next;
            in_part = λ is. leaves.one_of _ _ (fault_leaves g.F.Opened.Store h items rest run.result _ _
                c.in_ok-desk.desk run.new.desk c.in_ok-desk.ensures.whole run.ensures.desk after over is);
          });
      anyway = lives_anyway _ _ _ _ run.result c.close_desk-files.result.1 c.close_desk-files.result.0 _ _
          c.in_ok-desk.desk run.new.desk c.in_ok-desk.ensures.whole c.close_desk-files.ensures.closes
          c.close_desk-files.ensures.clean run.ensures.clean c.in_ok-desk.ensures.stands c.in_ok-desk.ensures.nothing
          (λ is. absurd (run.ensures.ends.no_header is)) run.ensures.lives;
    }

pub returns-in_err-desk-clause-runs : goal.returns-in_err-desk-clause-runs
returns-in_err-desk-clause-runs g c =
    runs_none _ _ _ _ c.in_err-desk.field-0.0
    c.in_err-desk.ensures.refuses _ _ _ c.from_residual.result c.from_residual.ensures.1

pub returns-clause-desk : goal.returns-clause-desk
returns-clause-desk g c =
    breaks_as g.F.Opened.Store c.close_desk-files.result.1 c.in_ok-desk.desk c.run-outcome.new.desk
    c.in_ok-desk.ensures.whole c.close_desk-files.ensures.mark c.run-outcome.result.end c.run-outcome.ensures.desk

pub returns-clause-ends : goal.returns-clause-ends
returns-clause-ends g c = record { reads = c.run-outcome.ensures.reader; writer = c.run-outcome.ensures.writer }
