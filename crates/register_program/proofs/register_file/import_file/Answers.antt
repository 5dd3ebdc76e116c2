use Rattle.std.proofs.Common.{[], ap, refl}
use Rattle.register_desk.proofs.Found.{leaves_alone}
use Rattle.register_desk.specs.Desk.{LeavesEither}
use Rattle.register_report.specs.ImportRows.{HasRowItems}
use Rattle.register_program.proofs.Living.{fault_leaves, imports_none, lives_anyway, of_desk}
use Rattle.register_program.proofs.Acts.{breaks_as}
use Rattle.register_program.proofs.register_file.import_file.Goals as goal

pub returns-clause-imports : goal.returns-clause-imports
returns-clause-imports g c =
    let run = c.import-outcome in
    record {
      lives = λ h bytes items lawful holds known has clean.
          let under : HasRowItems c.args.terms.now.moment c.args.terms.now.caller c.get.result bytes items =
          rw c.get.ensures.value has in
          let after = c.close_desk-files.ensures.clean clean in
          let stands = c.in_ok-desk.ensures.stands h lawful holds (run.ensures.clean after) in
          let runs = (run.ensures.table bytes known).runs items under in
          let next = runs.leaves h stands c.in_ok-desk.ensures.whole after in
          let over = runs.agrees h stands after in
          of_desk (c.close_desk-files.ensures.closes clean) (λ may leaves. record {
            over = over;
            leaves = leaves.one_of _ _ next;
            in_part = λ is. leaves.one_of _ _ (fault_leaves g.F.Opened.Store h items [] run.result _ _ c.in_ok-desk.desk
                run.new.desk c.in_ok-desk.ensures.whole run.ensures.desk after over is);
          });
      without = λ h bytes lawful holds known none clean.
          let without = (run.ensures.table bytes known).without none in
          let before = run.ensures.clean (c.close_desk-files.ensures.clean clean) in
          let alone = leaves_alone g.F.Opened.Store h c.in_ok-desk.desk
          (c.in_ok-desk.ensures.stands h lawful holds before) c.in_ok-desk.ensures.whole before in
          let still : LeavesEither g.F.Opened.Store h h run.new.desk = rw without.0.desk alone in
          of_desk (c.close_desk-files.ensures.closes clean) (λ may leaves. record {
            ends = without.1;
            none = without.0.replies;
            same = rw without.0.writer refl;
            leaves = leaves.one_of h h still;
          });
      anyway = lives_anyway _ _ _ _ run.result c.close_desk-files.result.1 c.close_desk-files.result.0 _ _
          c.in_ok-desk.desk run.new.desk c.in_ok-desk.ensures.whole c.close_desk-files.ensures.closes
          c.close_desk-files.ensures.clean run.ensures.clean c.in_ok-desk.ensures.stands c.in_ok-desk.ensures.nothing
          (λ is. let none = run.ensures.ends.bad_header is in (ap g.W.Write.contents none.writer, none.replies))
          run.ensures.lives;
    }

pub returns-in_err-desk-clause-imports : goal.returns-in_err-desk-clause-imports
returns-in_err-desk-clause-imports g c =
    imports_none _ _ _ _ c.in_err-desk.field-0.0
    c.in_err-desk.ensures.refuses c.args.terms.now _ _ _ c.from_residual.result c.from_residual.ensures.1

pub returns-clause-desk : goal.returns-clause-desk
returns-clause-desk g c =
    breaks_as g.F.Opened.Store c.close_desk-files.result.1 c.in_ok-desk.desk c.import-outcome.new.desk
    c.in_ok-desk.ensures.whole c.close_desk-files.ensures.mark c.import-outcome.result.end c.import-outcome.ensures.desk

pub returns-clause-ends : goal.returns-clause-ends
returns-clause-ends g c =
    record { reads = c.import-outcome.ensures.ends.cause; writer = c.import-outcome.ensures.writer }
