use Rattle.register_program.proofs.Acts.{breaks_none}
use Rattle.register_program.proofs.Living.{asked_leaves, exports_none, opens_asked, of_desk}
use Rattle.register_program.proofs.register_file.export_file.Goals as goal

pub returns-clause-exports : goal.returns-clause-exports
returns-clause-exports g c = record {
  lives = λ h lawful holds clean.
      let after = c.close_desk-files.ensures.clean clean in
      let alone = c.export-outcome.ensures.alone.reads in
      let stands = c.in_ok-desk.ensures.stands h lawful holds (alone.clean after) in
      of_desk (c.close_desk-files.ensures.closes clean) (λ may leaves. record {
        writes = c.export-outcome.ensures.agrees h stands after;
        leaves = asked_leaves alone stands c.in_ok-desk.ensures.whole after leaves;
      });
  opens = opens_asked c.in_ok-desk.desk c.export-outcome.new.desk c.in_ok-desk.ensures.nothing
      c.export-outcome.ensures.alone.reads.clean c.close_desk-files.ensures.clean;
}

pub export-outcome-requires : goal.export-outcome-requires
export-outcome-requires g c = c.requires

pub returns-in_err-desk-clause-exports : goal.returns-in_err-desk-clause-exports
returns-in_err-desk-clause-exports g c =
    exports_none _ _ _ _
    c.in_err-desk.field-0.0 c.in_err-desk.ensures.refuses _ _ c.from_residual.result c.from_residual.ensures.1

pub returns-clause-desk : goal.returns-clause-desk
returns-clause-desk g c =
    breaks_none g.F.Opened.Store c.close_desk-files.result.1 c.in_ok-desk.desk c.export-outcome.new.desk
    c.in_ok-desk.ensures.whole c.close_desk-files.ensures.mark c.export-outcome.result.end
    c.export-outcome.ensures.alone

pub returns-clause-ends : goal.returns-clause-ends
returns-clause-ends g c = record { writer = c.export-outcome.ensures.writer; ends = c.export-outcome.ensures.ends }
