use Rattle.std.proofs.Common.{refl}
use Rattle.register_words.specs.declared.words.Job.TheVariants.{Init, Run, Import, Export, Report, Serve}
use Rattle.register_program.proofs.Acts.{breaks_so, ends_so, performs_as, untouched}
use Rattle.register_program.proofs.acting.perform.Goals as goal

pub returns-in-Init-clause-performs : goal.returns-in-Init-clause-performs
returns-in-Init-clause-performs g c =
    performs_as _ _ _ _ _ _ c.args.job.now Init c.in-Init.is (c.init_file.ensures, refl, refl)

pub returns-in-Run-clause-performs : goal.returns-in-Run-clause-performs
returns-in-Run-clause-performs g c =
    performs_as _ _ _ _ _ _ c.args.job.now Run c.in-Run.is (
      c.run_file.ensures.runs,
      untouched (λ w. g.W.Write.contents w.inner) _ _ _ c.run_file.ensures.untouched,
      refl,
    )

pub returns-in-Export-clause-performs : goal.returns-in-Export-clause-performs
returns-in-Export-clause-performs g c =
    performs_as _ _ _ _ _ _ c.args.job.now Export c.in-Export.is (
      c.export_file.ensures.exports,
      untouched (λ w. g.W.Write.contents w.inner) _ _ _ c.export_file.ensures.untouched,
      refl,
    )

pub returns-in-Import-clause-performs : goal.returns-in-Import-clause-performs
returns-in-Import-clause-performs g c =
    performs_as _ _ _ _ _ _ c.args.job.now (Import c.in-Import.terms) c.in-Import.is (
      c.import_file.ensures.imports,
      untouched (λ w. g.W.Write.contents w.inner) _ _ _ c.import_file.ensures.untouched,
      refl,
    )

pub returns-in-Report-clause-performs : goal.returns-in-Report-clause-performs
returns-in-Report-clause-performs g c =
    performs_as _ _ _ _ _ _ c.args.job.now (Report c.in-Report.days) c.in-Report.is (
      c.report_file.ensures.reports,
      untouched (λ w. g.W.Write.contents w.inner) _ _ _ c.report_file.ensures.untouched,
      refl,
    )

pub returns-in-Serve-clause-performs : goal.returns-in-Serve-clause-performs
returns-in-Serve-clause-performs g c =
    performs_as _ _ _ _ _ _ c.args.job.now (Serve c.in-Serve.bounds) c.in-Serve.is
    (c.serve_file.ensures.serves, refl)

pub returns-in-Run-clause-ends : goal.returns-in-Run-clause-ends
returns-in-Run-clause-ends g c =
    ends_so _ _ _ _ _ _ c.args.job.now Run c.in-Run.is (λ life. life.outcome) c.run_file.result c.run_file.ensures.ends

pub returns-in-Export-clause-ends : goal.returns-in-Export-clause-ends
returns-in-Export-clause-ends g c =
    ends_so _ _ _ _ _ _ c.args.job.now Export c.in-Export.is (λ life. life.outcome) c.export_file.result
    c.export_file.ensures.ends

pub returns-in-Import-clause-ends : goal.returns-in-Import-clause-ends
returns-in-Import-clause-ends g c =
    ends_so _ _ _ _ _ _ c.args.job.now (Import c.in-Import.terms) c.in-Import.is (λ life. life.outcome)
    c.import_file.result c.import_file.ensures.ends

pub returns-in-Report-clause-ends : goal.returns-in-Report-clause-ends
returns-in-Report-clause-ends g c =
    ends_so _ _ _ _ _ _ c.args.job.now (Report c.in-Report.days) c.in-Report.is (λ life. life.outcome)
    c.report_file.result c.report_file.ensures.ends

pub returns-in-Serve-clause-ends : goal.returns-in-Serve-clause-ends
returns-in-Serve-clause-ends g c =
    ends_so _ _ _ _ _ _ c.args.job.now (Serve c.in-Serve.bounds) c.in-Serve.is (λ life. life.outcome)
    c.serve_file.result c.serve_file.ensures.ends

pub returns-in-Run-clause-desk : goal.returns-in-Run-clause-desk
returns-in-Run-clause-desk g c =
    breaks_so c.args.job.now Run c.in-Run.is c.run_file.result c.run_file.ensures.desk

pub returns-in-Export-clause-desk : goal.returns-in-Export-clause-desk
returns-in-Export-clause-desk g c =
    breaks_so c.args.job.now Export c.in-Export.is c.export_file.result c.export_file.ensures.desk

pub returns-in-Import-clause-desk : goal.returns-in-Import-clause-desk
returns-in-Import-clause-desk g c =
    breaks_so c.args.job.now (Import c.in-Import.terms) c.in-Import.is c.import_file.result c.import_file.ensures.desk

pub returns-in-Report-clause-desk : goal.returns-in-Report-clause-desk
returns-in-Report-clause-desk g c =
    breaks_so c.args.job.now (Report c.in-Report.days) c.in-Report.is c.report_file.result c.report_file.ensures.desk

pub returns-in-Serve-clause-desk : goal.returns-in-Serve-clause-desk
returns-in-Serve-clause-desk g c =
    breaks_so c.args.job.now (Serve c.in-Serve.bounds) c.in-Serve.is c.serve_file.result c.serve_file.ensures.desk
