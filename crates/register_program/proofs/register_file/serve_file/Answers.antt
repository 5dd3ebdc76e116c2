use Rattle.std.proofs.Common.{ap, length, refl}
use Rattle.register_http.specs.declared.attendance.Attendance.{Attendance}
use Rattle.register_http.specs.ServedExchanges.{count_known}
use Rattle.register_program.proofs.{Acts.breaks_as, Living.opens_asked, Living.serves_none, Living.of_desk}
use Rattle.register_program.proofs.register_file.serve_file.Goals as goal

pub returns-clause-serves : goal.returns-clause-serves
returns-clause-serves g c =
    let serve = c.serve_at-end in
    let end = serve.result in
    let served = serve.ensures in
    rw (c.ended_without_bytes.ensures) (record {
      clients = served.clients;
      attends = served.attends;
      few = served.few;
      lives = λ h lawful holds clean.
          let after = c.close_desk-files.ensures.clean clean in
          let stands = c.in_ok-desk.ensures.stands h lawful holds (served.clean after) in
          let some = served.leaves h stands c.in_ok-desk.ensures.whole after in
          of_desk (c.close_desk-files.ensures.closes clean) (λ may leaves. record {
            items = some.items;
            served = some.served;
            leaves = leaves.lives h some.items end (count_known end (length served.clients)) some.leaves;
          });
      ends = served.ends;
      nobody = tt;
      opens = opens_asked c.in_ok-desk.desk serve.new.desk c.in_ok-desk.ensures.nothing served.clean
          c.close_desk-files.ensures.clean;
    })

pub returns-in_err-desk-clause-serves : goal.returns-in_err-desk-clause-serves
returns-in_err-desk-clause-serves g c =
    serves_none _ _ _ _ c.in_err-desk.field-0.0 c.in_err-desk.ensures.refuses c.args.bounds.now.exchanges _ _ _
    c.from_residual.result refl (ap (λ (a : Attendance). a.accepted) c.requires) c.from_residual.ensures.1

pub returns-clause-desk : goal.returns-clause-desk
returns-clause-desk g c =
    rw (c.ended_without_bytes.ensures)
    (breaks_as g.F.Opened.Store c.close_desk-files.result.1 c.in_ok-desk.desk c.serve_at-end.new.desk
    c.in_ok-desk.ensures.whole c.close_desk-files.ensures.mark c.serve_at-end.result c.serve_at-end.ensures.desk)
