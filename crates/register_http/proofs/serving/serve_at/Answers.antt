use Rattle.std.proofs.Common.{[], ◌∙◌, ap, arith, refl, rules}
use Rattle.register_http.specs.declared.attendance.Attendance.{Attendance}
use Rattle.register_http.proofs.Served.{attends_alone, leaves_at_fault, notes_none, served_nothing}
use Rattle.register_desk.proofs.Lived.{still}
use Rattle.register_http.proofs.serving.serve_at.Goals as goal

pub returns-then-not-listen : goal.returns-then-not-listen
returns-then-not-listen g c = record {
  clients = [];
  attends = attends_alone _ _ _ [] _ 0 _ (λ is. absurd (cc)) (notes_none _) c.listen.ensures.visits refl
      (c.listen.ensures.counts ∙ ap (λ (a : Attendance). a.accepted) c.requires);
  few = omega arith;
  leaves = λ h stands whole clean. served_nothing g.S.Store h _ _ refl refl stands whole clean;
  clean = λ clean. clean;
  ends = tt;
  cause = search rules;
  desk = leaves_at_fault _ _ _ (still _ c.args.desk.now);
}
