use Rattle.std.proofs.Common.{Err, ap, refl, ◌∙◌}
use Rattle.std.proofs.lemmas.Result.{err_from_is_err_and}
use Rattle.register_desk.proofs.Readings.{looks_failed, looks_well}
use Rattle.register_desk.proofs.desk.Desk.look_up_kept_reply.Goals as goal

pub returns-in_err-found-clause-looks : goal.returns-in_err-found-clause-looks
returns-in_err-found-clause-looks g c =
    let ended = err_from_is_err_and c.from_residual.result c.from_residual.ensures.1 in
    rw (ended.1 ∙ ap Err ended.2) (looks_failed g.S.Store _ 2 _ _ _ c.requires _ c.in_err-found.ensures.reads
    (λ h stands clean. c.find_request.ensures.counted) _ c.in_err-found.field-0.0 refl)

pub returns-in_default-clause-looks : goal.returns-in_default-clause-looks
returns-in_default-clause-looks g c =
    looks_well g.S.Store _ 2 _ _ _ c.requires _ c.in_ok-found.ensures.reads
    (λ h stands clean. c.find_request.ensures.counted) c.in_ok-found.found _ refl
