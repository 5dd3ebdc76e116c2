use Rattle.std.proofs.Common.{Err, ap, ◌∙◌}
use Rattle.std.proofs.lemmas.Result.{err_from_is_err_and}
use Rattle.register_desk.proofs.Readings.{looks_ended, looks_then}
use Rattle.register_desk.proofs.desk.Desk.look_up_needed_view.Goals as goal

pub returns-in_err-period-clause-looks : goal.returns-in_err-period-clause-looks
returns-in_err-period-clause-looks g c =
    let ended = err_from_is_err_and c.from_residual-in_err-period.result c.from_residual-in_err-period.ensures.1 in
    looks_then g.S.Store _ c.look_up_needed_key.new.self _ 38 2 _ _ c.in_ok-key.ensures.looks
    (looks_ended g.S.Store 2 _ _ _ _ (ended.1 ∙ ap Err ended.2) c.in_err-period.ensures.looks)
