use Rattle.std.proofs.Common.{Ok, arith}
use Rattle.sql_steps.specs.Within.{Then}
use Rattle.sql_steps.proofs.Stepping.{steps_then, steps_weaker}
use Rattle.register_core.specs.KeptReply.{IsKeptReply}
use Rattle.register_tables.specs.TableChanges.{Makes, AreRightAt, HasKeys, with_keys_advanced, with_recorded}
use Rattle.register_rows.specs.Change.{with_change}
use Rattle.register_rows.proofs.Requests.{makes_request}
use Rattle.register_rows.proofs.accepted_request.AcceptedRequestWork.run.Goals as goal

pub returns-clause-made : goal.returns-clause-made
returns-clause-made g c =
    let work = c.args.self.now in
    let kept = work.kept.now in
    let a = g.T.Inside.sees c.args.tx.now in
    let b = g.T.Inside.sees c.advance_due.new.tx in
    let d = g.T.Inside.sees c.write_change.new.tx in
    let e = g.T.Inside.sees c.record_request.new.tx in
    let Moves = Makes (AreRightAt work.latest) (with_keys_advanced kept.reply.moment) in
    let Changes = Makes (HasKeys work.keys) (with_change work.change.now) in
    let Records = Makes (λ _. IsKeptReply kept) (with_recorded kept c.key_count_after_change-keys.result) in
    let two = steps_then (λ _. Moves) (λ _. Changes) a b d c.in_ok-advance_due.field-0 (Ok c.in_ok-write_change.field-0)
    c.in_ok-advance_due.ensures.made c.in_ok-write_change.ensures.made in
    let all = steps_then (λ _. Then Moves Changes) (λ _. Records) a d e c.in_ok-write_change.field-0
    c.record_request.result two c.record_request.ensures.made in search (arith, steps_weaker, makes_request)
