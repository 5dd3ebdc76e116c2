use Rattle.std.proofs.Common.{rules}
use Rattle.sql_steps.specs.Within.{Then}
use Rattle.sql_steps.proofs.Stepping.{steps_then, steps_weaker}
use Rattle.register_core.specs.KeptReply.{IsKeptReply}
use Rattle.register_tables.specs.TableChanges.{Makes, with_recorded}
use Rattle.register_rows.specs.Within.TableChanges.{Always, with_counts, with_kept}
use Rattle.register_rows.proofs.RequestAdded.{both_made}
use Rattle.register_tables.proofs.Wrote.{wrote}
use Rattle.register_rows.proofs.accepted_request.record_request.Goals as goal

pub returns : goal.returns
returns g c =
    let a = g.T.Inside.sees c.args.tx.now in
    let b = g.T.Inside.sees c.add_request.new.tx in
    let d = g.T.Inside.sees c.set_latest_and_key_count.new.tx in
    let kept = c.args.kept.now in
    let key_count = c.args.key_count in
    let Adds = Makes (λ _. IsKeptReply kept) (with_kept kept) in
    let Sets = Makes Always (with_counts kept.reply.moment key_count) in
    wrote (search rules) (search rules) (
    steps_weaker (λ _. Then Adds Sets) (λ _. Makes (λ _. IsKeptReply kept) (with_recorded kept key_count)) a d
    c.set_latest_and_key_count.result (λ _ old new both. both_made kept key_count old new both)
    (steps_then (λ _. Adds) (λ _. Sets) a b d c.in_ok-add_request.field-0 c.set_latest_and_key_count.result
    c.in_ok-add_request.ensures.made c.set_latest_and_key_count.ensures.made))
