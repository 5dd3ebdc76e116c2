use Rattle.sql_steps.proofs.Stepping.{transacts_as}
use Rattle.register_core.specs.KeptReply.{kept_with}
use Rattle.register_rows.specs.AcceptedRequest.{CanTake, with_request}
use Rattle.register_tables.specs.{TableChanges.Makes, TableReads.seen}
use Rattle.register_desk.proofs.desk.Desk.commit_accepted.Goals as goal

pub returns-in-Ok-clause-keys : goal.returns-in-Ok-clause-keys
returns-in-Ok-clause-keys g c = c.in-Ok.ensures.keys

pub returns-in-Ok-clause-written : goal.returns-in-Ok-clause-written
returns-in-Ok-clause-written g c =
    let kept = kept_with c.args.request.now c.args.accept.now.reply in
    let Made = Makes (CanTake c.args.self.now.keys c.args.self.now.latest kept)
    (with_request c.args.self.now.keys c.args.accept.now.change kept) in
    transacts_as Made (seen g.S.Store c.args.self.now.connection) (seen g.S.Store c.commit_request.new.connection)
    c.in-Ok.keys (tt {0}) (rw c.new-kept.ensures at c.in-Ok.ensures.written)
