use Rattle.std.proofs.Common.{◌≡◌, rules}
use Rattle.sqlite.specs.{Held.state, State.Survives}
use Rattle.register_tables.proofs.counted.run_in_transaction.Goals as goal

-- what is committed is what the work left

pub returns-in-Ok-clause-made : goal.returns-in-Ok-clause-made
returns-in-Ok-clause-made g c =
    let left = state g.S.Store c.run-done.new.tx.conn.now in
    let kept : Survives left _ (λ trees. trees ≡ left.now.trees) = c.commit.ensures.survives in
    search rules
