use Rattle.std.proofs.Common.{ap, inl, length, refl, true}
use Rattle.std.proofs.lemmas.Result.{IfOk-weaker}
use Rattle.sqlite_trees.proofs.Doubt.{no_doubt}
use Rattle.sqlite_pool.specs.Pool.{state}
use Rattle.register_desk.proofs.Found.{finds_nothing}
use Rattle.register_in_memory.proofs.run_in_memory.Goals as goal

-- the files have no byte, and what is read of them is what was written
pub returns-clause-runs : goal.returns-clause-runs
unfolding state
returns-clause-runs g c =
    let clean = no_doubt true refl in
    let opened = c.in-Ok.ensures.opened clean in
    let found = c.in-Ok.ensures.found clean in
    let nothing = finds_nothing _ _ (inl (inl (inl (ap length c.new-2.ensures.empty)))) (record {
      opens = opened.0;
      live = opened.1;
      finds = record { holds = found.holds; reads = found.reads };
    }) in
    IfOk-weaker c.run_new.result _ _ (λ outcome runs. runs nothing (λ store. clean)) c.run_new.ensures.runs
