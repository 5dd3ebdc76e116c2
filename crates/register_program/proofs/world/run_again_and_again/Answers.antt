use Rattle.std.proofs.Common.{arith}
use Rattle.register_program.proofs.FoundAgain.{finds_again, stay_on}
use Rattle.register_program.proofs.world.run_again_and_again.Goals as goal

pub runs-preserved : goal.runs-preserved
runs-preserved g c honest =
    let before = c.runs.invariant (c.run_next.ensures.honest honest) in (
      stay_on _ _ _ _ _ _ before.0 (c.run_next.ensures.found honest),
      omega (arith, before.1, c.if-not-run_next.ensures.ran honest),
    )

pub returns-then-not-run_next-clause-found : goal.returns-then-not-run_next-clause-found
returns-then-not-run_next-clause-found g c honest =
    finds_again _ _ _ _ (stay_on _ _ _ _ _ _ (c.runs.invariant (c.run_next.ensures.honest honest)).0
    (c.run_next.ensures.found honest))
