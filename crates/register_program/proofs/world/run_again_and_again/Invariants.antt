-- After each run those that were are found again.
use Rattle.std.proofs.Common.{◌≡◌, ◌+◌, length}
use Rattle.register_program.specs.Sentence.{StayFoundAgain}
use Rattle.register_program.proofs.world.run_again_and_again.Given as goal

abbrev pub invariant-runs : goal.invariant-runs
invariant-runs g l =
    let runs = g.W.World.runs in
    let now = g.W.World.now in
    g.W.World.is_honest l.world
    → StayFoundAgain (runs l.fn.world) (now l.fn.world l.path) (runs l.world) (now l.world l.path)
    × (length (runs l.world) ≡ length (runs l.fn.world) + l.counter)
