use Rattle.std.proofs.Common.{arith}
use Rattle.register_program.proofs.refused.close_connection_into_store.Goals as goal

pub returns : goal.returns
returns g c = record {
  clean = λ clean. omega (arith, c.into_store.ensures.quiet.clean, clean);
  numbered = c.into_store.ensures.numbered;
  sound = c.into_store.ensures.sound;
  outcomes = c.into_store.ensures.quiet.outcomes;
}
