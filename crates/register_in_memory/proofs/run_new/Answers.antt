use Rattle.std.proofs.Common.{[], refl}
use Rattle.register_in_memory.proofs.run_new.Goals as goal

pub returns-clause-runs : goal.returns-clause-runs
returns-clause-runs g c nothing honest bytes items rest known cut = record {
  desk = c.run.new.desk;
  over = (c.run.ensures.runs bytes items rest known cut).agrees [] (c.in-Ok.ensures.made.stands nothing) (honest _);
  sound = λ is.
      let broken = c.run.ensures.desk.was_broken is in
      let whole = c.in-Ok.ensures.made.whole in
      absurd (cc);
}

pub returns-in_default-clause-refused : goal.returns-in_default-clause-refused
returns-in_default-clause-refused g c = refl
