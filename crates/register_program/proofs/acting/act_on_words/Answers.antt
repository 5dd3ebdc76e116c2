use Rattle.std.proofs.Common.{refl}
use Rattle.register_words.specs.declared.words.Task.TheVariants.{RunInMemory}
use Rattle.register_program.proofs.acting.act_on_words.Goals as goal

pub returns-in-Ok-RunInMemory : goal.returns-in-Ok-RunInMemory
returns-in-Ok-RunInMemory g c = record {
  acts = λ none bytes items rest known cut.
      (rw (c.new.ensures) at c.act_in_memory-status.ensures.acts) bytes items rest known cut;
}

-- where there are no words there is a task
pub returns-in-Err : goal.returns-in-Err
returns-in-Err g c = record {
  acts = λ none bytes items rest known cut.
      absurd ((rw (c.read_words-given.ensures none) at c.in-Err.ensures).0 RunInMemory refl);
}
