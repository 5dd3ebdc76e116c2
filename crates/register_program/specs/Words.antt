-- What is made of what the words give.
use Rattle.std.specs.Prelude.{◌≡◌, ℕ, List, Option, Result, Ok, Err}
use Rattle.clap.specs.declared.error.Error.{Error}
use Rattle.streams.specs.declared.watched.Watched.{Watched}
use Rattle.register_words.specs.{declared.words.GivenTask.GivenTask, declared.words.Task.Task, Words.IsTask}
use Rattle.register_program.specs.{Act.usage_status, Faults.Tells, Faults.TellsOfWords, Faults.bad_value_line}

module _ {E : Type 0} (contents : E → Option (List ℕ)) where
  -- What is given is that task, of which nothing is written; where a value is none it is none, and that is named; where
  -- nothing is given either there is none.
  abbrev pub ReadsTask : Result GivenTask Error → Result Task ℕ → Watched E → Watched E → Type 0
  ReadsTask (Ok given) (Ok task) old new = IsTask given task × (new ≡ old)
  ReadsTask (Ok given) (Err status) old new =
      ((task : Task) → IsTask given task → ⊥) × (status ≡ usage_status) × Tells contents bad_value_line old new
  ReadsTask (Err error) (Ok task) old new = ⊥
  ReadsTask (Err error) (Err status) old new = TellsOfWords contents status old new
