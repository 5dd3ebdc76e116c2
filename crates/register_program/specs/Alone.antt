-- What the program does where it has no words but its own name, and so no file.
use Rattle.std.specs.Prelude.{◌≡◌, ℕ, List, Option, Result, Ok, Err, IfOk}
use Rattle.streams.specs.declared.watched.Watched.{Watched}
use Rattle.register_desk.specs.declared.opening.OpenRefusal.{OpenRefusal}
use Rattle.register_desk.specs.{declared.outcome.Finish.Finish, declared.outcome.Outcome.Outcome}
use Rattle.register_in_memory.specs.InMemory.{RunsInMemory}
use Rattle.register_program.specs.Job.{line_after, status_after}
use Rattle.register_program.specs.{declared.acting.Outputs.Outputs, Ends.EndsRun, Faults.Tells}

-- request lines over a register in memory, or none was made and nothing was written
abbrev pub RunsWithoutFile : Option (List ℕ) → Option (List ℕ) → Option (List ℕ) → Result Outcome OpenRefusal → Type 0
RunsWithoutFile input old new (Ok outcome) = RunsInMemory input old new outcome
RunsWithoutFile input old new (Err refusal) = new ≡ old

-- how that ended
abbrev pub end_alone : Result Outcome OpenRefusal → Result Finish OpenRefusal
end_alone (Ok outcome) = Ok outcome.end
end_alone (Err refusal) = Err refusal

module _ {R W E : Type 0} (remaining : R → Option (List ℕ)) (written : W → Option (List ℕ))
    (told : E → Option (List ℕ)) where
  -- It was run over this reader; the status is that of its end, which was written to the writer of faults.
  pub record ActsAlone (reader reader_new : Watched R) (old new : Outputs W E) (status : ℕ) : Type 0 where
    pub came : Result Outcome OpenRefusal
    pub runs : RunsWithoutFile (remaining reader.inner) (written old.writer.inner) (written new.writer.inner) came
    pub ends : IfOk came (EndsRun remaining written reader reader_new old.writer new.writer)
    pub tells : Tells told (line_after (end_alone came)) old.faults new.faults
    pub status_is : status ≡ status_after (end_alone came)
