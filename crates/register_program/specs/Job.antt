-- What a job over a register in a file does.
use Rattle.std.specs.Prelude.{◌≡◌, ℕ, List, Option, Result, Ok, Err, IfOk, OnErr}
use Rattle.sqlite_trees.specs.declared.store.Store.{Ghosts}
use Rattle.sqlite.specs.Recovery.{Image}
use Rattle.register_desk.specs.declared.opening.OpenRefusal.{OpenRefusal}
use Rattle.register_desk.specs.{declared.desk.DeskMark.DeskMark, declared.outcome.Finish.Finish}
use Rattle.register_desk.specs.{declared.outcome.Finish.TheVariants.AtEnd, declared.outcome.Outcome.Outcome}
use Rattle.streams.specs.declared.watched.Watched.{Watched}
use Rattle.register_words.specs.declared.words.Job.{Job}
use Rattle.register_words.specs.declared.words.Job.TheVariants.{Init, Run, Import, Export, Report, Serve}
use Rattle.register_program.specs.declared.acting.Done.TheVariants.{Made, Lived}
use Rattle.register_program.specs.Ends.{BreaksAs, BreaksNone, EndsImport, EndsRun, EndsWriting}
use Rattle.register_program.specs.FileCalls.{Exports, ImportsRows, MakesFile, Reports, RunsLines, ServesExchanges}
use Rattle.register_program.specs.{declared.acting.Done.Done, declared.acting.Inputs.Inputs, Act.unopened_status}
use Rattle.register_program.specs.Faults.{finish_line, refusal_line}
use Rattle.register_program.specs.Act.{status_of}
use Rattle.register_http.specs.ServedExchanges.{ExplainsEnd}
use Rattle.register_program.specs.Traffic.{Traffic}

-- how it ended: at an end of the register, which one that was made has not, or before that
abbrev pub end_of : {S U : Type 0} → Done S U → Result Finish OpenRefusal
end_of (Made (Ok closed)) = Ok (AtEnd 0)
end_of (Made (Err refused)) = Err refused.refusal
end_of (Lived (Ok life)) = Ok life.outcome.end
end_of (Lived (Err refused)) = Err refused.refusal

-- the exit status after such an end
abbrev pub status_after : Result Finish OpenRefusal → ℕ
status_after (Ok finish) = status_of finish
status_after (Err refusal) = unopened_status

-- what is said of it on the writer of faults
abbrev pub line_after : Result Finish OpenRefusal → List ℕ
line_after (Ok finish) = finish_line finish
line_after (Err refusal) = refusal_line refusal

module _ {S U : Type 0} (g : Ghosts S) (may_leave : S → Image → Type 0) (may_stay : U → Image → Type 0)
    (found : Image) where
  -- A job comes to what the call that it names comes to. Nothing is written where the register is not opened, nor by a
  -- job that serves connections; no other job has clients.
  abbrev pub Performs : Job → Traffic → Done S U → Type 0
  Performs Init it (Made came) =
      MakesFile g may_leave may_stay found came × (it.new ≡ it.old) × (it.after ≡ it.before)
  Performs Run it (Lived came) =
      RunsLines g may_leave may_stay found it.input it.old it.new came × OnErr came (it.new ≡ it.old)
      × (it.after ≡ it.before)
  Performs (Import terms) it (Lived came) =
      ImportsRows g may_leave may_stay found terms it.input it.old it.new came × OnErr came (it.new ≡ it.old)
      × (it.after ≡ it.before)
  Performs Export it (Lived came) =
      Exports g may_leave may_stay found it.old it.new came × OnErr came (it.new ≡ it.old) × (it.after ≡ it.before)
  Performs (Report days) it (Lived came) =
      Reports g may_leave may_stay found days it.old it.new came × OnErr came (it.new ≡ it.old)
      × (it.after ≡ it.before)
  Performs (Serve bounds) it (Lived came) =
      ServesExchanges g may_leave may_stay found bounds.exchanges it.before it.after it.accepted came
      × (it.new ≡ it.old)
  Performs job it done = ⊥

-- What a life of a register by this job left of its desk: broken or whole.
abbrev pub BreaksSo : Job → Finish → DeskMark → Type 0
BreaksSo Init end mark = ⊥
BreaksSo Run end mark = BreaksAs end mark
BreaksSo (Import terms) end mark = BreaksAs end mark
BreaksSo Export end mark = BreaksNone end mark
BreaksSo (Report days) end mark = BreaksNone end mark
BreaksSo (Serve bounds) end mark = BreaksAs end mark

-- What a job that was done left of its desk, if it came to a life.
abbrev pub BreaksFor : {S U : Type 0} → Job → Done S U → Type 0
BreaksFor job (Made came) = Unit {0}
BreaksFor job (Lived came) = IfOk came (λ life. BreaksSo job life.outcome.end life.mark)

module _ {R W N : Type 0} (remaining : R → Option (List ℕ)) (contents : W → Option (List ℕ)) where
  -- The end of a life of a register by this job has its cause where the end blames it.
  abbrev pub EndsSo : Job → Inputs R N → Inputs R N → Watched W → Watched W → Outcome → Type 0
  EndsSo Init inputs inputs_new old new outcome = ⊥
  EndsSo Run inputs inputs_new old new outcome =
      EndsRun remaining contents inputs.reader inputs_new.reader old new outcome
  EndsSo (Import terms) inputs inputs_new old new outcome =
      EndsImport remaining contents inputs.reader inputs_new.reader old new outcome
  EndsSo Export inputs inputs_new old new outcome = EndsWriting contents old new outcome
  EndsSo (Report days) inputs inputs_new old new outcome = EndsWriting contents old new outcome
  EndsSo (Serve bounds) inputs inputs_new old new outcome =
      ExplainsEnd bounds.exchanges inputs_new.attendance outcome.end

  -- The end of a job that was done has its cause, if it came to a life.
  abbrev pub EndsFor : {S U : Type 0} → Job → Inputs R N → Inputs R N → Watched W → Watched W → Done S U → Type 0
  EndsFor job inputs inputs_new old new (Made came) = Unit {0}
  EndsFor job inputs inputs_new old new (Lived came) =
      IfOk came (λ life. EndsSo job inputs inputs_new old new life.outcome)
