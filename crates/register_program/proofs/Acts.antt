-- What was done without words, and by a job.
use Rattle.std.proofs.Common.{◌≡◌, ℕ, List, Option, Some, Result, Ok, Err, IfOk, IfErr, OnErr, inl, inr, ap, subst, sym}
use Rattle.std.proofs.Common.{◌∙◌, refl}
use Rattle.sqlite_trees.specs.declared.store.Store.{Ghosts}
use Rattle.sqlite.specs.Recovery.{Image}
use Rattle.register_requests.specs.declared.request.Request.{Request}
use Rattle.register_desk.specs.declared.end.End.TheVariants.{Memory, Store, Broken, ReadFault, WriteFault, BadHeader}
use Rattle.register_desk.specs.declared.outcome.Finish.TheVariants.{AtEnd, Ended}
use Rattle.register_desk.specs.{declared.opening.OpenRefusal.OpenRefusal, declared.outcome.Outcome.Outcome}
use Rattle.register_desk.specs.Run.{LeavesReader, LeavesWriter}
use Rattle.register_desk.specs.Input.{HasItems}
use Rattle.register_in_memory.specs.InMemory.{RunsInMemory}
use Rattle.register_desk.specs.{Run.LeavesDesk, declared.desk.Desk.Desk, declared.desk.DeskMark.DeskMark}
use Rattle.register_desk.specs.Desk.{IsMarkOf, IsWhole}
use Rattle.register_desk.specs.declared.outcome.Finish.{Finish}
use Rattle.register_words.specs.declared.words.Job.{Job}
use Rattle.register_program.specs.Job.{BreaksSo, EndsSo, Performs, status_after}
use Rattle.register_program.specs.Traffic.{Traffic}
use Rattle.register_program.specs.Ends.{EndsRun, BreaksAs, BreaksNone}
use Rattle.register_program.specs.{Alone.RunsWithoutFile, Alone.end_alone, declared.register_file.FileLife.FileLife}
use Rattle.register_program.specs.{declared.acting.Done.Done, declared.acting.Inputs.Inputs, Act.ActsOver}
use Rattle.streams.specs.declared.watched.Watched.{Watched}
use Rattle.register_report.specs.TextWriter.{LeavesAlone}

-- ---- over no file

pub acts_alone : (input old new : Option (List ℕ)) (came : Result Outcome OpenRefusal) (status : ℕ)
    → status ≡ status_after (end_alone came) → RunsWithoutFile input old new came
    → (bytes : List ℕ) (items : List (Option Request)) (rest : List ℕ) → input ≡ Some bytes → HasItems bytes items rest
    → ActsOver items rest status old new
acts_alone input old new (Ok outcome) status told runs bytes items rest known cut =
    inr (record { outcome = outcome; runs = runs bytes items rest known cut; status_is = told })
acts_alone input old new (Err refusal) status told same bytes items rest known cut =
    inl (record { status_is = told; same = same })

pub ran_without_file : (input old new : Option (List ℕ)) (came : Result Outcome OpenRefusal)
    → IfOk came (RunsInMemory input old new) → OnErr came (new ≡ old) → RunsWithoutFile input old new came
ran_without_file input old new (Ok outcome) runs same = runs
ran_without_file input old new (Err refusal) runs same = same

pub ends_run : {R W E : Type 0} (remaining : R → Option (List ℕ)) (contents : W → Option (List ℕ))
    (reader reader_new : Watched R) (old new : Watched W) (came : Result Outcome E)
    → IfOk came (LeavesReader remaining reader reader_new) → IfOk came (LeavesWriter contents old new)
    → IfOk came (EndsRun remaining contents reader reader_new old new)
ends_run remaining contents reader reader_new old new
    (Ok outcome) reads writer = record { reads = reads; writer = writer }
ends_run remaining contents reader reader_new old new (Err refusal) reads writer = tt

-- ---- by a job

-- a writer that is as it was has got nothing
pub untouched : {W A E : Type 0} (contents : W → Option (List ℕ)) (r : Result A E) (old new : W)
    → IfErr r (λ _. new ≡ old) → OnErr r (contents new ≡ contents old)
untouched contents (Ok x) old new same = tt
untouched contents (Err e) old new same = ap contents same

-- a job that was told apart
pub performs_as : {S U : Type 0} (g : Ghosts S) (may_leave : S → Image → Type 0) (may_stay : U → Image → Type 0)
    (found : Image) (it : Traffic) (done : Done S U) (given job : Job) → given ≡ job
    → Performs g may_leave may_stay found job it done → Performs g may_leave may_stay found given it done
performs_as g may_leave may_stay found it done given job is performs =
    subst (λ (one : Job). Performs g may_leave may_stay found one it done) (sym is) performs

-- and what it ended by
pub ends_so : {R W N X E : Type 0} (remaining : R → Option (List ℕ)) (contents : W → Option (List ℕ))
    (inputs inputs_new : Inputs R N) (old new : Watched W) (given job : Job) → given ≡ job
    → (outcome : X → Outcome) (came : Result X E)
    → IfOk came (λ it. EndsSo remaining contents job inputs inputs_new old new (outcome it))
    → IfOk came (λ it. EndsSo remaining contents given inputs inputs_new old new (outcome it))
ends_so remaining contents inputs inputs_new old new given job is outcome came ends =
    subst (λ (it : Job). IfOk came (λ x. EndsSo remaining contents it inputs inputs_new old new (outcome x)))
    (sym is) ends

-- and what that left of the desk
pub breaks_so : {S E : Type 0} (given job : Job) → given ≡ job → (came : Result (FileLife S) E)
    → IfOk came (λ life. BreaksSo job life.outcome.end life.mark)
    → IfOk came (λ life. BreaksSo given life.outcome.end life.mark)
breaks_so given job is came breaks =
    subst (λ (it : Job). IfOk came (λ life. BreaksSo it life.outcome.end life.mark)) (sym is) breaks

-- ---- What a call left of its desk, by the mark that this was given up with.

module _ {S : Type 0} (g : Ghosts S) (mark : DeskMark) (kept now : Desk S g) (whole : IsWhole kept)
    (is : IsMarkOf mark now) where
  pub breaks_as : (end : Finish) → LeavesDesk kept now end → BreaksAs end mark
  breaks_as (AtEnd rest) leaves = is ∙ leaves.whole whole (λ other. absurd cc)
  breaks_as (Ended Memory) leaves = is ∙ leaves.whole whole (λ other. absurd cc)
  breaks_as (Ended Store) leaves = is ∙ (leaves.store refl).1
  breaks_as (Ended Broken) leaves = absurd (let broken = leaves.was_broken refl in let both = sym whole ∙ broken in cc)
  breaks_as (Ended ReadFault) leaves = is ∙ leaves.whole whole (λ other. absurd cc)
  breaks_as (Ended WriteFault) leaves = is ∙ leaves.whole whole (λ other. absurd cc)
  breaks_as (Ended BadHeader) leaves = is ∙ leaves.whole whole (λ other. absurd cc)

  pub breaks_none : (end : Finish) → LeavesAlone g kept now end → BreaksNone end mark
  breaks_none end alone = record {
    whole = is ∙ alone.mark ∙ whole;
    none = λ broken. absurd (let was = alone.was_broken broken in let both = sym whole ∙ was in cc);
  }
