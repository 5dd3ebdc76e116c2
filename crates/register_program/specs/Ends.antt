-- What an end blames has its cause there.
use Rattle.std.specs.Prelude.{◌≡◌, ◌≢◌, ◌⊎◌, ℕ, true, false, List, Option, Some}
use Rattle.streams.specs.{declared.watched.Watched.Watched, Watched.IsFaulted}
use Rattle.register_desk.specs.declared.end.End.TheVariants.{Memory, Store, Broken, ReadFault, WriteFault, BadHeader}
use Rattle.register_desk.specs.declared.outcome.Finish.TheVariants.{AtEnd, Ended}
use Rattle.register_desk.specs.Run.{LeavesReader, LeavesWriter, max_reads}
use Rattle.register_desk.specs.declared.desk.DeskMark.{DeskMark}
use Rattle.register_desk.specs.{declared.outcome.Finish.Finish, declared.outcome.Outcome.Outcome, Desk.was_broken}
use Rattle.register_report.specs.{Import.StopsAtRecord, TextWriter.EndsText}

-- 31 leaves the desk broken, which was whole as it was opened, and any other end leaves it whole
abbrev pub BreaksAs : Finish → DeskMark → Type 0
BreaksAs (AtEnd rest) mark = was_broken mark ≡ false
BreaksAs (Ended Memory) mark = was_broken mark ≡ false
BreaksAs (Ended Store) mark = was_broken mark ≡ true
BreaksAs (Ended Broken) mark = ⊥
BreaksAs (Ended ReadFault) mark = was_broken mark ≡ false
BreaksAs (Ended WriteFault) mark = was_broken mark ≡ false
BreaksAs (Ended BadHeader) mark = was_broken mark ≡ false

-- A call that changes nothing of the desk leaves it whole, as it was opened.
pub record BreaksNone (end : Finish) (mark : DeskMark) : Type 0 where
  pub whole : was_broken mark ≡ false
  pub none : end ≢ Ended Broken

-- The next record of this input is no text, or is a row too many.
abbrev pub BlamesRecord : Option (List ℕ) → Outcome → Type 0
BlamesRecord input outcome = (bytes : List ℕ) → input ≡ Some bytes → StopsAtRecord bytes outcome.replies

-- A call that reads nothing: 36 is its writer's fault, and it has no end of reading.
pub record EndsWriting {W : Type 0} (contents : W → Option (List ℕ)) (old new : Watched W) (outcome : Outcome)
    : Type 0 where
  pub writer : LeavesWriter contents old new outcome
  pub ends : EndsText outcome.end

module _ {R W : Type 0} (remaining : R → Option (List ℕ)) (contents : W → Option (List ℕ)) where
  -- A run over request lines: 35 is its reader's fault, and 36 its writer's.
  pub record EndsRun (reader reader_new : Watched R) (old new : Watched W) (outcome : Outcome) : Type 0 where
    pub reads : LeavesReader remaining reader reader_new outcome
    pub writer : LeavesWriter contents old new outcome

  -- An import of rows: 35 is its reader's fault, or a record's.
  pub record EndsImport (reader reader_new : Watched R) (old new : Watched W) (outcome : Outcome) : Type 0 where
    pub reads : outcome.end ≡ Ended ReadFault
        → IsFaulted reader_new.failed max_reads reader_new.turns ⊎ BlamesRecord (remaining reader.inner) outcome
    pub writer : LeavesWriter contents old new outcome
