-- What functions within the crate say of one another, beside `specs/TextWriter.antt`.
use Rattle.std.specs.Prelude.{◌≡◌, ◌≢◌, ℕ, ◌+◌, ◌≤◌, Bool, true, false, List, [], ◌++◌, length, Option, Result, Ok, Err}
use Rattle.std.specs.Prelude.{IfOk, IfErr, OnOk, is_ok}
use Rattle.std.specs.Io.KnownBytes.{Appends}
use Rattle.sqlite_trees.specs.declared.store.Store.{Ghosts}
use Rattle.streams.specs.{declared.watched.Watched.Watched, Watched.IsFaulted}
use Rattle.key_rows.specs.Report.{horizon, report_text}
use Rattle.key_rows.specs.{declared.key_row.KeyRow.KeyRow, DueRows.AreListed, Export.export_text}
use Rattle.register_requests.specs.declared.request.Request.{Request}
use Rattle.register_core.specs.History.{latest, period}
use Rattle.register_desk.specs.declared.end.End.TheVariants.{Broken, WriteFault}
use Rattle.register_desk.specs.declared.outcome.Finish.TheVariants.{AtEnd, Ended}
use Rattle.register_desk.specs.KeyRows.{AreAll, AreSoFar, GoOn, HaveGiven, all_rows, until_of}
use Rattle.register_desk.specs.{declared.desk.Desk.Desk, declared.end.End.End, declared.outcome.Finish.Finish}
use Rattle.register_desk.specs.Desk.{ChangesNothing, IsClean, IsWhole}
use Rattle.register_desk.specs.declared.rows.KeyRows.{KeyRows}
use Rattle.register_desk.specs.Run.{AreFlushed, IsPrefixOf, max_idle_turns}
use Rattle.register_desk.specs.Register.{StandsFor}
use Rattle.register_report.specs.Within.KeyTable.{count_in, head_text, lines_text, table_text}
use Rattle.register_report.specs.{declared.key_table.KeyTable.KeyTable, TextWriter.IsEndOfWriting}

-- ---- a writer

-- These bytes were written and counted, and flushed unless a write failed, which is the writer's
-- own fault or the bound on its idle turns.
pub record Puts {W T : Type 0} (contents : W → Option (List ℕ)) (old new : Watched W)
    (before after : ℕ) (bytes : List ℕ) (result : Result T End) : Type 0 where
  pub written : Appends (contents old.inner) (contents new.inner) bytes
  pub counted : after ≡ before + length bytes
  pub flushed : result ≢ Err WriteFault → AreFlushed (length bytes) old.unflushed new.unflushed
  pub fault : result ≡ Err WriteFault → IsFaulted new.failed max_idle_turns new.idle
  pub bounded : old.idle ≤ max_idle_turns → new.idle ≤ max_idle_turns

-- a prefix of the text was, and the whole of it where the call went well
pub record PutsText {W T : Type 0} (contents : W → Option (List ℕ)) (old new : Watched W)
    (before after : ℕ) (text : List ℕ) (result : Result T End) : Type 0 where
  pub bytes : List ℕ
  pub puts : Puts contents old new before after bytes result
  pub prefix : IsPrefixOf bytes text
  pub whole : OnOk result (bytes ≡ text)

-- ---- rows

-- of all the rows, those are the first, or are all that are to be given
abbrev pub AreUpTo : Bool → Option ℕ → List KeyRow → List KeyRow → Type 0
AreUpTo false until all given = AreSoFar until all given
AreUpTo true until all given = AreAll until all given

-- a call over rows that had given none wrote of these, which are the first of the rows that the
-- desk has, or all of them
abbrev pub GivesRows : {S : Type 0} → (g : Ghosts S) → KeyRows S g → KeyRows S g → Bool
    → List KeyRow → Type 0
GivesRows g old new is_all given =
    (h : List Request) → StandsFor g old.desk.now h → IsWhole old.desk.now → IsClean g new.desk.now
    → ((all : List KeyRow) → HaveGiven old all [])
    → AreUpTo is_all (until_of old) (all_rows h) given

-- the lines of the rows that came were written, and counted where the call went well
pub record PutsRows {W S : Type 0} (contents : W → Option (List ℕ)) (g : Ghosts S)
    (old new : Watched W) (before after : ℕ) (rows_old rows_new : KeyRows S g) (table : KeyTable)
    (result : Result ℕ End) : Type 0 where
  pub given : List KeyRow
  pub text : PutsText contents old new before after (lines_text table given) result
  pub counted : IfOk result (λ count. count ≡ count_in table given)
  pub are : GivesRows g rows_old rows_new (is_ok result) given

-- the text of a table as far as these rows, and of all of it where they are all
abbrev pub text_up_to : Bool → KeyTable → List KeyRow → List ℕ
text_up_to false table given = head_text table ++ lines_text table given
text_up_to true table given = table_text table given

-- the table of the rows that came was written, or a prefix of it
pub record PutsTable {W S : Type 0} (contents : W → Option (List ℕ)) (g : Ghosts S)
    (old new : Watched W) (before after : ℕ) (rows_old rows_new : KeyRows S g) (table : KeyTable)
    (result : Result (Unit {0}) End) : Type 0 where
  pub is_all : Bool
  pub given : List KeyRow
  pub text : PutsText contents old new before after (text_up_to is_all table given) result
  pub whole : OnOk result (is_all ≡ true)
  pub are : GivesRows g rows_old rows_new is_all given

-- ---- whole calls

-- how a call ended that came to this
abbrev pub finish_of : Result (Unit {0}) End → Finish
finish_of (Ok done) = AtEnd 0
finish_of (Err end) = Ended end

-- which text a call writes of a history
abbrev pub TextOf : Type 1
TextOf = List Request → List ℕ → Type 0

-- the export of its keys
abbrev pub IsExport : TextOf
IsExport h text = text ≡ export_text (all_rows h)

-- the report on those of its keys that are due in so many days, or are long
abbrev pub IsReport : ℕ → TextOf
IsReport days h text = (rows : List KeyRow) × AreListed (all_rows h) (horizon (latest h) days) (period h) rows
    × (text ≡ report_text (latest h) (horizon (latest h) days) rows)

-- a prefix of the text of the history that the desk stands for was written, and the whole of it
-- where the call went well
pub record PutsAll {W S : Type 0} (contents : W → Option (List ℕ)) (g : Ghosts S)
    (old new : Watched W) (before after : ℕ) (desk_old desk_new : Desk S g) (Text : TextOf)
    (result : Result (Unit {0}) End) : Type 0 where
  pub bytes : List ℕ
  pub puts : Puts contents old new before after bytes result
  pub prefix : (h : List Request) (text : List ℕ) → StandsFor g desk_old h → IsClean g desk_new → Text h text
      → IsPrefixOf bytes text
  pub whole : (h : List Request) (text : List ℕ) → StandsFor g desk_old h → IsClean g desk_new → Text h text
      → OnOk result (bytes ≡ text)

-- the rows went on, and their desk changed nothing and is as whole as it was; an end is one of writing, and none is 32
-- where the rows could go on
pub record PassesRows {S T : Type 0} (g : Ghosts S) (old new : KeyRows S g) (result : Result T End) : Type 0 where
  pub same_reference : new.desk.ghost_name ≡ old.desk.ghost_name
  pub reads : ChangesNothing g old.desk.now new.desk.now
  pub mark : new.desk.now.is_broken ≡ old.desk.now.is_broken
  pub end : IfErr result IsEndOfWriting
  pub sound : GoOn old → IfErr result (λ end. end ≢ Broken)
