-- What each call over the register in files says of what it came to. The files hold `found` before the call; what is
-- said of files that it left is said of sound ones.
use Rattle.std.specs.Prelude.{◌≡◌, ◌≤◌, ℕ, List, [], length, Option, Some, Result, IfOk, IfErr}
use Rattle.sqlite_trees.specs.{declared.store.Store.Ghosts, View.IsClean as IsCleanStore}
use Rattle.sqlite.specs.{Held.Held, Held.state, Recovery.Image}
use Rattle.key_rows.specs.Report.{horizon, report_text}
use Rattle.key_rows.specs.{declared.key_row.KeyRow.KeyRow, DueRows.AreListed, Export.export_text}
use Rattle.register_requests.specs.declared.request.Request.{Request}
use Rattle.register_core.specs.{Fold.IsLawful, History.latest, History.period}
use Rattle.register_desk.specs.declared.outcome.Finish.TheVariants.{Ended}
use Rattle.register_desk.specs.DatabaseFiles.{HoldsRegister}
use Rattle.machine_traits.specs.Found.{HoldsNothing, ShowsFiles}
use Rattle.register_desk.specs.{declared.desk.Desk.Desk, declared.end.End.TheVariants.BadHeader, Desk.IsClean}
use Rattle.register_desk.specs.{Desk.IsWhole, Input.HasItems, KeyRows.all_rows, OpenRefusal.ShowsTable}
use Rattle.register_program.specs.declared.register_file.FileLife.{FileLife}
use Rattle.register_program.specs.Life.{EndsUnbegun, LeavesInFiles, LeavesMadeIn, LivesOver, LivesSome, Refuses}
use Rattle.register_program.specs.Life.{RefusesMaking, ServesInFiles, WritesOut}
use Rattle.register_program.specs.{declared.refused.Refused.Refused, Closing.OfClosed}
use Rattle.machine_traits.specs.declared.files.Closed.{Closed}
use Rattle.register_program.specs.Opening.{OpensRegister}
use Rattle.machine_traits.specs.Network.{Visit}
use Rattle.register_http.specs.ServedExchanges.{Attends, EndsServing, ServedClient}
use Rattle.register_words.specs.declared.values.Terms.{Terms}
use Rattle.register_report.specs.ImportRows.{BeginsWithHeader, HasRowItems}

module _ {S U : Type 0} (g : Ghosts S) (may_leave : S → Image → Type 0) (may_stay : U → Image → Type 0)
    (found : Image) where
  -- the call came to a life, of which this is said, of its desk, and of what may be left in its files
  abbrev pub OnLife : Result (FileLife S) (Refused S U) → (FileLife S → Desk S g → (Image → Type 0) → Type 0) → Type 0
  OnLife result said =
      IfOk result (λ life. IsCleanStore (g.view life.files.store) → OfClosed g may_leave life.files (said life))

  -- What opening the register in these files comes to: its desk, or why it was refused.
  pub record OpensFile (result : Result (Desk S g) (Refused S U)) : Type 0 where
    -- The desk stands for the history whose register the files hold.
    pub stands : OpensRegister g found result
    pub whole : IfOk result IsWhole
    -- Files that hold nothing have no register to open.
    pub nothing : HoldsNothing found → IfOk result (λ desk. IsClean g desk → ⊥)
    -- A refusal has its cause in what the files hold, and a stop leaves what they held.
    pub refuses : IfErr result (Refuses g may_leave may_stay found)

  -- What every call says that opens the register before its work.
  pub record OpensFirst (result : Result (FileLife S) (Refused S U)) : Type 0 where
    pub nothing : HoldsNothing found → IfOk result (λ life. IsCleanStore (g.view life.files.store) → ⊥)
    pub refuses : IfErr result (Refuses g may_leave may_stay found)

  -- An opened connection to the files showed none of a register's tables. Whatever a stop leaves in them holds that
  -- database with an empty register made in it, beside what was there.
  pub record MadeBeside (files : Closed S) : Type 0 where
    pub old : Held S
    pub shows : ShowsFiles found (state g old)
    pub none : ShowsTable (state g old) → ⊥
    pub leaves : OfClosed g may_leave files (λ desk. LeavesMadeIn (state g old))

  -- What making a register in these files comes to: a register of no request, or why none was made.
  pub record MakesFile (result : Result (Closed S) (Refused S U)) : Type 0 where
    -- Where the files held nothing, whatever a stop leaves in them holds the register of no request.
    pub leaves : HoldsNothing found → IfOk result (λ files. IsCleanStore (g.view files.store)
        → OfClosed g may_leave files (λ desk. LeavesInFiles [] []))
    -- Where it is made, none of a register's tables was there, and all that was there is kept.
    pub made : IfOk result (λ files. IsCleanStore (g.view files.store) → MadeBeside files)
    -- In files that hold a register none is made.
    pub spares : (h : List Request) → HoldsRegister h found
        → IfOk result (λ files. IsCleanStore (g.view files.store) → ⊥)
    -- A table of a register that is there is the one reason to refuse a database, and is as it was; and so is the
    -- register that the files hold.
    pub refuses : IfErr result (RefusesMaking g may_leave may_stay found)

  -- What a run says whatever its reader tells of its bytes, as standard input does, which tells none.
  pub record LivesAnyway (old new : Option (List ℕ)) (result : Result (FileLife S) (Refused S U)) : Type 0 where
    -- There are items that it was a run over.
    pub some : (h : List Request) → IsLawful h → HoldsRegister h found
        → OnLife result (λ life. LivesSome g h life.outcome old new)
    -- Where it ends for want of a header row, nothing was written.
    pub unbegun : IfOk result (λ life. life.outcome.end ≡ Ended BadHeader → (new ≡ old) × (life.outcome.replies ≡ 0))
    pub opens : OpensFirst result

  -- What a run over request lines says.
  pub record RunsLines (input : Option (List ℕ)) (old new : Option (List ℕ))
      (result : Result (FileLife S) (Refused S U)) : Type 0 where
    -- Where the files held the register of a history, what is written is the lines of the answers, and whatever a stop
    -- leaves in the files holds the register of the items that were answered, or of one more.
    pub lives : (h : List Request) (bytes : List ℕ) (items : List (Option Request)) (rest : List ℕ)
        → IsLawful h → HoldsRegister h found → input ≡ Some bytes → HasItems bytes items rest
        → OnLife result (λ life. LivesOver g h items rest life.outcome old new)
    pub anyway : LivesAnyway old new result

  -- What an import of the rows of a table on these terms says.
  pub record ImportsRows (terms : Terms) (input : Option (List ℕ)) (old new : Option (List ℕ))
      (result : Result (FileLife S) (Refused S U)) : Type 0 where
    -- Where the files held the register of a history, it is a run over the items of the rows after the header row.
    pub lives : (h : List Request) (bytes : List ℕ) (items : List (Option Request))
        → IsLawful h → HoldsRegister h found → input ≡ Some bytes
        → HasRowItems terms.moment terms.caller terms.first bytes items
        → OnLife result (λ life. LivesOver g h items [] life.outcome old new)
    -- Without the header row nothing is registered.
    pub without : (h : List Request) (bytes : List ℕ)
        → IsLawful h → HoldsRegister h found → input ≡ Some bytes → (BeginsWithHeader bytes → ⊥)
        → OnLife result (λ life desk. EndsUnbegun h life.outcome old new)
    pub anyway : LivesAnyway old new result

  -- What an export of these files comes to: the rows of all keys are written.
  pub record Exports (old new : Option (List ℕ)) (result : Result (FileLife S) (Refused S U)) : Type 0 where
    -- Where the files held the register of a history, its export is written, and they hold it still.
    pub lives : (h : List Request) → IsLawful h → HoldsRegister h found
        → OnLife result (λ life desk. WritesOut h (export_text (all_rows h)) life.outcome old new)
    pub opens : OpensFirst result

  -- What a report for this number of days says.
  pub record Reports (days : ℕ) (old new : Option (List ℕ)) (result : Result (FileLife S) (Refused S U)) : Type 0 where
    -- The files hold the register that they held.
    pub keeps : (h : List Request) → IsLawful h → HoldsRegister h found
        → OnLife result (λ life desk. LeavesInFiles h h)
    -- Where the files held the register of a history, its report is written, and they hold it still.
    pub lives : (h : List Request) (rows : List KeyRow)
        → IsLawful h → HoldsRegister h found → AreListed (all_rows h) (horizon (latest h) days) (period h) rows
        → OnLife result (λ life desk.
        WritesOut h (report_text (latest h) (horizon (latest h) days) rows) life.outcome old new)
    pub opens : OpensFirst result

  -- What the serving of at most this many exchanges says.
  pub record ServesExchanges (most : ℕ) (before after : Option (List Visit)) (accepted : ℕ)
      (result : Result (FileLife S) (Refused S U)) : Type 0 where
    -- who was served
    pub clients : List ServedClient
    pub attends : IfOk result (λ life. Attends before after clients accepted life.outcome.end)
    pub few : length clients ≤ most
    -- Where the files held the register of a history, whatever a stop leaves in them holds that after the items that the
    -- clients handed on.
    pub lives : (h : List Request) → IsLawful h → HoldsRegister h found
        → OnLife result (λ life desk. ServesInFiles h clients life.outcome.end)
    -- how it ended
    pub ends : IfOk result (λ life. EndsServing life.outcome.end)
    -- Nobody was accepted where the register was not opened.
    pub nobody : IfErr result (λ refused. (after ≡ before) × (accepted ≡ 0))
    pub opens : OpensFirst result
