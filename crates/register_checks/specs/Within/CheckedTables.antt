-- What functions within the crate say of one another, beside `specs/CheckedTables.antt`.
use Rattle.std.specs.Prelude.{Result, IfOk, IfErr}
use Rattle.sqlite.specs.State.{State, HasCleanDisk, Survives}
use Rattle.row_checks.specs.ShownRows.{ShowsAll}
use Rattle.register_checks.specs.Stored.{HoldsStored, Part, Stored, part, with_part}
use Rattle.register_checks.specs.OpeningChecks.{MeetsCheck, MeetsChecks}
use Rattle.register_checks.specs.CheckedTables.{BlamesNone, IsReasonAt, ShowsRows, check_text}
use Rattle.register_checks.specs.declared.refusal.CheckError.{CheckError}
use Rattle.register_tables.specs.declared.table.TableName.{TableName}

-- ---- the check of one table

-- What the check of one table does, where the tables before it are those of t, as the check of all does; `Says` relates
-- what the table shows to what is found of it.
pub record ChecksTable {T : Type 0} (name : TableName) (t : Stored) (Says : Part name → T → Type 0) (old new : State)
    (result : Result T CheckError) : Type 0 where
  pub passed : HasCleanDisk new → IfOk result (λ found. (c : Part name) × ShowsAll (check_text name)
      (λ rows. ShowsRows name rows c) old new × MeetsCheck name (with_part name c t) × Says c found)
  pub refused : HasCleanDisk new → IfErr result (IsReasonAt name t old new)
  pub told : HasCleanDisk new → HoldsStored t old.now → MeetsChecks t → IfOk result (Says (part name t))
  pub blames_none : HasCleanDisk new → HoldsStored t old.now → MeetsChecks t → IfErr result BlamesNone
  pub survives : Survives old new (λ _. ⊥)
