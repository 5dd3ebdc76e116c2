-- What functions within the crate say of one another, beside `specs/TableRows.antt`.
use Rattle.std.specs.Prelude.{◌≡◌, ◌≢◌, ℕ, Bool, true, List, Option}
use Rattle.csv.specs.{declared.reader.Reader.Reader, Reading.ReadRecord, Reading.reader_config}
use Rattle.register_desk.specs.declared.end.End.{End}
use Rattle.register_desk.specs.declared.end.End.TheVariants.{Memory, Store, Broken, ReadFault, WriteFault, BadHeader}
use Rattle.register_report.specs.TableRows.{IsPlainTable, IsUnread}
use Rattle.register_report.specs.{ImportRows.RowTexts, ImportRows.header, declared.importing.Rows.Rows}

-- a record was read: the table may be read on
pub record ReadsRecord {R : Type 0} (old new : Reader R) : Type 0 where
  pub table : IsPlainTable new
  pub config : reader_config new ≡ reader_config old

-- no more of the rows changed than the record, and whether the reader failed
abbrev pub KeepsRows : Rows → Rows → Type 0
KeepsRows old new = new ≡ record old { row = new.row; reader_failed = new.reader_failed }

module _ {R : Type 0} (remaining : R → Option (List ℕ)) where
  -- why no header row was read: no record could be read, or there was none, or another one
  abbrev pub LacksHeader : Reader R → Reader R → Bool → End → Type 0
  LacksHeader start table reader_failed Memory = IsUnread remaining start table reader_failed Memory
  LacksHeader start table reader_failed ReadFault = IsUnread remaining start table reader_failed ReadFault
  LacksHeader start table reader_failed Store = ⊥
  LacksHeader start table reader_failed Broken = ⊥
  LacksHeader start table reader_failed WriteFault = ⊥
  LacksHeader start table reader_failed BadHeader =
      (found : Bool) × (fields : RowTexts) × ReadRecord remaining start table found fields
      × (found ≡ true → fields ≢ header)
