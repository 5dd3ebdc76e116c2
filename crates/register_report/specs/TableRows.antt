-- The rows of a table as its items: what stands between two places of it.
use Rattle.std.specs.Prelude.{◌≡◌, ◌⊎◌, ℕ, ◌+◌, ◌≤◌, Bool, true, false, List, length, Option, Some}
use Rattle.csv.specs.Reading.{Reached, ReadRecord, Ready, TookRecord, default_config, is_flexible, reader_config}
use Rattle.csv.specs.Reading.{reader_state, reader_trim, source_of}
use Rattle.csv.specs.{declared.reader.Reader.Reader, Records.AllText}
use Rattle.csv.specs.declared.reader.Trim.TheVariants as trim
use Rattle.register_desk.specs.declared.end.End.{End}
use Rattle.register_desk.specs.declared.end.End.TheVariants.{Memory, Store, Broken, ReadFault, WriteFault, BadHeader}
use Rattle.register_requests.specs.Number.{max_request_number}
use Rattle.register_report.specs.declared.importing.Rows.{Rows}
use Rattle.register_report.specs.ImportRows.{AreRowItems, AreTexts, Item, RowTexts, max_rows}

-- the table takes each field as it stands, in records of any length, and may be read
pub record IsPlainTable {R : Type 0} (table : Reader R) : Type 0 where
  pub untrimmed : reader_trim table ≡ trim.None
  pub flexible : is_flexible table ≡ true
  pub ready : Ready table

-- a row may be read
pub record AreRowsReady {R : Type 0} (place : Rows × Reader R) : Type 0 where
  pub table : IsPlainTable place.1
  pub number : place.0.number ≤ max_request_number + place.0.came
  pub came : place.0.came ≤ max_rows

module _ {R : Type 0} (remaining : R → Option (List ℕ)) where
  -- ---- reading

  -- these rows were read, where the bytes are known
  abbrev pub ReadRows : Reader R → Reader R → List RowTexts → Type 0
  ReadRows start table rows =
      (xs : List ℕ) → source_of remaining start ≡ Some xs
      → (y : List ℕ) × (source_of remaining table ≡ Some y)
      × Reached default_config (reader_state start) xs rows (reader_state table) y

  -- why no record was read: memory; or the reader failed, or the next record is no text
  abbrev pub IsUnread : Reader R → Reader R → Bool → End → Type 0
  IsUnread start table reader_failed Memory = Unit {0}
  IsUnread start table reader_failed ReadFault =
      (reader_failed ≡ true) ⊎ ((fields : RowTexts) × TookRecord remaining start table fields × ¬ (AllText fields))
  IsUnread start table reader_failed Store = ⊥
  IsUnread start table reader_failed Broken = ⊥
  IsUnread start table reader_failed WriteFault = ⊥
  IsUnread start table reader_failed BadHeader = ⊥

  -- ---- from place to place

  -- these items came, each of its row
  pub record RowsCame (from to : Rows × Reader R) (items : List Item) : Type 0 where
    pub rows : List RowTexts
    pub each : AreRowItems from.0.moment from.0.caller from.0.number rows items
    pub texts : AreTexts rows
    pub read : ReadRows from.1 to.1 rows
    pub config : reader_config to.1 ≡ default_config
    pub moment : to.0.moment ≡ from.0.moment
    pub caller : to.0.caller ≡ from.0.caller
    pub number : to.0.number ≡ from.0.number + length items
    pub came : to.0.came ≡ from.0.came + length items
    pub within : to.0.came ≤ max_rows

  -- no further row came
  pub record RowsEnd (from to : Rows × Reader R) (rest : ℕ) : Type 0 where
    pub none_left : rest ≡ 0
    pub fields : RowTexts
    pub at_end : ReadRecord remaining from.1 to.1 false fields

  -- no further row was read, or it was one too many
  abbrev pub RowsFail : Rows × Reader R → Rows × Reader R → End → Type 0
  RowsFail from to end =
      IsUnread from.1 to.1 to.0.reader_failed end
      ⊎ ((end ≡ ReadFault) × (from.0.came ≡ max_rows) × ((fields : RowTexts) × TookRecord remaining from.1 to.1 fields))
