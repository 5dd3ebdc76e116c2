-- What functions within the crate say of one another: no public contract stands on it.
use Rattle.std.specs.Prelude.{◌≡◌, ℕ, List, length, Option, Some, Vec, nat_le, IsTrue, decimal}
use Rattle.std.specs.List.{AllByRecursion, list_all}
use Rattle.std.specs.declared.alloc.Global.{Global}
use Rattle.csv.specs.Writing.{default_writer, writer_setup, fields_written, text_written, row_body}
use Rattle.csv.specs.declared.writer.Writer.{Writer}
use Rattle.period_core.specs.KeyType.{key_type_text}
use Rattle.lifecycle_core.specs.State.{state_text}
use Rattle.key_rows.specs.declared.cell.Cell.TheVariants.{Number, Kind, State, Date, Name, Purpose}
use Rattle.key_rows.specs.{declared.cell.Cell.Cell, Export.date_cell_text}

-- ---- beside `specs/Export.antt`

-- ---- rows of fields

-- the bytes have no control character, so that they end no line
abbrev pub IsPrintable : List ℕ → Type 0
IsPrintable bytes = IsTrue (list_all (nat_le 32) bytes)

-- ---- the text of a cell

-- the text of a cell, by what stands in it
abbrev pub cell_text : Cell → List ℕ
cell_text (Number number) = decimal number
cell_text (Kind kind) = key_type_text kind
cell_text (State state) = state_text state
cell_text (Date date) = date_cell_text date
cell_text (Name name) = name.now
cell_text (Purpose purpose) = purpose.now

-- ---- what a writer of one row has written

-- all that it has written, to memory
abbrev pub written : Writer (Vec ℕ Global) → Option (List ℕ)
written w = text_written (λ v. Some v.items) w

-- it has these fields of a row, which are printable, and nothing before them
pub record HasFields (w : Writer (Vec ℕ Global)) (fields : List (List ℕ)) : Type 0 where
  pub setup : writer_setup w ≡ default_writer
  pub count : fields_written w ≡ length fields
  pub text : written w ≡ Some (row_body default_writer fields)
  pub printable : AllByRecursion IsPrintable fields
