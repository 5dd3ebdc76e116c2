-- The text of an export: a header, and one row for each key. Its form is this register's own;
-- fields are quoted as RFC 4180 says.
use Rattle.std.specs.Prelude.{ℕ, ◌==◌, ◌||◌, if◌then◌else◌, List, [], ◌∷◌, ◌++◌, map, flat_map, codes, decimal, Option}
use Rattle.std.specs.Prelude.{None, Some}
use Rattle.std.specs.List.{list_any, join_with_byte}
use Rattle.moment_core.specs.MomentText.{moment_text}
use Rattle.period_core.specs.KeyType.{key_type_text}
use Rattle.lifecycle_core.specs.{declared.dates.Dates.Dates, State.state_text}
use Rattle.key_rows.specs.declared.key_row.KeyRow.{KeyRow}

-- ---- rows of fields

-- what stands between two fields
abbrev pub comma : ℕ
comma = 44

-- what stands round a field that is quoted
abbrev pub quote : ℕ
quote = 34

-- what ends a row
abbrev pub row_end : ℕ
row_end = 10

-- a byte of a field between quotes: a quote twice
abbrev pub doubled : ℕ → List ℕ
doubled b = if b == quote then quote ∷ quote ∷ [] else b ∷ []

-- a field, between quotes where it has a comma or a quote
abbrev pub field_text : List ℕ → List ℕ
field_text field =
    if list_any (λ b. (b == comma) || (b == quote)) field then (quote ∷ flat_map doubled field)
    ++ quote ∷ [] else field

-- a row: its fields with commas between them, and a line feed
abbrev pub csv_row : List (List ℕ) → List ℕ
csv_row fields = join_with_byte comma (map field_text fields) ++ row_end ∷ []

-- ---- keys

-- the text of a date: nothing where it is not set
abbrev pub date_cell_text : Option ℕ → List ℕ
date_cell_text None = []
date_cell_text (Some date) = moment_text date

-- a column: its name in the header, and what stands there of a key
pub record Column : Type 0 where
  pub name : List ℕ
  pub cell : KeyRow → List ℕ

-- the column of this name, with this of each key
abbrev pub column : List ℕ → (KeyRow → List ℕ) → Column
column name cell = record { name = name; cell = cell }

-- the column of a date
abbrev pub dated : List ℕ → (Dates → Option ℕ) → Column
dated name date = column name (λ r. date_cell_text (date r.row.dates))

-- The columns, in their order. No other definition names all of them: the header and the rows are read off this list.
abbrev pub export_columns : List Column
export_columns =
    column (codes "number") (λ r. decimal r.number)
    ∷ column (codes "type") (λ r. key_type_text r.kind)
    ∷ column (codes "owner") (λ r. r.owner)
    ∷ dated (codes "activation") (λ d. d.activation)
    ∷ dated (codes "protect_stop") (λ d. d.protect_stop)
    ∷ dated (codes "deactivation") (λ d. d.deactivation)
    ∷ column (codes "state") (λ r. state_text r.row.state)
    ∷ dated (codes "initial") (λ d. Some d.initial)
    ∷ dated (codes "destroyed") (λ d. d.destroy)
    ∷ dated (codes "compromised") (λ d. d.compromise)
    ∷ dated (codes "occurrence") (λ d. d.compromise_occurrence)
    ∷ column (codes "purpose") (λ r. r.purpose)
    ∷ []

-- the row of their names
unfoldable pub export_header : List ℕ
export_header = csv_row (map (λ (c : Column). c.name) export_columns)

-- what stands in the columns
abbrev pub export_fields : KeyRow → List (List ℕ)
export_fields r = map (λ (c : Column). c.cell r) export_columns

-- the row of a key
unfoldable pub export_row : KeyRow → List ℕ
export_row r = csv_row (export_fields r)

-- the export of these keys
abbrev pub export_text : List KeyRow → List ℕ
export_text rows = export_header ++ flat_map export_row rows
