-- The two texts that a register is written out as, piece by piece: the export of all keys, and the
-- report on those that are due for rotation, or are long.
use Rattle.std.specs.Prelude.{ℕ, Bool, true, List, [], ◌++◌, length, filter, flat_map, if◌then◌else◌}
use Rattle.period_core.specs.Office.{period_in}
use Rattle.key_rows.specs.Report.{report_head, report_line, report_total}
use Rattle.key_rows.specs.{declared.key_row.KeyRow.KeyRow, DueRows.is_listed, Export.export_header, Export.export_row}
use Rattle.register_report.specs.declared.key_table.KeyTable.{KeyTable}
use Rattle.register_report.specs.declared.key_table.KeyTable.TheVariants.{Export, Report}

-- the row has a line
abbrev pub has_line_for : KeyTable → KeyRow → Bool
has_line_for Export row = true
has_line_for (Report latest until periods) row = is_listed until (period_in periods) row

-- what stands above the lines of a table: the header row of an export, or the head of a report
abbrev pub head_text : KeyTable → List ℕ
head_text Export = export_header
head_text (Report latest until periods) = report_head until

-- the line of a key in a table
abbrev pub line_text : KeyTable → KeyRow → List ℕ
line_text Export row = export_row row
line_text (Report latest until periods) row = report_line latest until row

-- what stands below the lines of a table: the total of a report, nothing in an export
abbrev pub foot_text : KeyTable → ℕ → List ℕ
foot_text Export count = []
foot_text (Report latest until periods) count = report_total count

-- its line, where the row has one
abbrev pub row_text : KeyTable → KeyRow → List ℕ
row_text table row = if has_line_for table row then line_text table row else []

-- the lines of these rows
abbrev pub lines_text : KeyTable → List KeyRow → List ℕ
lines_text table rows = flat_map (row_text table) rows

-- how many of these rows have a line in the table
abbrev pub count_in : KeyTable → List KeyRow → ℕ
count_in table rows = length (filter (has_line_for table) rows)

-- the head, the lines of these rows, and the foot
abbrev pub table_text : KeyTable → List KeyRow → List ℕ
table_text table rows = head_text table ++ (lines_text table rows ++ foot_text table (count_in table rows))
