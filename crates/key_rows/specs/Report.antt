-- The text of a report on the keys that are due for rotation. Its form is this register's own.
use Rattle.std.specs.Prelude.{ℕ, ◌+◌, ◌-◌, ◌*◌, min, if◌then◌else◌, List, ◌++◌, length, replicate, flat_map, codes}
use Rattle.std.specs.Prelude.{decimal}
use Rattle.moment_core.specs.{Calendar.day_seconds, Moment.last_second, MomentText.moment_text}
use Rattle.period_core.specs.KeyType.{key_type_text}
use Rattle.lifecycle_core.specs.State.{is_reached_at}
use Rattle.key_rows.specs.{declared.key_row.KeyRow.KeyRow, Export.date_cell_text}

-- the last moment of a report for so many days from the latest moment on
abbrev pub horizon : ℕ → ℕ → ℕ
horizon latest days = min (latest + day_seconds * days) last_second

-- so many spaces
abbrev pub spaces : ℕ → List ℕ
spaces n = replicate n 32

-- a text on the right of so many places
abbrev pub right : ℕ → List ℕ → List ℕ
right places text = spaces (places - length text) ++ text

-- a text on the left of so many places
abbrev pub left : ℕ → List ℕ → List ℕ
left places text = text ++ spaces (places - length text)

-- the first line, with the last moment of the report
unfoldable pub report_head : ℕ → List ℕ
report_head until = codes "Keys due for rotation by " ++ moment_text until ++ codes "\n"

-- A key is overdue where its Protect Stop Date is reached at the latest moment, due where it is up to the horizon, and
-- past that it is listed since it is long.
abbrev pub report_mark : ℕ → ℕ → KeyRow → List ℕ
report_mark latest until r =
    if is_reached_at r.row.dates.protect_stop latest then codes "overdue"
    else if is_reached_at r.row.dates.protect_stop until then codes "due"
    else codes "long"

-- the line of a key: its number, its Protect Stop Date, its mark, its type, its owner and its purpose
unfoldable pub report_line : ℕ → ℕ → KeyRow → List ℕ
report_line latest until r =
    right 7 (decimal r.number) ++ codes "  " ++ date_cell_text r.row.dates.protect_stop ++ codes "  "
    ++ left 7 (report_mark latest until r) ++ codes "  " ++ left 22 (key_type_text r.kind) ++ codes "  "
    ++ r.owner ++ codes "  " ++ r.purpose ++ codes "\n"

-- the last line, with how many keys are listed
unfoldable pub report_total : ℕ → List ℕ
report_total count = codes "total " ++ decimal count ++ codes "\n"

-- a report without its last line: the first, and those of these keys
abbrev pub report_begun : ℕ → ℕ → List KeyRow → List ℕ
report_begun latest until rows = report_head until ++ flat_map (report_line latest until) rows

-- the report on these keys, which are due by then or long
abbrev pub report_text : ℕ → ℕ → List KeyRow → List ℕ
report_text latest until rows = report_begun latest until rows ++ report_total (length rows)
