-- The searches for the next key that is due, each for the first of the keys that pass its check.
use Rattle.std.specs.Prelude.{◌≡◌, ◌⊎◌, ◌==◌, ◌&&◌, ◌||◌, ℕ, nat_le, not, Bool, true, List, ◌++◌, codes, Option, None}
use Rattle.std.specs.Prelude.{Some}
use Rattle.sqlite_rules.specs.Lists.{Has}
use Rattle.lifecycle_core.specs.{declared.state.State.TheVariants.Active, State.state_code}
use Rattle.register_core.specs.declared.key.Key.{Key}
use Rattle.register_rows.specs.declared.key_scan.DueSearch.TheVariants.{LaterStop, Past, SameStop}
use Rattle.register_tables.specs.Tables.{IsKey, Tables, date_cell, numbered}
use Rattle.register_rows.specs.{declared.key_scan.DueCursor.DueCursor, declared.key_scan.DueSearch.DueSearch}
use Rattle.register_tables.specs.Columns.{key_columns, select}
use Rattle.register_rows.specs.KeyScan.{IsAfterKey}

-- a numbered key that a register may hold
abbrev pub IsNumbered : ℕ × Key → Type 0
IsNumbered x = IsKey x.1

abbrev pub stop_cell : ℕ × Key → ℕ
stop_cell x = date_cell x.1.row.dates.protect_stop

abbrev pub is_active_key : ℕ × Key → Bool
is_active_key x = state_code x.1.row.state == state_code Active

-- Active, with this Protect Stop Date up to that moment, and a higher number
abbrev pub is_same : ℕ → DueCursor → ℕ × Key → Bool
is_same until last x =
    is_active_key x && ((stop_cell x == last.stop) && (nat_le (stop_cell x) until && not (nat_le x.0 last.number)))

-- Active, with a later Protect Stop Date up to that moment
abbrev pub is_later : ℕ → ℕ → ℕ × Key → Bool
is_later until stop x = is_active_key x && (not (nat_le (stop_cell x) stop) && nat_le (stop_cell x) until)

-- Active, with this Protect Stop Date and a higher number or with a later date, up to that moment
abbrev pub is_past : ℕ → DueCursor → ℕ × Key → Bool
is_past until last x =
    is_active_key x && (nat_le last.stop (stop_cell x)
    && (nat_le (stop_cell x) until && (not (nat_le (stop_cell x) last.stop) || not (nat_le x.0 last.number))))

-- the text of a search for Active keys of which this holds too
abbrev pub active_search : List ℕ → List ℕ
active_search condition =
    select key_columns (codes ", number FROM keys WHERE state = 2 AND " ++ condition
    ++ codes " ORDER BY protect_stop, number")

-- that of each search after a cursor
abbrev pub search_text : DueSearch → List ℕ
search_text SameStop = active_search (codes "protect_stop = ?1 AND protect_stop <= ?2 AND number > ?3")
search_text LaterStop = active_search (codes "protect_stop > ?1 AND protect_stop <= ?2")
search_text Past =
    active_search (codes "protect_stop >= ?1 AND protect_stop <= ?2 AND (protect_stop > ?1 OR number > ?3)")

-- what it finds the first of
abbrev pub is_found : DueSearch → ℕ → DueCursor → ℕ × Key → Bool
is_found SameStop until last = is_same until last
is_found LaterStop until last = is_later until last.stop
is_found Past until last = is_past until last

-- the cursor of a key by its cells
abbrev pub cell_cursor : ℕ × Key → DueCursor
cell_cursor x = record { stop = stop_cell x; number = x.0 }

pub record IsFirstDue (check : ℕ × Key → Bool) (t : Tables) (x : ℕ × Key) : Type 0 where
  pub there : Has (numbered t.keys) x
  pub passes : check x ≡ true
  pub first : (y : ℕ × Key) → Has (numbered t.keys) y → check y ≡ true
      → (y ≡ x) ⊎ IsAfterKey (cell_cursor x) (cell_cursor y)

-- the first of the keys that pass the check, by Protect Stop and number, or none where none passes
abbrev pub HasFirst : (ℕ × Key → Bool) → Tables → Option (ℕ × Key) → Type 0
HasFirst check t None = (x : ℕ × Key) → Has (numbered t.keys) x → check x ≡ true → ⊥
HasFirst check t (Some x) = IsFirstDue check t x
