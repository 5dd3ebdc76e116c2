-- Keys one after the other: those that are due for rotation, by Protect Stop.
use Rattle.std.specs.Prelude.{◌≡◌, ◌⊎◌, ◌==◌, ◌&&◌, if◌then◌else◌, ◌<◌, ℕ, Bool, true, Option, None, Some, unwrap_or}
use Rattle.sqlite_rules.specs.Lists.{Has}
use Rattle.lifecycle_core.specs.{declared.state.State.TheVariants.Active, State.is_reached_at, State.state_code}
use Rattle.register_core.specs.declared.key.Key.{Key}
use Rattle.register_rows.specs.declared.key_scan.DueCursor.{DueCursor}
use Rattle.register_rows.specs.declared.key_scan.DateRun.TheVariants.{First, Later}
use Rattle.register_tables.specs.Tables.{Tables, numbered}
use Rattle.register_rows.specs.declared.key_scan.DateRun.{DateRun}

-- the numbered key is Active, and its Protect Stop Date is reached at this moment
abbrev pub is_stop_due : ℕ → ℕ × Key → Bool
is_stop_due until x = (state_code x.1.row.state == state_code Active) && is_reached_at x.1.row.dates.protect_stop until

-- the cursor of a key that is due: its Protect Stop Date, and its number
abbrev pub cursor_of : ℕ × Key → DueCursor
cursor_of x = record { stop = unwrap_or x.1.row.dates.protect_stop 0; number = x.0 }

-- the second cursor comes after the first: its date is later, or the same and its number higher
abbrev pub IsAfterKey : DueCursor → DueCursor → Type 0
IsAfterKey a b = (a.stop < b.stop) ⊎ ((a.stop ≡ b.stop) × (a.number < b.number))

-- how the key stands that comes next after a cursor, by its Protect Stop Date
abbrev pub date_run_of_next_key : DueCursor → ℕ → DateRun
date_run_of_next_key last stop = if stop == last.stop then Later else First

-- the key is due, and its cursor is after this one
pub record ComesAfter (until : ℕ) (last : DueCursor) (t : Tables) (x : ℕ × Key) : Type 0 where
  pub there : Has (numbered t.keys) x
  pub due : is_stop_due until x ≡ true
  pub after : IsAfterKey last (cursor_of x)

-- the first of the keys that are due after a cursor, or none where there is none
abbrev pub HasNextDue : ℕ → DueCursor → Tables → Option (ℕ × Key) → Type 0
HasNextDue until last t None = (x : ℕ × Key) → ComesAfter until last t x → ⊥
HasNextDue until last t (Some x) =
    ComesAfter until last t x
    × ((y : ℕ × Key) → ComesAfter until last t y → (y ≡ x) ⊎ IsAfterKey (cursor_of x) (cursor_of y))
