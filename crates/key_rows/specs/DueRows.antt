-- The rows of the keys that are due for rotation, and their order.
use Rattle.std.specs.Prelude.{◌≡◌, ◌≢◌, ◌⊎◌, ◌==◌, ◌&&◌, ◌||◌, ◌<◌, ℕ, Bool, true, List, All, Contains, filter}
use Rattle.std.specs.Prelude.{IsPermutation, unwrap_or}
use Rattle.std.specs.List.{AllPairs}
use Rattle.lifecycle_core.specs.{declared.state.State.TheVariants.Active, State.is_reached_at, State.state_code}
use Rattle.period_core.specs.{declared.key_type.KeyType.KeyType, Fitting.is_either_use_too_long, Period.Period}
use Rattle.key_rows.specs.declared.key_row.KeyRow.{KeyRow}

-- the key is Active, and its Protect Stop Date is reached at this moment (SP 800-57 Part 1: a key
-- is rotated at the end of its originator usage period)
abbrev pub is_due : ℕ → KeyRow → Bool
is_due until r =
    (state_code r.row.state == state_code Active) && is_reached_at r.row.dates.protect_stop until

-- the Protect Stop Date of a row that is due
abbrev pub stop_of : KeyRow → ℕ
stop_of r = unwrap_or r.row.dates.protect_stop 0

-- its Protect Stop Date is earlier, or the same and its number lower
abbrev pub IsBefore : KeyRow → KeyRow → Type 0
IsBefore a b = (stop_of a < stop_of b) ⊎ ((stop_of a ≡ stop_of b) × (a.number < b.number))

-- each comes before all after it
abbrev pub AreInOrder : List KeyRow → Type 0
AreInOrder rows = AllPairs IsBefore rows

-- a row comes after all of these
abbrev pub IsAfter : List KeyRow → KeyRow → Type 0
IsAfter rows r = All (λ x. IsBefore x r) rows

-- these are the rows of all of them for which this holds, put in order
pub record AreThose (holds : KeyRow → Bool) (all rows : List KeyRow) : Type 0 where
  pub in_order : AreInOrder rows
  pub are : IsPermutation (filter holds all) rows

-- these are the rows of all of them that are due, in order
abbrev pub AreDue : List KeyRow → ℕ → List KeyRow → Type 0
AreDue all until rows = AreThose (is_due until) all rows

-- the key is Active, and is due up to this moment or is used for longer than the period of its type
abbrev pub is_listed : ℕ → (KeyType → Period) → KeyRow → Bool
is_listed until periods r =
    (state_code r.row.state == state_code Active)
    && (is_reached_at r.row.dates.protect_stop until || is_either_use_too_long (periods r.kind) r.row.dates)

-- these are the rows of all of them that are to be listed, in order
abbrev pub AreListed : List KeyRow → ℕ → (KeyType → Period) → List KeyRow → Type 0
AreListed all until periods rows = AreThose (is_listed until periods) all rows

-- Some of all rows that are due, in order: every other one that is due comes after them.
pub record AreFirstDue (all : List KeyRow) (until : ℕ) (rows : List KeyRow) : Type 0 where
  pub in_order : AreInOrder rows
  pub each : (r : KeyRow) → Contains rows r → Contains all r × (is_due until r ≡ true)
  pub others : (r : KeyRow) → Contains all r → is_due until r ≡ true
      → Contains rows r ⊎ IsAfter rows r

-- no two of the rows have one number
abbrev pub HaveOwnNumbers : List KeyRow → Type 0
HaveOwnNumbers rows = AllPairs (λ r s. r.number ≢ s.number) rows
