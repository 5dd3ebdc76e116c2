-- The next key that is due is what one search past a place finds, or what two find one after the other.
use Rattle.std.proofs.Common.{◌≡◌, ◌⊎◌, ◌<◌, ◌&&◌, not, nat_le, ℕ, pos, [], ◌∷◌, Bool, true, false, Option, Some, sym}
use Rattle.std.proofs.Common.{ap₂, ◌∙◌, arith}
use Rattle.std.proofs.Math.Bool.{and-true}
use Rattle.std.proofs.lemmas.Bool.{cases_lt, eq-eqb}
use Rattle.std.proofs.lemmas.Bool.Decides.{leb_tells}
use Rattle.std.specs.Option.{is_some}
use Rattle.sqlite.specs.{declared.types.Value.TheVariants.Int, Order.Row as Cells}
use Rattle.sql_steps.proofs.Comparing.{equal_numbers, least_numbers, more_integers, more_numbers, most_numbers, one_of}
use Rattle.moment_core.specs.Moment.{IsMoment}
use Rattle.lifecycle_core.specs.State.{is_reached_at}
use Rattle.register_core.specs.declared.key.Key.{Key}
use Rattle.register_rows.specs.declared.key_scan.DueSearch.{DueSearch}
use Rattle.register_rows.specs.declared.key_scan.DueSearch.TheVariants.{LaterStop, Past, SameStop}
use Rattle.register_rows.specs.KeyScan.{ComesAfter, HasNextDue, IsAfterKey, is_stop_due, cursor_of}
use Rattle.register_rows.specs.Within.DueSearch.{HasFirst, cell_cursor, is_active_key, is_found, is_later, is_past}
use Rattle.register_rows.specs.Within.DueSearch.{is_same, search_text, stop_cell}
use Rattle.register_tables.specs.Tables.{Tables, date_cell}
use Rattle.register_rows.specs.declared.key_scan.DueCursor.{DueCursor}
use Rattle.register_rows.proofs.DueFound.{pick, passes_of, query_of, search_is}

-- ---- checks

both_true : (a b : Bool) → (a && b) ≡ true → (a ≡ true) × (b ≡ true)
both_true a b is = search arith

above : (m n : ℕ) → not (nat_le m n) ≡ true → n < m
above m n is = search (arith, leb_tells, nat_le)

-- ---- what the texts check

module _ (until : ℕ) (last : DueCursor) where
  -- one that is among later dates goes by no number
  abbrev pub params_of : DueSearch → Cells
  params_of LaterStop = Int (pos last.stop) ∷ Int (pos until) ∷ []
  params_of search = Int (pos last.stop) ∷ Int (pos until) ∷ Int (pos last.number) ∷ []

  pub check_is : (search : DueSearch) (x : ℕ × Key)
      → pick (search_text search) (query_of search) (passes_of search) (search_is search) (params_of search) x
      ≡ is_found search until last x
  check_is SameStop x = search (arith, equal_numbers, most_numbers, more_numbers, and-true, not, nat_le)
  check_is LaterStop x = search (arith, equal_numbers, more_numbers, most_numbers, and-true, nat_le)
  check_is Past x = simp (one_of, not, nat_le, equal_numbers, least_numbers, most_numbers, more_integers, and-true)

-- ---- what is due

module _ (until : ℕ) (moment : IsMoment until) where
  -- a date that is reached is set
  reached : (date : Option ℕ) → is_reached_at date until ≡ nat_le (date_cell date) until
  reached date = search (arith, leb_tells)

  cell_is : (date : Option ℕ) → is_reached_at date until ≡ true
      → date_cell date ≡ Rattle.std.specs.Prelude.unwrap_or date 0
  cell_is date is = search arith

  -- the place of a key that is due is that of its cells
  stop_is : (x : ℕ × Key) → is_stop_due until x ≡ true → stop_cell x ≡ (cursor_of x).stop
  stop_is x due = cell_is x.1.row.dates.protect_stop (both_true (is_active_key x) _ due).1

  due_by : (x : ℕ × Key) → is_active_key x ≡ true → nat_le (stop_cell x) until ≡ true → is_stop_due until x ≡ true
  due_by x active low = ap₂ (λ a b. a && b) active (reached x.1.row.dates.protect_stop ∙ low)

  low_by : (x : ℕ × Key) → is_stop_due until x ≡ true → nat_le (stop_cell x) until ≡ true
  low_by x due = sym (reached x.1.row.dates.protect_stop) ∙ (both_true (is_active_key x) _ due).1

  module _ (last : DueCursor) (t : Tables) where
    -- a key that comes after the place passes one of the checks
    passes_one : (y : ℕ × Key) → ComesAfter until last t y → (is_later until last.stop y ≡ true)
        ⊎ (is_same until last y ≡ true)
    passes_one y comes = search (arith, both_true, nat_le, low_by, stop_is, eq-eqb)

    later_parts : (x : ℕ × Key) → is_later until last.stop x ≡ true
        → (is_stop_due until x ≡ true) × (last.stop < stop_cell x)
    later_parts x is = search (arith, both_true, not, nat_le, due_by, above)

    -- a key that comes after the place passes the check of the one search, and the other way round
    passes_past_too : (y : ℕ × Key) → ComesAfter until last t y → is_past until last y ≡ true
    passes_past_too y comes = search (arith, stop_is, low_by, both_true)

    past_parts : (x : ℕ × Key) → is_past until last x ≡ true → (is_stop_due until x ≡ true) × IsAfterKey last (cell_cursor x)
    past_parts x is = search (arith, both_true, nat_le, due_by, not, above, cases_lt)

    -- the first past the place
    pub past_next : (found : Option (ℕ × Key)) → HasFirst (is_past until last) t found → HasNextDue until last t found
    past_next found none = search (arith, passes_past_too, past_parts, stop_is)

    -- the first with the same date
    same_next : (x : ℕ × Key) → HasFirst (is_same until last) t (Some x) → HasNextDue until last t (Some x)
    same_next x is = search (arith, stop_is, passes_one, later_parts)

    pub found_same : (found : Option (ℕ × Key)) → is_some found ≡ true → HasFirst (is_same until last) t found
        → HasNextDue until last t found
    found_same found some first = search (arith, same_next)

    pub found_later : (one found : Option (ℕ × Key)) → is_some one ≡ false → HasFirst (is_same until last) t one
        → HasFirst (is_later until last.stop) t found → HasNextDue until last t found
    found_later one found none first next = search arith
