-- What the UPDATEs of the states of due keys do.
use Rattle.std.proofs.Common.{◌≡◌, ℕ, ◌+◌, pos, List, [], ◌∷◌, map, Bool, Ok, set, refl, ap, subst, arith}
use Rattle.std.specs.List.{enumerate_from}
use Rattle.sqlite.specs.declared.types.Value.TheVariants.{Int}
use Rattle.sqlite.specs.Term.{Term, lit, col, op2}
use Rattle.sqlite.specs.{Collation.TheVariants.Binary, Order.Row as Cells, State.State as View, State.Executes}
use Rattle.sqlite_sql.specs.declared.ops.BinaryOp.TheVariants.{Compare}
use Rattle.sqlite_sql.specs.declared.ops.CompareOp.TheVariants.{Eq, Le}
use Rattle.sqlite_tied.specs.Compute.{everything}
use Rattle.sql_steps.proofs.{Comparing.equal_numbers, Comparing.most_numbers, Statements.cast_int, Statements.cast_null}
use Rattle.moment_core.specs.Moment.{IsMoment}
use Rattle.lifecycle_core.specs.State.{state_code}
use Rattle.register_core.specs.declared.key.Key.{Key}
use Rattle.register_rows.specs.declared.accepted_request.DueDate.TheVariants.{Activation, Deactivation}
use Rattle.register_rows.specs.Within.Due.{is_date_due, moved_on, state_before, state_after, update_text, with_each}
use Rattle.register_tables.specs.Tables.{IsKey, key_row}
use Rattle.register_rows.specs.declared.accepted_request.DueDate.{DueDate}
use Rattle.register_tables.specs.Schema.{Holds}
use Rattle.register_rows.specs.Within.TableChanges.{Always, in_state}
use Rattle.register_tables.specs.TableChanges.{Makes}
use Rattle.sqlite_resolve.specs.Compile.{first}
use Rattle.register_tables.proofs.ColumnTerms.{key_kept}
use Rattle.register_rows.proofs.KeyChange.{IsUpdate, changed_where, changes_keys, image_of, passes_row}

-- the column of a date
abbrev column : DueDate → ℕ
column Activation = 7
column Deactivation = 9

-- the row has the state before, and its date is at most the moment that is given
abbrev passes : DueDate → List Term
passes date =
    op2 (Compare Eq Binary) (col 1 5) (lit (Int (pos (state_code (state_before date)))))
    ∷ op2 (Compare Le Binary) (col 1 (column date)) (col 0 0) ∷ []

-- a row with the state after
abbrev shown : DueDate → List Term
shown date = set key_kept 5 (lit (Int (pos (state_code (state_after date)))))

parts : (date : DueDate) → IsUpdate (update_text date) (passes date) (shown date)
unfolding everything first
parts Activation l = record { p = _; name = _; sets = _; check = _; d = _; parsed = refl; untimed = refl; is = refl; named = refl; there = refl; drafted = refl; same = refl; from = refl; accepted = refl }
parts Deactivation l = record { p = _; name = _; sets = _; check = _; d = _; parsed = refl; untimed = refl; is = refl; named = refl; there = refl; drafted = refl; same = refl; from = refl; accepted = refl }

module _ (at : ℕ) (moment : IsMoment at) where
  abbrev pub params : Cells
  params = Int (pos at) ∷ []

  module _ (date : DueDate) where
    abbrev is_for : ℕ × Key → Bool
    is_for p = is_date_due date at p.1

    in_any_place : (n : ℕ) (ks : List Key)
        → map (changed_where is_for (in_state (state_after date))) (enumerate_from n ks) ≡ map (moved_on date at) ks
    in_any_place n [] = refl
    in_any_place n (k ∷ ks) = ap (λ others. moved_on date at k ∷ others) (in_any_place (n + 1) ks)

    stays_key : (k : Key) → IsKey k → IsKey (in_state (state_after date) k)
    stays_key k is = record { owner = is.owner; purpose = is.purpose; dates = is.dates }

    abbrev Image : Type 0
    Image =
        (p : ℕ × Key)
        → image_of (update_text date) (passes date) (shown date) (parts date) params is_for
        (in_state (state_after date)) stays_key p ≡ key_row (p.0, in_state (state_after date) p.1)

    abbrev Check : Type 0
    Check =
        (p : ℕ × Key)
        → passes_row (update_text date) (passes date) (shown date) (parts date) params is_for
        (in_state (state_after date)) stays_key p ≡ is_for p

  image : (date : DueDate) → Image date
  image date = search (arith, cast_int, cast_null)

  check : (date : DueDate) → Check date
  check Activation p = search (arith, equal_numbers, most_numbers)
  check Deactivation p = search (arith, equal_numbers, most_numbers)

  pub moves : (date : DueDate) (old new : View) (count : ℕ) → Executes (update_text date) params old new (Ok count)
      → Makes Always (with_each (moved_on date at)) old.now new.now
  moves date old new count ran t holds always =
      let to = in_state (state_after date) in
      let made = changes_keys (update_text date) (passes date) (shown date) (parts date) params (is_for date) to
      (stays_key date) (check date) (image date) old new count ran in
      subst (λ ks. Holds (record t { keys = ks }) new.now) (in_any_place date 1 t.keys) (made t holds tt)
