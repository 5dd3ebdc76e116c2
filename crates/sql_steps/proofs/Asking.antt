-- From a query inside a transaction to the words for a step, whatever the schema and the text are.
use Rattle.std.proofs.Common.{◌≡◌, ◌⊎◌, ℕ, List, Option, true, Ok, Err, Result, IsTrue, IsErr, arith}
use Rattle.sqlite.specs.declared.error.Error.TheVariants.{SqlInputError}
use Rattle.sqlite.specs.State.{State, HasCleanDisk, QueriesRow, QueriesRowInside, Begins, store_error, FailsToQuery}
use Rattle.sqlite.specs.State.{Shown, ShowsRows, Shows, IsNotRun, IsUnchanged, IsRolledBack, KeepsCommit, Survives}
use Rattle.sqlite.specs.{declared.error.Error.Error, Order.Row, Listing.understood}
use Rattle.sqlite_schema.specs.declared.command.Returning.{Returning}
use Rattle.sqlite_trees.specs.declared.error.StoreError.{StoreError}
use Rattle.sqlite.proofs.InsideLemmas.{unchanged_keeps}
use Rattle.sql_steps.specs.Steps.{DatabaseChange, StepsBy}

-- no cause of the store is a text without a meaning
pub never_input : (fault : _) (cause : StoreError) → ¬ ◌≡◌ {A = Error} (SqlInputError fault) (store_error cause)
never_input fault cause = search arith

-- a text that shows a row has a meaning
pub has_meaning : (sql : List ℕ) (params row : Row) (old new : State) → QueriesRow sql params old new (Ok row)
    → (c : _) × (understood old.now.schema sql ≡ Ok c)
unfolding QueriesRow Begins Shown
has_meaning sql params row old new it = search arith

module _ (old new : State) where
  -- ---- a query that shows rows, or none: it changes nothing, or is a write with RETURNING, which commits nothing
  -- there

  abbrev Stays : Type 0
  Stays = Shows old new new.now old.committed true

  shows_stays : IsTrue old.in_transaction
      → (sql : List ℕ) (c : _) (params : Row) (rows : List Row) (returning : Option Returning)
      → ShowsRows old new sql c params rows returning → Stays
  shows_stays inside sql c params rows returning shows = search arith

  rows_stay : IsTrue old.in_transaction → (sql : List ℕ) (params : Row) (rows : List Row)
      → Shown sql params old new rows → Stays
  unfolding Shown
  rows_stay inside sql params rows h = shows_stays inside sql h.0 _ rows h.0.returning h.2

  row_stays : IsTrue old.in_transaction → (sql : List ℕ) (params row : Row) → QueriesRow sql params old new (Ok row)
      → Stays
  unfolding QueriesRow
  row_stays inside sql params row it = search (arith, rows_stay)

  -- ---- a query that fails: it changes nothing, or the transaction is rolled back

  not_run_whole : (sql : List ℕ) (params : Row) (e : Error) → IsNotRun old new sql params e
      → IsUnchanged old new ⊎ IsRolledBack old new
  unfolding IsNotRun
  not_run_whole sql params e it = search arith

  pub fails_whole : (sql : List ℕ) (params : Row) (e : Error) → FailsToQuery sql params old new e
      → IsUnchanged old new ⊎ IsRolledBack old new
  unfolding FailsToQuery
  fails_whole sql params e it = search (arith, not_run_whole)

  query_keeps : IsTrue old.in_transaction → (sql : List ℕ) (params : Row) (e : Error)
      → QueriesRow sql params old new (Err e) → KeepsCommit old new
  unfolding QueriesRow
  query_keeps inside sql params e it = search (arith, unchanged_keeps, fails_whole, rows_stay)

  -- ---- a failure that is not the store's leaves all as it was

  abbrev NotOfStore : Error → Type 0
  NotOfStore e = (cause : StoreError) → ¬ (e ≡ store_error cause)

  refused_not_run : (sql : List ℕ) (params : Row) (e : Error) → NotOfStore e → IsNotRun old new sql params e
      → IsUnchanged old new
  unfolding IsNotRun
  refused_not_run sql params e other it = search arith

  refused : (sql : List ℕ) (params : Row) (e : Error) → NotOfStore e → FailsToQuery sql params old new e
      → IsUnchanged old new
  unfolding FailsToQuery
  refused sql params e other it = search (arith, refused_not_run)

  -- the text has no meaning
  meaningless_same : (sql : List ℕ) (params : Row) (e : Error) (fault : _) → e ≡ SqlInputError fault
      → QueriesRowInside sql params old new (Err e) → IsUnchanged old new
  unfolding QueriesRow
  meaningless_same sql params e fault is it = search (arith, refused, never_input)

  -- ---- the steps

  inside_keeps : IsTrue old.in_transaction → (sql : List ℕ) (params : Row) (r : Result Row Error)
      → QueriesRowInside sql params old new r → KeepsCommit old new
  inside_keeps inside sql params r h = search (arith, row_stays, query_keeps, unchanged_keeps)

  -- a query that gave a row, and what is made of that
  pub asks_row : {T E : Type 0} (Changes : T → DatabaseChange) (value : T) (sql : List ℕ) (params row : Row)
      → (QueriesRow sql params old new (Ok row) → Changes value old.now new.now)
      → (HasCleanDisk new → QueriesRowInside sql params old new (Ok row)) → Survives old new (λ _. ⊥)
      → StepsBy {E = E} Changes old new (Ok value)
  asks_row Changes value sql params row found asked survives = search (arith, row_stays, inside_keeps)

  -- a query whose text has no meaning
  pub asks_meaningless : {T E : Type 0} (Changes : T → DatabaseChange) (value : T) (sql : List ℕ) (params : Row) (e : Error)
      (fault : _) → e ≡ SqlInputError fault
      → (new.now ≡ old.now → Changes value old.now new.now)
      → (HasCleanDisk new → QueriesRowInside sql params old new (Err e)) → Survives old new (λ _. ⊥)
      → StepsBy {E = E} Changes old new (Ok value)
  asks_meaningless Changes value sql params e fault is same asked survives =
      search (arith, meaningless_same, inside_keeps)

  -- a query whose answer, or the lack of one, is a failure
  pub asks_fails : {T E : Type 0} (Changes : T → DatabaseChange) (sql : List ℕ) (params : Row) (r : Result Row Error)
      (q : Result T E) → IsErr q
      → (HasCleanDisk new → QueriesRowInside sql params old new r) → Survives old new (λ _. ⊥)
      → StepsBy Changes old new q
  asks_fails Changes sql params r q failed asked survives = search (arith, inside_keeps)
