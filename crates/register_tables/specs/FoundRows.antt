-- What is read of cells and rows, and what a search for one row gives.
use Rattle.std.specs.Prelude.{◌≡◌, ◌≢◌, ◌+◌, ℕ, List, length, Option, None, Some, Result, Ok, Err, MatchOption}
use Rattle.std.specs.Global.{Vec}
use Rattle.sqlite.specs.declared.error.Error.TheVariants.{QueryReturnedNoRows}
use Rattle.sqlite.specs.State.{HasCleanDisk, Survives, CommitsShowing, QueriesRow}
use Rattle.sqlite.specs.{declared.types.Value.Value, Order.Row, declared.error.Error.Error}
use Rattle.sqlite_trees.specs.declared.store.Store.{Ghosts}
use Rattle.register_tables.specs.declared.error.StoreError.TheVariants.{Database, NoRegister}
use Rattle.register_tables.specs.{declared.counted.Counted.Counted, declared.error.StoreError.StoreError}
use Rattle.register_tables.specs.{StepCount.counted, TableReads.seen}

-- of a cell the value is given whose cell it is, or nothing where it is no value's
abbrev pub GivesCell : {A : Type 0} → Option A → Value → (A → Value) → Type 0
GivesCell {A} given cell cell_of = MatchOption given ((x : A) → cell ≢ cell_of x) (λ x. cell ≡ cell_of x)

-- of a cell the value is given whose cell it is; nothing need be given of one that is no value's in this range
abbrev pub GivesCellIn : {A : Type 0} → Option A → Value → (A → Type 0) → (A → Value) → Type 0
GivesCellIn {A} given cell InRange cell_of =
    MatchOption given ((x : A) → InRange x → cell ≢ cell_of x) (λ x. cell ≡ cell_of x)

-- the steps of a call that gives one row, or fails
abbrev pub taken_row_steps : {T E : Type 0} → Result T E → ℕ
taken_row_steps (Ok row) = 2
taken_row_steps (Err e) = 1

-- the steps of a call that gives all rows, or fails
abbrev pub rows_steps : {T E : Type 0} → Result (Vec T) E → ℕ
rows_steps (Ok rows) = 1 + length rows.items
rows_steps (Err e) = 1

-- what a reader that gives this of a row answers
abbrev pub given_of : {A : Type 0} → Option A → Result (Option A) StoreError
given_of (Some x) = Ok (Some x)
given_of None = Err NoRegister

-- what is answered without a row
abbrev pub given_without : {A : Type 0} → Error → Result (Option A) StoreError
given_without QueryReturnedNoRows = Ok None
given_without error = Err (Database error)

-- the result is what is given so of the answer's row, or what is answered without one
abbrev pub AnswersBy : {A : Type 0} → (Row → Option A → Type 0) → Result Row Error → Result (Option A) StoreError
    → Type 0
AnswersBy {A} Gives (Ok row) result = (given : Option A) × Gives row given × (result ≡ given_of given)
AnswersBy Gives (Err error) result = result ≡ given_without error

-- A search for one row: what the query gave, and the result is what the reader gives of that.
pub record FindsOne {S T : Type 0} (g : Ghosts S) (sql : List ℕ) (params : Row) (Gives : Row → Option T → Type 0)
    (old new : Counted S g) (result : Result (Option T) StoreError) : Type 0 where
  pub answer : Result Row Error
  pub row : HasCleanDisk (seen g new) → QueriesRow sql params (seen g old) (seen g new) answer
  pub survives : Survives (seen g old) (seen g new) (CommitsShowing sql params (seen g old))
  pub steps : new.steps ≡ counted (taken_row_steps answer) old.steps
  pub given : AnswersBy Gives answer result
