-- What a query shows, row by row, whatever the schema is.
use Rattle.std.specs.Prelude.{◌≡◌, ℕ, List, [], None, Err, Ok}
use Rattle.sqlite.specs.State.{State, IsUnchanged, Begins, Shown}
use Rattle.sqlite.specs.{Order.Row, Schema.Schema, Listing.understood}
use Rattle.sqlite_resolve.specs.{declared.compiled.Compiled.Compiled, declared.error.CompileError.CompileError}

-- under any schema the text is a query that reads no time, or has no meaning
abbrev pub IsQuery : List ℕ → Type 0
IsQuery sql = (schema : Schema) (c : Compiled) → understood schema sql ≡ Ok c → (c.returning ≡ None) × (c.formats ≡ [])

-- all rows that the query shows, of which P holds; nothing has changed
pub record ShowsAll (sql : List ℕ) (P : List Row → Type 0) (old new : State) : Type 0 where
  pub rows : List Row
  pub shown : Shown sql [] old new rows
  pub holds : P rows
  pub same : IsUnchanged old new

-- the first rows that the query shows, of which P holds; nothing has changed
pub record ShowsFirst (sql : List ℕ) (P : List Row → Type 0) (old new : State) : Type 0 where
  pub rows : List Row
  pub shown : Begins sql [] new rows
  pub holds : P rows
  pub same : IsUnchanged old new

-- the text has no meaning under the schema; nothing has changed
pub record HasNoMeaning (sql : List ℕ) (old new : State) : Type 0 where
  pub fault : CompileError
  pub meaning : understood old.now.schema sql ≡ Err fault
  pub same : IsUnchanged old new
