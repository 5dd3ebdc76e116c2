-- What a statement leaves that wrote some tables: these have new rows, and every other is as it was.
use Rattle.std.proofs.Common.{◌≡◌, ℕ, List}
use Rattle.std.specs.List.{AllByRecursion}
use Rattle.sqlite.specs.{Effect.Database, Effect.IsDatabase, Order.Row, Schema.Schema, Table.Table}

-- the schema is this one still, each tree of a table but the written ones is as it was, and the database is sound
pub record Kept (schema : Schema) (written : ℕ → Type 0) (old new : Database) : Type 0 where
  pub schema_is : new.schema ≡ schema
  pub others : AllByRecursion (λ (t : Table). (written t.tree → ⊥) → new.trees t.tree ≡ old.trees t.tree) schema.tables
  pub sound : IsDatabase new

-- the one tree that was written has these rows
pub record Wrote (schema : Schema) (tree : ℕ) (rows : List Row) (old new : Database) : Type 0 where
  pub rows_are : new.trees tree ≡ rows
  pub kept : Kept schema (λ t. t ≡ tree) old new
