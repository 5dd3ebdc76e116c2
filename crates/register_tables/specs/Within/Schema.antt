-- What functions within the crate say of one another, beside `specs/Schema.antt`.
use Rattle.std.specs.Prelude.{ℕ, List, [], take, fold}
use Rattle.sqlite.specs.{Schema.Schema, Change.created}
use Rattle.register_tables.specs.declared.key_index.KeyIndex.TheVariants.{Activation, Deactivation, ProtectStop}
use Rattle.register_tables.specs.Tables.{fresh, all_tables, table_of}
use Rattle.register_tables.specs.{declared.key_index.KeyIndex.KeyIndex, Schema.no_schema}

-- ---- schemas

-- the schema of a file in which only the first n of the tables are made
abbrev pub schema_after : ℕ → Schema
schema_after n = fold (λ schema name. created schema (table_of (fresh []) name)) no_schema (take n all_tables)

-- ---- the indexes of keys that a new register has

-- the place of an index among those of keys
abbrev pub index_place : KeyIndex → ℕ
index_place Activation = 0
index_place Deactivation = 1
index_place ProtectStop = 2
