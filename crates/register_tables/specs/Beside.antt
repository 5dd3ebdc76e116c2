-- What a file has beside a register: making a register, and migrating one, leaves it.
use Rattle.std.specs.Prelude.{◌≡◌, ◌≢◌, ℕ, Bool, true, false, List, codes}
use Rattle.sqlite.specs.{Effect.Database, Schema.Schema, Table.Table}
use Rattle.sqlite_rules.specs.Lists.{Has}
use Rattle.sqlite_schema.specs.declared.schema.Reference.{Reference}
use Rattle.sqlite_schema.specs.{Names.same_name, declared.schema.Index.Index, declared.schema.View.View}

-- ---- the whole

-- the name is that of the table which has the version and the counts, in upper or lower case
abbrev pub is_meta : List ℕ → Bool
is_meta name = same_name name (codes "meta")

-- each table, index and view that was there is there still, and each table but that one has the rows that it had
pub record KeepsOthers (old new : Database) : Type 0 where
  pub tables : (t : Table) → Has old.schema.tables t → Has new.schema.tables t
  pub rows : (t : Table) → Has old.schema.tables t → is_meta t.name ≡ false → new.trees t.tree ≡ old.trees t.tree
  pub indexes : (i : Index) → Has old.schema.indexes i → Has new.schema.indexes i
  pub views : (v : View) → Has old.schema.views v → Has new.schema.views v

-- no table of the file has that name
abbrev pub LacksMeta : Schema → Type 0
LacksMeta schema = (t : Table) → Has schema.tables t → is_meta t.name ≡ false

-- the table of that name shares its tree with none, and no table refers to it
pub record HasMetaApart (schema : Schema) : Type 0 where
  pub apart : (m t : Table) → Has schema.tables m → Has schema.tables t → is_meta m.name ≡ true → is_meta t.name ≡ false
      → m.tree ≢ t.tree
  pub unreferred : (t : Table) (r : Reference) → Has schema.tables t → Has t.references r → is_meta r.parent ≡ false
