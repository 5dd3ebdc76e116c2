-- A statement that writes one table leaves every other as it was: so it proves its own table alone.
use Rattle.std.proofs.Common.{◌≡◌, ℕ, sym, subst, arith}
use Rattle.sqlite.specs.{Effect.Database, Order.Row as Cells}
use Rattle.sqlite_rules.proofs.ListLemmas.{all_has}
use Rattle.sql_steps.proofs.Written.{Kept, Wrote}
use Rattle.std.specs.Prelude.{List}
use Rattle.register_tables.specs.Tables.{Layout, Tables, Content, with_content, IsInRange}
use Rattle.register_tables.specs.Schema.{schema_with, Holds, table_rows}
use Rattle.register_tables.specs.{declared.table.TableName.TableName, Within.Tables.Shows}
use Rattle.register_tables.proofs.EachTable.{each, content_with}

module _ (l : Layout) (written : ℕ → Type 0) (old new : Database) (kept : Kept (schema_with l) written old new) where
  -- a table that was not written has its rows
  pub rows_kept : (name : TableName) → (written (l.tree name) → ⊥) → table_rows l name new ≡ table_rows l name old
  rows_kept name free = search (arith, each, all_has)

-- the tables with another content of this one
pub holds_with : (name : TableName) (c : Content name) (t : Tables) (old new : Database) (rows : List Cells)
    (holds : Holds t old) → Wrote (schema_with holds.schema.layout) (holds.schema.layout.tree name) rows old new
    → IsInRange name c → Shows name c rows → Holds (with_content name c t) new
holds_with name c t old new rows holds wrote in_range shows =
    let l = holds.schema.layout in
    let kept = rows_kept l (λ (tree : ℕ). tree ≡ l.tree name) old new wrote.kept in
    record {
      schema = record { layout = l; apart = holds.schema.apart; is = wrote.kept.schema_is };
      sound = wrote.kept.sound;
      in_range = λ other. content_with IsInRange name other c t in_range (λ apart. holds.in_range other);
      shown = λ other. content_with (λ n held. Shows n held (table_rows l n new)) name other c t
          (subst (Shows name c) (sym wrote.rows_are) shows)
          (search arith);
    }
