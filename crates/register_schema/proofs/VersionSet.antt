-- What the UPDATE of the version does, where both new tables are there and empty.
use Rattle.std.proofs.Common.{◌≡◌, map, ◌∙◌, ℕ, pos, List, [], ◌∷◌, codes, Ok, refl, sym, ap, subst, arith}
use Rattle.sqlite.specs.declared.types.Value.TheVariants.{Null, Int}
use Rattle.sqlite.specs.Collation.TheVariants.{Binary}
use Rattle.sqlite.specs.Term.{Term, lit, col, op2}
use Rattle.sqlite.specs.{Effect.Database, Order.Row as Cells, State.State, State.Executes, Tree.IsTable}
use Rattle.sqlite_resolve.specs.Compile.{first}
use Rattle.sqlite_sql.specs.{declared.ops.BinaryOp.TheVariants.Compare, declared.ops.CompareOp.TheVariants.Eq}
use Rattle.sqlite_tied.specs.Compute.{everything}
use Rattle.sql_steps.proofs.Changing as changing
use Rattle.sql_steps.proofs.Statements.{plain_query, cast_int, cast_null}
use Rattle.sql_steps.proofs.{Queries.compares, Written.Wrote}
use Rattle.register_requests.specs.declared.version.Version.TheVariants.{First}
use Rattle.register_requests.specs.{declared.version.Version.Version, Version.current}
use Rattle.register_tables.specs.declared.table.TableName.TheVariants.{Meta, Keys, Custodian, Approval, Request, Period}
use Rattle.register_tables.specs.declared.table.TableName.TheVariants.{Quorum}
use Rattle.register_schema.specs.Within.Migration.{HasTablesBelow, SetsVersion}
use Rattle.register_tables.specs.Schema.{HoldsIn, schema_with, table_rows}
use Rattle.register_tables.specs.Tables.{Counts, Layout, Tables, content, counts_row_in, fresh, place_of, version}
use Rattle.register_tables.specs.Within.Tables.{Shows, meta}
use Rattle.register_tables.specs.declared.table.TableName.{TableName}
use Rattle.register_tables.proofs.EachTable.{AreApart, apart_all}
use Rattle.register_tables.proofs.Meanings.{Sets, classes, placed_in, sets}
use Rattle.register_tables.proofs.Actions.{idle, shows_all}
use Rattle.register_tables.proofs.{EntryRows.keyed_none, Frame.rows_kept}

abbrev pub version_text : List ℕ
version_text = codes "UPDATE meta SET version = ?1 WHERE id = 1"

-- the version
abbrev pub version_params : Cells
version_params = Int (pos version) ∷ []

abbrev passes : List Term
passes = op2 (Compare Eq Binary) (col 1 0) (lit (Int (pos 1))) ∷ []

abbrev shown : List Term
shown = col 1 0 ∷ lit Null ∷ col 0 0 ∷ col 1 3 ∷ col 1 4 ∷ []

sets_version : (l : Layout)
    → Sets (schema_with l) (meta l) (place_of Meta) version_text (plain_query (l.tree Meta) passes (col 1 0 ∷ shown))
unfolding everything first
sets_version l = record { p = _; name = _; sets = _; check = _; d = _; parsed = refl; untimed = refl; is = refl; named = refl; there = refl; drafted = refl; same = refl; from = refl; accepted = refl }

-- a row of meta with its version
abbrev enc : Version × Counts → Cells
enc row = counts_row_in row.0 row.1

abbrev second : Version × Counts → Version × Counts
second row = (current, row.1)

abbrev changed : Version × Counts → Version × Counts
changed = changing.changed enc (λ _. pos 1) (λ _. refl) (meta (fresh [])) version_params passes shown second

changed_is : (row : Version × Counts) → changed row ≡ second row
changed_is row = rw (compares Eq (pos 1) (pos 1))

module _ (old new : State) (count : ℕ) (h : Executes version_text version_params old new (Ok count)) (t : Tables)
    (has : HasTablesBelow 7 t old.now) where
  abbrev l : Layout
  l = has.layout

  apart : AreApart l
  apart = has.apart

  wrote : Wrote (schema_with l) (l.tree Meta) (map enc (map changed ((First, t.counts) ∷ []))) old.now new.now
  wrote =
      let m = sets (schema_with l) (meta l) (classes l (placed_in l old.now has.schema apart has.sound) Meta) _ _ _
      (sets_version l) in
      let row : table_rows l Meta old.now ≡ counts_row_in First t.counts ∷ [] = has.shown Meta (omega arith) in
      changing.changes enc (λ _. pos 1) (λ _. refl) (meta l) version_params passes shown second version_text
      (schema_with l) (place_of Meta) refl
      m.is m.plain (idle l apart Meta refl 0) (λ db. shows_all db (l.tree Meta)) (λ row. simp (cast_int, cast_null))
      (λ row. refl)
      old new count h has.schema ((First, t.counts) ∷ []) row (subst IsTable (sym row) (tt, tt))

  other : (name : TableName) → (place_of name ≡ place_of Meta → ⊥) → table_rows l name new.now ≡ table_rows l name old.now
  other name off =
      rows_kept l (λ (tree : ℕ). tree ≡ l.tree Meta) old.now new.now wrote.kept name
      (λ same. off (apart_all l apart name Meta same))

  shown_now : (name : TableName) → Shows name (content name t) (table_rows l name new.now)
  shown_now Meta = wrote.rows_are ∙ ap (λ row. enc row ∷ []) (changed_is (First, t.counts))
  shown_now Period = search (arith, other, keyed_none)
  shown_now Quorum = grind (arith, other, keyed_none)
  shown_now Keys =
      subst (Shows Keys t.keys) (sym (other Keys (λ e. absurd (omega (arith, e))))) (has.shown Keys (omega arith))
  shown_now Custodian =
      subst (Shows Custodian t.custodians) (sym (other Custodian (λ e. absurd (omega (arith, e)))))
      (has.shown Custodian (omega arith))
  shown_now Approval =
      subst (Shows Approval t.approvals) (sym (other Approval (λ e. absurd (omega (arith, e)))))
      (has.shown Approval (omega arith))
  shown_now Request =
      subst (Shows Request t.requests) (sym (other Request (λ e. absurd (omega (arith, e)))))
      (has.shown Request (omega arith))

pub sets_second : (old new : State) (count : ℕ) → Executes version_text version_params old new (Ok count)
    → SetsVersion old.now new.now
sets_second old new count h t has =
    let did = wrote old new count h t has in
    record {
      schema = record { layout = has.layout; apart = apart old new count h t has; is = did.kept.schema_is };
      sound = did.kept.sound;
      in_range = has.in_range;
      shown = shown_now old new count h t has;
    }

-- ---- from a register of the first version

pub begins : (t : Tables) (db : Database) → HoldsIn First t db → HasTablesBelow 5 t db
begins t db holds = record {
  layout = holds.schema.layout;
  apart = holds.schema.apart;
  schema = holds.schema.is;
  sound = holds.sound;
  in_range = holds.in_range;
  shown = λ name low. holds.shown name;
  no_periods = holds.shown Period;
  no_needs = holds.shown Quorum;
  empty = λ name past low. absurd (omega (arith, past, low));
}
