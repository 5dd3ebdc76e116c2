-- What the UPDATE of the one row of meta does.
use Rattle.std.proofs.Common.{◌≡◌, ℕ, pos, List, [], ◌∷◌, codes, Ok, refl, sym, ap, subst}
use Rattle.sqlite.specs.declared.types.Value.TheVariants.{Null, Int}
use Rattle.sqlite.specs.Term.{Term, lit, col, op2}
use Rattle.sqlite.specs.{Collation.TheVariants.Binary, Order.Row as Cells, State.State, State.Executes, Tree.IsTable}
use Rattle.sqlite_sql.specs.{declared.ops.BinaryOp.TheVariants.Compare, declared.ops.CompareOp.TheVariants.Eq}
use Rattle.sqlite_tied.specs.Compute.{everything}
use Rattle.sql_steps.proofs.Changing as changing
use Rattle.sql_steps.proofs.{Queries.compares, Statements.plain_query, Statements.cast_int, Statements.cast_null}
use Rattle.moment_core.specs.Moment.{IsMoment}
use Rattle.register_tables.specs.Tables.{Layout, fresh, place_of, Counts}
use Rattle.register_rows.specs.Within.TableChanges.{Always, with_counts}
use Rattle.register_tables.specs.{declared.table.TableName.TheVariants.Meta, Within.Tables.meta}
use Rattle.register_tables.specs.Schema.{schema_with, table_rows}
use Rattle.register_tables.specs.{Within.Tables.counts_row, TableChanges.Makes}
use Rattle.register_tables.proofs.Meanings.{Sets, classes, placed, sets}
use Rattle.register_tables.proofs.Actions.{idle, shows_all}
use Rattle.register_tables.proofs.Frame.{holds_with}
use Rattle.sqlite_resolve.specs.Compile.{first}

abbrev pub counts_text : List ℕ
counts_text = codes "UPDATE meta SET latest = ?1, key_count = ?2 WHERE id = 1"

abbrev passes : List Term
passes = op2 (Compare Eq Binary) (col 1 0) (lit (Int (pos 1))) ∷ []

abbrev shown : List Term
shown = col 1 0 ∷ lit Null ∷ col 1 2 ∷ col 0 0 ∷ col 0 1 ∷ []

sets_counts : (l : Layout) → Sets (schema_with l) (meta l) (place_of Meta) counts_text
    (plain_query (l.tree Meta) passes (col 1 0 ∷ shown))
unfolding everything first
sets_counts l = record { p = _; name = _; sets = _; check = _; d = _; parsed = refl; untimed = refl; is = refl; named = refl; there = refl; drafted = refl; same = refl; from = refl; accepted = refl }

module _ (latest key_count : ℕ) where
  abbrev pub params : Cells
  params = Int (pos latest) ∷ Int (pos key_count) ∷ []

  abbrev after : Counts
  after = record { latest = latest; key_count = key_count }

  abbrev changed : Counts → Counts
  changed = changing.changed counts_row (λ _. pos 1) (λ _. refl) (meta (fresh [])) params passes shown (λ _. after)

  changed_is : (counts : Counts) → changed counts ≡ after
  changed_is counts = rw (compares Eq (pos 1) (pos 1))

  pub records : IsMoment latest → (old new : State) (count : ℕ) → Executes counts_text params old new (Ok count)
      → Makes Always (with_counts latest key_count) old.now new.now
  records in_range old new count h t holds always =
      let l = holds.schema.layout in
      let m = sets (schema_with l) (meta l) (classes l (placed t old.now holds) Meta) _ _ _ (sets_counts l) in
      let ordered : IsTable (table_rows l Meta old.now) = subst IsTable (sym (holds.shown Meta)) (tt, tt) in
      let wrote = changing.changes counts_row (λ _. pos 1) (λ _. refl) (meta l) params passes shown (λ _. after)
      counts_text (schema_with l) (place_of Meta) refl
      m.is m.plain (idle l holds.schema.apart Meta refl 0) (λ db. shows_all db (l.tree Meta))
      (λ counts. simp (cast_int, cast_null)) (λ counts. refl)
      old new count h holds.schema.is (t.counts ∷ []) (holds.shown Meta) ordered in
      holds_with Meta after t old.now new.now _ holds wrote in_range
      (ap (λ counts. counts_row counts ∷ []) (changed_is t.counts))
