-- What a DELETE does that sets off no action.
use Rattle.std.proofs.Common.{◌≡◌, ℕ, List, [], filter, not, slice_get, false, Some, Ok, subst, arith}
use Rattle.std.specs.List.Sorted.{IsPermutation}
use Rattle.sqlite.specs.State.{State, mode_of, Executes}
use Rattle.sqlite.specs.{Command.TheVariants.Delete, Edit.taken_by, Listing.understood, Order.Row, Program.overlay}
use Rattle.sqlite.specs.{Schema.Schema, Table.Table, Term.Term, Tree.Trees, Tree.IsTable}
use Rattle.sqlite.proofs.Callers.{IsPlain, command_of, statement_of, runs_as, one_step}
use Rattle.sqlite_rules.specs.Action.{works}
use Rattle.sqlite_schema.specs.declared.schema.Keys.TheVariants.{Enforced}
use Rattle.sql_steps.proofs.Statements.{plain_query, picked, is_picked, answers, deletes, deleted}
use Rattle.sql_steps.proofs.{Appending.AreCounted, Deletes.ids_shown, Deletes.left, Written.Wrote}

module _ (base : Table) (params : Row) (passes : List Term) where
  -- a table with no AUTOINCREMENT
  abbrev table : Table
  table = record base { is_counted = false }

  -- the rows that pass go, and no other table changes; the new database is sound
  pub removes : (sql : List ℕ) (schema : Schema) (at : ℕ) → slice_get schema.tables at ≡ Some table
      → command_of (understood schema sql)
      ≡ Delete at (record { lets = []; body = plain_query table.tree passes ids_shown })
      → IsPlain (understood schema sql)
      → ((olds : List Row) → works schema Enforced 0 table.tree olds [] ≡ [])
      → ((db : Trees) → overlay db [] table.tree ≡ db table.tree)
      → (old new : State) (count : ℕ) → Executes sql params old new (Ok count) → old.now.schema ≡ schema
      → IsTable (old.now.trees table.tree) → AreCounted (old.now.trees table.tree)
      → Wrote schema table.tree
      (filter (λ r. not (is_picked params table.tree passes ids_shown r)) (old.now.trees table.tree)) old.now new.now
  removes sql schema at there is plain idle low old new count h has ordered counted =
      let q = plain_query table.tree passes ids_shown in
      let w = runs_as sql params old new schema has (Delete at (record { lets = []; body = q })) is plain count h in
      let text = statement_of sql (understood schema sql) in
      let did = deletes old.step_limit (mode_of old) params old.now schema has at base there q text w.tally new.now
      w.changed in
      let all : IsPermutation (picked params table.tree passes ids_shown (old.now.trees table.tree)) did.1 =
      subst (λ rs. IsPermutation (picked params table.tree passes ids_shown rs) did.1) (low old.now.trees)
      (answers params table.tree passes ids_shown (overlay old.now.trees []) did.1 did.2) in
      let edit = deleted old.step_limit (mode_of old) params old.now schema has at base did.1 in
      let applies = one_step schema Enforced old.now.trees new.now.trees edit (idle (taken_by old.now.trees edit))
      did.3 in
      let rest = left params table.tree passes (old.now.trees table.tree) ordered counted did.1 all in search arith
