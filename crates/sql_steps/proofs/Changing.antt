-- What an UPDATE does that sets off no action, where the rows of its table stand for values of a type.
use Rattle.std.proofs.Common.{◌≡◌, ℕ, ℤ, List, [], ◌∷◌, map, slice_get, false, Some, Ok, subst, arith}
use Rattle.std.specs.List.Sorted.{IsPermutation}
use Rattle.sqlite.specs.{declared.types.Value.TheVariants.Int, Command.TheVariants.Update, Edit.taken_by}
use Rattle.sqlite.specs.{Listing.understood, Order.Row, Program.overlay, Schema.Schema, State.State, State.mode_of}
use Rattle.sqlite.specs.{State.Executes, Table.Table, Term.Term, Term.col, Tree.Trees, Tree.IsTable, Tree.rowid}
use Rattle.sqlite.proofs.Callers.{IsPlain, command_of, statement_of, runs_as, one_step}
use Rattle.sqlite_rules.specs.Action.{works}
use Rattle.sqlite_schema.specs.declared.schema.Keys.TheVariants.{Enforced}
use Rattle.sql_steps.proofs.Statements.{plain_query, picked, answers, updates, updated}
use Rattle.sql_steps.proofs.Written.{Wrote}
use Rattle.sql_steps.proofs.Updates as typed

module _ {A : Type 0} (enc : A → Row) (number : A → ℤ) (rowid_is : (a : A)
    → rowid (enc a) ≡ Int (number a)) (base : Table) (params : Row) (passes more : List Term) (f : A → A) where
  -- a table with no AUTOINCREMENT
  abbrev table : Table
  table = record base { is_counted = false }

  abbrev pub changed : A → A
  changed = typed.updated enc number rowid_is table params passes more f

  -- each value that passes is changed, and no other table; the new database is sound
  pub changes : (sql : List ℕ) (schema : Schema) (at : ℕ) → slice_get schema.tables at ≡ Some table
      → command_of (understood schema sql)
      ≡ Update at (record { lets = []; body = plain_query table.tree passes (col 1 0 ∷ more) })
      → IsPlain (understood schema sql)
      → ((olds news : List Row) → works schema Enforced 0 table.tree olds news ≡ [])
      → ((db : Trees) → overlay db [] table.tree ≡ db table.tree)
      → ((a : A) → typed.g enc number rowid_is table params passes more f (enc a) ≡ enc (f a))
      → ((a : A) → number (f a) ≡ number a)
      → (old new : State) (count : ℕ) → Executes sql params old new (Ok count) → old.now.schema ≡ schema
      → (items : List A) → old.now.trees table.tree ≡ map enc items → IsTable (old.now.trees table.tree)
      → Wrote schema table.tree (map enc (map changed items)) old.now new.now
  changes sql schema at there is plain idle low image same old new count h has items rows ordered =
      let q = plain_query table.tree passes (col 1 0 ∷ more) in
      let w = runs_as sql params old new schema has (Update at (record { lets = []; body = q })) is plain count h in
      let text = statement_of sql (understood schema sql) in
      let did = updates old.step_limit (mode_of old) params old.now schema has at base there q text w.tally new.now
      w.changed in
      let all : IsPermutation (picked params table.tree passes (col 1 0 ∷ more) (old.now.trees table.tree)) did.1 =
      subst (λ rs. IsPermutation (picked params table.tree passes (col 1 0 ∷ more) rs) did.1) (low old.now.trees)
      (answers params table.tree passes (col 1 0 ∷ more) (overlay old.now.trees []) did.1 did.2) in
      let edit = updated old.step_limit (mode_of old) params old.now schema has at base did.1 in
      let applies = one_step schema Enforced old.now.trees new.now.trees edit
      (idle (taken_by old.now.trees edit) edit.news) did.3 in
      let each = typed.changes_each enc number rowid_is table params passes more f image same old.now.trees items rows
      ordered did.1 all applies.fresh in search arith
