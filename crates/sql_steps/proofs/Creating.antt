-- What a CREATE TABLE and a CREATE INDEX make, whatever the table and the index are.
use Rattle.std.proofs.Common.{◌≡◌, ℕ, List, [], slice_get, None, Some, Ok, false, sym, ap, subst, ◌∙◌, arith}
use Rattle.sqlite.specs.Command.TheVariants.{CreateTable, CreateIndex}
use Rattle.sqlite.specs.Does.{Tally, AtPlace, Defines, MakesIndex, lacks_sequence}
use Rattle.sqlite.specs.State.{State, mode_of, Writes, Executes}
use Rattle.sqlite.specs.{Change.created, Change.indexed, Compile.table_defined_by, Compile.index_defined_by}
use Rattle.sqlite.specs.{Effect.Database, Listing.understood, Schema.Schema, Table.Table}
use Rattle.sqlite.proofs.Callers.{IsPlain, command_of, statement_of, runs_as}
use Rattle.sqlite_schema.specs.declared.schema.Index.{Index}
use Rattle.sql_steps.specs.Within.{AddsTable, Indexes}
use Rattle.sql_steps.proofs.Statements.{went, same_value}

-- a CREATE that is understood makes its table; the tree that its text leaves open is the next one
module _ (before : Schema) (table : Table) (sql : List ℕ) (is : command_of (understood before sql) ≡ CreateTable)
    (whole : statement_of sql (understood before sql) ≡ sql) (plain : IsPlain (understood before sql))
    (written : Table) (defined : table_defined_by sql ≡ Ok written)
    (same : created before written ≡ created before table)
    (uncounted : lacks_sequence (created before table) ≡ false) where
  pub makes : (old new : State) (count : ℕ) → Executes sql [] old new (Ok count) → AddsTable before table old.now new.now
  makes old new count h has =
      let w = subst (λ t. Writes old new None CreateTable t [] count) whole
      (runs_as sql [] old new before has CreateTable is plain count h) in
      let all = went w.changed in
      let first = went all.1 in
      let made = first.1 in
      let both : Ok made.table ≡ Ok written = sym made.defined ∙ defined in
      let table_is : made.table ≡ written = cc in
      let schema : first.0.schema ≡ created before table = cc in
      let uncounted' : lacks_sequence first.0.schema ≡ false = ap lacks_sequence schema ∙ uncounted in
      let now : new.now ≡ first.0 = grind (arith, same_value) in search arith

-- the same of a CREATE INDEX
module _ (before : Schema) (at : ℕ) (table : Table) (there : slice_get before.tables at ≡ Some table)
    (index : Index) (sql : List ℕ) (is : command_of (understood before sql) ≡ CreateIndex at)
    (whole : statement_of sql (understood before sql) ≡ sql) (plain : IsPlain (understood before sql))
    (written : Index) (defined : index_defined_by table sql ≡ Ok written)
    (same : indexed before table written ≡ indexed before table index) where
  pub indexes : (old new : State) (count : ℕ) → Executes sql [] old new (Ok count)
      → Indexes before table index old.now new.now
  indexes old new count h has =
      let w = subst (λ t. Writes old new None (CreateIndex at) t [] count) whole
      (runs_as sql [] old new before has (CreateIndex at) is plain count h) in
      let place : slice_get old.now.schema.tables at ≡ Some table = cc in
      let all =
      went (subst
      (λ o. AtPlace (λ t. Defines (mode_of old) (MakesIndex sql old.now t)) o (Ok (w.tally, new.now))) place
      w.changed) in
      let made = all.1 in
      let both : Ok made.index ≡ Ok written = sym made.defined ∙ defined in
      let index_is : made.index ≡ written = cc in
      let schema : all.0.schema ≡ indexed before table index = cc in
      let now : new.now ≡ all.0 = ap (λ (p : Tally × Database). p.1) (same_value all.2) in search arith
