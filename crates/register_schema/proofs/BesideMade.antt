-- What a CREATE TABLE and a CREATE INDEX leave beside what they make, whatever the schema is.
use Rattle.std.proofs.Common.{◌≡◌, ◌≤◌, inl, inr, ℕ, ◌+◌, Bool, true, false, List, [], ◌∷◌, ◌++◌, None, Ok, refl, sym}
use Rattle.std.proofs.Common.{ap, subst, ◌∙◌, arith}
use Rattle.std.specs.Prelude.{fold, max, slice_range, slice_get}
use Rattle.sqlite.specs.Change.{created, indexed, next_tree}
use Rattle.sqlite.specs.Command.TheVariants.{CreateTable as MakeTable, CreateIndex as MakeIndex}
use Rattle.sqlite.specs.Does.{Defines, MakesIndex, MakesSequence, Tally, lacks_sequence, sequence_text}
use Rattle.sqlite.specs.State.{State, Executes, Writes, mode_of}
use Rattle.sqlite.specs.{Compile.table_defined_by, Effect.Database, Schema.Schema, Order.Row, Table.Table}
use Rattle.sqlite_rules.proofs.ListLemmas.{all_has, has_left, has_either}
use Rattle.sqlite_schema.specs.declared.schema.Index.{Index}
use Rattle.sqlite_ast.specs.{declared.CreateIndex.CreateIndex, declared.CreateTable.CreateTable}
use Rattle.sqlite_ast.specs.declared.Statement.TheVariants as written
use Rattle.sqlite_catalog.specs.Calls.{CreatesIndex, CreatesTable}
use Rattle.sqlite_resolve.specs.Compile.{first}
use Rattle.sqlite_syntax.specs.declared.statement.Parsed.{Parsed}
use Rattle.sql_steps.proofs.Statements.{same_value, went}
use Rattle.register_tables.specs.Within.Beside.{Adds}
use Rattle.register_schema.proofs.BesideShapes.{MakesIndex as Makes, MakesTable, at_place, index_understood, ran_as}
use Rattle.register_schema.proofs.BesideShapes.{table_understood}
use Rattle.register_schema.proofs.NextTexts.{IsText}

module _ (P : Table → Type 0) where
  pub adds_none : (old new : Database) → new ≡ old → Adds P old new
  adds_none old new same = search arith

  pub adds_then : (old mid new : Database) → Adds P old mid → Adds P mid new → Adds P old new
  adds_then old mid new a b = search arith

-- ---- what CREATE makes of a database

more_trees : {X : Type 0} (tree : X → ℕ) (xs ys : List X) (n m : ℕ) → n ≤ m
    → fold (λ k x. max k (tree x + 1)) n xs ≤ fold (λ k x. max k (tree x + 1)) m (xs ++ ys)
more_trees tree [] [] n m low = low
more_trees tree [] (y ∷ ys) n m low = more_trees tree [] ys n (max m (tree y + 1)) (omega (arith, low))
more_trees tree (x ∷ xs) ys n m low =
    more_trees tree xs ys (max n (tree x + 1)) (max m (tree x + 1)) (omega (arith, low))

table_higher : (s : Schema) (x : Table) → next_tree s ≤ next_tree (created s x)
table_higher s x =
    more_trees (λ (i : Index). i.tree) s.indexes _ _ _ (more_trees (λ (t : Table). t.tree) s.tables _ _ _ (omega arith))

index_higher : (s : Schema) (t : Table) (i : Index) → next_tree s ≤ next_tree (indexed s t i)
index_higher s t i = more_trees (λ (j : Index). j.tree) s.indexes _ _ _ (omega arith)

module _ (P : Table → Type 0) where
  pub adds_created : (old new : Database) (sql : List ℕ)
      (made : CreatesTable old.schema sql old.trees new.schema new.trees)
      → P made.table → Adds P old new
  adds_created old new sql made holds = search (arith, has_left, all_has, has_either, table_higher)

  pub adds_index : (old new : Database) (table : Table) (sql : List ℕ)
      (made : CreatesIndex old.schema table sql old.trees new.schema new.trees) → Adds P old new
  adds_index old new table sql made = search (arith, all_has, has_left, index_higher)

  -- ---- what the statements do

  -- a table that the database makes by itself, which counts for others
  module _ (sequence : Table) (counts : table_defined_by sequence_text ≡ Ok sequence) (of_sequence : P sequence) where
    sequenced : (mid after : Database) → MakesSequence mid (Ok after) → Adds P mid after
    sequenced mid after h = by (lacks_sequence mid.schema) refl
      where
        by : (b : Bool) → lacks_sequence mid.schema ≡ b → Adds P mid after
        by true is =
            let made : CreatesTable mid.schema sequence_text mid.trees after.schema after.trees = rw is at h in
            let same : sequence ≡ made.table = same_value (sym counts ∙ made.defined) in
            adds_created mid after sequence_text made (subst P same of_sequence)
        by false is =
            let given : Ok after ≡ Ok mid = rw is at h in adds_none P mid after (same_value given)

    module _ (text : List ℕ) (p : Parsed) (def : CreateTable) (table : Table) (t : IsText text p def table)
        (whole : slice_range text p.start p.end ≡ text) (defined : table_defined_by text ≡ Ok table)
        (holds : P table) where
      made_table : (old new : State) (params : Row) (count : ℕ) → Writes old new None MakeTable text params count
          → Adds P old.now new.now
      made_table old new params count w =
          let all = went w.changed in
          let parts = went all.1 in
          let made : CreatesTable old.now.schema text old.now.trees parts.0.schema parts.0.trees = parts.1 in
          let same : table ≡ made.table = same_value (sym defined ∙ made.defined) in
          let now : new.now ≡ all.0 = ap (λ (p : Tally × Database). p.1) (same_value all.2) in
          subst (Adds P old.now) (sym now)
          (adds_then P old.now parts.0 all.0 (adds_created old.now parts.0 text made (subst P same holds))
          (sequenced parts.0 all.0 parts.2))

      pub adds_by_table : (old new : State) (count : ℕ) → Executes text [] old new (Ok count) → Adds P old.now new.now
      adds_by_table old new count h =
          let ran =
          ran_as text p (MakesTable text p def table t) (table_understood text p def table t) old new [] count h in
          elim ran.1 [
            | inl is ↦ made_table old new ran.2 count (rw (is, whole) at ran.3)
            | inr is ↦ let idle = rw is at ran.3 in adds_none P old.now new.now idle.0.0.now_is
          ]

  module _ (text : List ℕ) (p : Parsed) (def : CreateIndex) (parsed : first text ≡ Ok p)
      (is_index : p.statement ≡ written.CreateIndex def) where
    made_index : (old new : State) (at : ℕ) (sql : List ℕ) (params : Row) (count : ℕ)
        → Writes old new None (MakeIndex at) sql params count → Adds P old.now new.now
    made_index old new at sql params count w =
        let table =
        at_place (λ t. Defines (mode_of old) (MakesIndex sql old.now t)) (slice_get old.now.schema.tables at) _
        w.changed in
        let all = went table.2 in
        let made : CreatesIndex old.now.schema table.0 sql old.now.trees all.0.schema all.0.trees = all.1 in
        let now : new.now ≡ all.0 = ap (λ (p : Tally × Database). p.1) (same_value all.2) in
        subst (Adds P old.now) (sym now) (adds_index old.now all.0 table.0 sql made)

    pub adds_by_index : (old new : State) (count : ℕ) → Executes text [] old new (Ok count) → Adds P old.now new.now
    adds_by_index old new count h =
        let ran =
        ran_as text p (Makes text p def parsed is_index) (index_understood text p def parsed is_index) old new []
        count h in search (arith, made_index, adds_none)
