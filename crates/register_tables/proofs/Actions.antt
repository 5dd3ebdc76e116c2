-- Which actions of foreign keys a write of a table sets off.
use Rattle.std.proofs.Common.{◌≡◌, inl, inr, ◌==◌, ℕ, List, [], ◌∷◌, Bool, cond, false, arith}
use Rattle.std.proofs.lemmas.Bool.{cases_Bool, eq-eqb, eqb-true}
use Rattle.sqlite.specs.{Order.Row, Program.overlay, Tree.Trees}
use Rattle.sqlite_rules.specs.Action.{Work, works}
use Rattle.sqlite_schema.specs.{Names.same_name, declared.schema.Keys.TheVariants.Enforced}
use Rattle.sqlite_value.specs.Keys.{joined, plain}
use Rattle.sql_steps.proofs.Cascading.{orphans, some_lose}
use Rattle.register_tables.specs.Tables.{Layout, to_custodian, place_of}
use Rattle.register_tables.specs.{declared.table.TableName.TableName, declared.table.TableName.TheVariants.Custodian}
use Rattle.register_tables.specs.Within.Tables.{custodian, approval}
use Rattle.register_tables.specs.Schema.{schema_with}
use Rattle.register_tables.proofs.EachTable.{AreApart, apart_all}

-- a query with no tables of its own asks each tree of the database
pub shows_all : (db : Trees) (tree : ℕ) → overlay db [] tree ≡ db tree
shows_all db tree = search arith

module _ (l : Layout) where
  abbrev orphaned : List Row → Work
  orphaned = orphans (schema_with l) (custodian l) (approval l) to_custodian (1 ∷ 2 ∷ []) plain

  abbrev loses_some : List Row → Bool
  loses_some = some_lose (schema_with l) (custodian l) (approval l) to_custodian (1 ∷ 2 ∷ []) plain

  module _ (apart : AreApart l) where
    -- that of custodians is no other table's
    other_tree : (name : TableName) → (place_of Custodian == place_of name) ≡ false
        → (l.tree Custodian == l.tree name) ≡ false
    other_tree name other = elim (cases_Bool (l.tree Custodian == l.tree name)) [
      | inl same ↦ absurd (let both = eq-eqb _ _ (apart_all l apart Custodian name (eqb-true _ _ same)) in cc)
      | inr differs ↦ differs
    ]

    -- nothing refers to the rows of another table; or, to those of keys, with no action where one goes or changes
    pub idle : (name : TableName) → (place_of Custodian == place_of name) ≡ false → (depth : ℕ) (olds news : List Row)
        → works (schema_with l) Enforced depth (l.tree name) olds news ≡ []
    unfolding same_name joined
    idle name other depth olds news = search (arith, cases_Bool, other_tree)

    -- an INSERT sets off none
    pub custodian_idle : (news : List Row) → works (schema_with l) Enforced 0 (l.tree Custodian) [] news ≡ []
    unfolding same_name joined
    custodian_idle news = search (arith, cases_Bool, eq-eqb)

    -- the approvals of custodians that go are to be deleted
    pub custodian_drops : (olds : List Row) → works (schema_with l) Enforced 0 (l.tree Custodian) olds [] ≡ cond
        (loses_some olds) (orphaned olds ∷ []) []
    unfolding same_name joined
    custodian_drops olds = search (arith, eq-eqb)
