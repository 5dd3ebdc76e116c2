-- What the statements that make the two tables of the second version do, whatever trees the file has.
use Rattle.std.proofs.Common.{◌≡◌, ◌⊎◌, ◌<◌, ◌≤◌, ℕ, ◌+◌, max, false, Option, None, Some, List, inl, inr, [], ◌∷◌, ◌++◌}
use Rattle.std.proofs.Common.{fold, Ok, Err, refl, sym, ap, subst, ◌∙◌, arith}
use Rattle.std.proofs.lemmas.Bool.{cases_Bool, cases_lt, eq-eqb, eqb-true}
use Rattle.sqlite.specs.Change.{created, next_tree, KeepsRows}
use Rattle.sqlite.specs.State.{State, Executes, ExecutesIn}
use Rattle.sqlite.specs.{Command.TheVariants.CreateTable as MakeTable, Does.lacks_sequence, Effect.Database}
use Rattle.sqlite.specs.{Effect.IsDatabase, Listing.understood, Schema.Schema, Table.Table}
use Rattle.sqlite.proofs.Callers.{IsPlain, command_of, runs_as, statement_of}
use Rattle.sqlite_resolve.specs.declared.error.CompileError.TheVariants.{Exists}
use Rattle.sqlite_resolve.specs.{Compile.is_attached, declared.error.CompileError.CompileError}
use Rattle.sqlite_rules.proofs.ListLemmas.{all_has}
use Rattle.sqlite_rules.specs.Lists.{Has}
use Rattle.sqlite_schema.specs.{declared.schema.Index.Index, Names.table_named, Names.index_named, Names.view_named}
use Rattle.sqlite_tied.specs.Compute.{everything}
use Rattle.sql_steps.specs.Within.{Created}
use Rattle.sql_steps.proofs.Creating.{makes}
use Rattle.register_tables.specs.declared.table.TableName.TheVariants.{Meta, Keys, Custodian, Approval, Request, Period}
use Rattle.register_tables.specs.declared.table.TableName.TheVariants.{Quorum}
use Rattle.register_tables.specs.Schema.{table_rows, schema_below}
use Rattle.register_tables.specs.Tables.{AreApartBelow, Layout, place_of, table_count, create_statement}
use Rattle.register_tables.specs.declared.table.TableName.{TableName}
use Rattle.register_schema.specs.Within.Migration.{MakesNext}
use Rattle.register_requests.specs.declared.version.Version.TheVariants.{First}
use Rattle.register_schema.proofs.TableTexts.{def_of, parsed, whole_is}
use Rattle.register_tables.proofs.EachTable.{unplaced, same_place}
use Rattle.register_schema.proofs.NextTexts.{makes_table, refused}

-- one of the two tables
abbrev IsNew : TableName → Type 0
IsNew Period = Unit {0}
IsNew Quorum = Unit {0}
IsNew _ = ⊥

-- ---- what the texts come to

record IsFree (name : TableName) (s : Schema) : Type 0 where
  bare : is_attached s (def_of name).name ≡ false
  no_table : table_named s (def_of name).name ≡ None
  no_view : view_named s (def_of name).name ≡ None

-- the schema in which the table is made
abbrev before : TableName → Layout → Schema
before name l = schema_below (place_of name) l

is_free : (name : TableName) → IsNew name → (l : Layout) → IsFree name (before name l)
unfolding everything
is_free Period is l = record { bare = refl; no_table = refl; no_view = refl }
is_free Quorum is l = record { bare = refl; no_table = refl; no_view = refl }
is_free name is l = absurd is

uncounted : (name : TableName) → IsNew name → (l : Layout) → lacks_sequence (created (before name l) (unplaced name))
    ≡ false
uncounted name is l = search arith

not_executed : (text : List ℕ) (old new : State) (count : ℕ) (s : Schema) (e : CompileError) → old.now.schema ≡ s
    → understood s text ≡ Err e → Executes text [] old new (Ok count) → ⊥
unfolding ExecutesIn
not_executed text old new count s e has is h = let known = sym h.1.is ∙ ap (λ x. understood x text) has ∙ is in cc

-- where an index has the table's name the statement is refused, and else it makes the table
creates : (name : TableName) → IsNew name → (l : Layout) (old new : State) (count : ℕ)
    → Executes (create_statement name) [] old new (Ok count) → old.now.schema ≡ before name l
    → Created (before name l) (unplaced name) old.now new.now × IsDatabase new.now
creates name is l old new count h has = by (index_named (before name l) (def_of name).name) refl
  where
    s : Schema
    s = before name l

    by : (o : Option ℕ) → index_named s (def_of name).name ≡ o → Created s (unplaced name) old.now new.now
        × IsDatabase new.now
    by None none =
        let free = is_free name is l in
        let it = whole_is name in
        let known = makes_table (create_statement name) (parsed name) (def_of name) (unplaced name) it.text s
        free.bare free.no_table free.no_view none in
        let plain : IsPlain (understood s (create_statement name)) = subst IsPlain (sym known) (refl, refl) in
        let whole = ap (statement_of (create_statement name)) known ∙ it.whole in
        let w = runs_as (create_statement name) [] old new s has MakeTable (ap command_of known) plain count h in (
          makes s (unplaced name) (create_statement name) (ap command_of known) whole plain (unplaced name) it.defined refl
              (uncounted name is l) old new count h has,
          w.sound,
        )
    by (Some n) some =
        let free = is_free name is l in
        absurd (not_executed (create_statement name) old new count s Exists has
        (refused (create_statement name) (parsed name) (def_of name) (unplaced name) (whole_is name).text s free.bare
        free.no_table free.no_view n some) h)

-- ---- trees

no_lower : (indexes : List Index) (n : ℕ) → n ≤ fold (λ m (i : Index). max m (i.tree + 1)) n indexes
no_lower [] n = omega arith
no_lower (i ∷ indexes) n = omega (arith, no_lower indexes (max n (i.tree + 1)))

none_lower : (tables : List Table) (n : ℕ) → n ≤ fold (λ m (t : Table). max m (t.tree + 1)) n tables
none_lower [] n = omega arith
none_lower (t ∷ tables) n = omega (arith, none_lower tables (max n (t.tree + 1)))

below_in : (tables : List Table) (n : ℕ) (t : Table) → Has tables t
    → t.tree < fold (λ m (t : Table). max m (t.tree + 1)) n tables
below_in [] n t h = absurd h
below_in (x ∷ tables) n t (inl same) = search (arith, none_lower, max)
below_in (x ∷ tables) n t (inr later) = below_in tables (max n (x.tree + 1)) t later

-- each table of the schema is below the next tree
pub below_next : (s : Schema) (t : Table) → Has s.tables t → t.tree < next_tree s
below_next s t h = search (arith, below_in, no_lower, fold, max)

-- the trees with another one of this table
abbrev tree_with : TableName → ℕ → Layout → TableName → ℕ
tree_with Period n l Period = n
tree_with Quorum n l Quorum = n
tree_with name n l other = l.tree other

abbrev layout_with : TableName → Layout → Layout
layout_with name l = record {
  tree = tree_with name (next_tree (before name l)) l;
  key_tree = l.key_tree;
  more = l.more ++ [];
}

-- the table is the last of the schema
schema_is : (name : TableName) → IsNew name → (l : Layout)
    → created (before name l) (unplaced name) ≡ schema_below (place_of name + 1) (layout_with name l)
schema_is name is l = search arith

-- the tables before it stand in the schema
listed : (name : TableName) → IsNew name → (l : Layout) (other : TableName) → place_of other < place_of name
    → (t : Table) × Has (before name l).tables t × (t.tree ≡ l.tree other)
listed Period is l Meta low = (_, inl refl, refl)
listed Period is l Keys low = (_, inr (inl refl), refl)
listed Period is l Custodian low = (_, inr (inr (inl refl)), refl)
listed Period is l Approval low = (_, inr (inr (inr (inl refl))), refl)
listed Period is l Request low = (_, inr (inr (inr (inr (inl refl)))), refl)
listed Quorum is l Meta low = (_, inl refl, refl)
listed Quorum is l Keys low = (_, inr (inl refl), refl)
listed Quorum is l Custodian low = (_, inr (inr (inl refl)), refl)
listed Quorum is l Approval low = (_, inr (inr (inr (inl refl))), refl)
listed Quorum is l Request low = (_, inr (inr (inr (inr (inl refl)))), refl)
listed Quorum is l Period low = (_, inr (inr (inr (inr (inr (inl refl))))), refl)
listed Period is l other low = absurd (omega (arith, low))
listed Quorum is l other low = absurd (omega (arith, low))
listed name is l other low = absurd is

module _ (name : TableName) (is : IsNew name) (l : Layout) where
  abbrev next : ℕ
  next = next_tree (before name l)

  below : (other : TableName) → place_of other < place_of name → l.tree other < next
  below other low =
      let it = listed name is l other low in subst (λ n. n < next) it.2 (below_next (before name l) it.0 it.1)

  -- a table is this one, or one before it
  which : (other : TableName) → place_of other < place_of name + 1
      → (other ≡ name) ⊎ ((place_of other ≡ place_of name → ⊥) × (place_of other < place_of name))
  which other low = search (arith, cases_Bool, same_place, eqb-true, eq-eqb, cases_lt)

  apart_still : AreApartBelow (place_of name) l → AreApartBelow (place_of name + 1) (layout_with name l)
  apart_still apart a b low_a low_b same = search (arith, which, below)

  -- the rows of the tables before it stay
  rows_stay : (old new : Database) → KeepsRows (before name l).tables old.trees new.trees → (other : TableName)
      → place_of other < place_of name → (place_of other ≡ place_of name → ⊥)
      → table_rows (layout_with name l) other new ≡ table_rows l other old
  rows_stay old new kept other low off = search (arith, listed, all_has)

is_new : (name : TableName) → table_count First ≤ place_of name → IsNew name
is_new name high = search arith

pub makes_next : (name : TableName) → table_count First ≤ place_of name → (old new : State) (count : ℕ)
    → Executes (create_statement name) [] old new (Ok count) → MakesNext name old.now new.now
makes_next name high old new count h t has =
    let is = is_new name high in
    let l = has.layout in
    let both = creates name is l old new count h has.schema in
    let did = both.0 in search (arith, apart_still, schema_is, rows_stay, which)
