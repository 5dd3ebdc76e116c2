-- Making a register and migrating one leave what the file has beside it.
use Rattle.std.proofs.Common.{◌≡◌, ◌<◌, ℕ, true, false, List, [], codes, Option, None, Some, Result, Ok, Err, refl, sym}
use Rattle.std.proofs.Common.{ap, arith}
use Rattle.std.proofs.lemmas.Grind.{common_steps}
use Rattle.std.proofs.lemmas.Bool.{eqb-true}
use Rattle.std.proofs.lemmas.Option.{none-some, same_Some}
use Rattle.std.specs.Prelude.{find, ◌+◌, get_or, ◌∷◌}
use Rattle.std.specs.Option.{option_and_then, option_map}
use Rattle.register_tables.specs.Beside.{HasMetaApart, KeepsOthers, LacksMeta, is_meta}
use Rattle.register_tables.specs.Within.Beside.{Adds, AddsUncounted, InsertsMeta, IsMadeAs, IsUncounted, UpdatesMeta}
use Rattle.register_tables.specs.Within.Beside.{WritesMeta}
use Rattle.register_tables.specs.declared.key_index.KeyIndex.TheVariants.{Activation, Deactivation, ProtectStop}
use Rattle.register_schema.specs.Within.Creation.{MakesIndex, MakesIndexes}
use Rattle.register_tables.specs.KeyIndex.{index_text}
use Rattle.register_tables.specs.{Tables.create_statement, declared.key_index.KeyIndex.KeyIndex}
use Rattle.register_tables.specs.{declared.table.TableName.TableName, declared.table.TableName.TheVariants.Meta}
use Rattle.sqlite.specs.{Compile.table_defined_by, Does.sequence_text, Effect.Database, Order.Row, Schema.Schema}
use Rattle.sqlite.specs.{State.State, State.Executes, State.mode_of, Table.Table}
use Rattle.sqlite_ast.specs.{declared.CreateIndex.CreateIndex, declared.Statement.Statement}
use Rattle.sqlite_ast.specs.declared.Statement.TheVariants as written
use Rattle.sqlite_catalog.proofs.SoundLemmas.{lowered}
use Rattle.sqlite_resolve.specs.{Compile.first, declared.error.CompileError.CompileError}
use Rattle.sqlite_rules.proofs.ListLemmas.{has_found}
use Rattle.sqlite_rules.specs.{Action.work_by, Action.works, Lists.Has, declared.action.Deed.Deed}
use Rattle.sqlite_schema.specs.Rules.{ParentKey, declared_order, key_in, key_places, parent_key}
use Rattle.sqlite_schema.specs.{Names.same_name, declared.schema.Keys.Keys, declared.schema.Reference.Reference}
use Rattle.sqlite_value.specs.declared.keys.Order.{Order}
use Rattle.sqlite_syntax.specs.declared.statement.Parsed.{Parsed}
use Rattle.sqlite_tied.specs.Compute.{everything}
use Rattle.sql_steps.specs.Steps.{DatabaseChange, StepsBy}
use Rattle.sql_steps.proofs.Stepping.{stays, steps_as, steps_then}
use Rattle.register_schema.proofs.BesideMade.{adds_by_index, adds_by_table, adds_none, adds_then}
use Rattle.register_schema.proofs.BesideMeta.{WritesOne, filter_none, flat_none, inserts_one, updates_one}
use Rattle.register_schema.proofs.TableTexts.{def_of, parsed, read_as, whole_is}
use Rattle.register_schema.proofs.Creating.{row_params, row_text}
use Rattle.register_tables.proofs.EachTable.{unplaced}
use Rattle.register_schema.proofs.NewTables.{below_next}
use Rattle.register_schema.proofs.VersionSet.{version_params, version_text}
use Rattle.register_tables.proofs.Readings.{survives_none}

-- ---- the tables

record IsApart (name : TableName) : Type 0 where
  uncounted : IsUncounted (unplaced name)
  named : is_meta (unplaced name).name ≡ true → name ≡ Meta

apart_is : (name : TableName) → IsApart name
unfolding everything
apart_is name = search arith

unreferring : (name : TableName) (r : Reference) → Has (unplaced name).references r → is_meta r.parent ≡ false
unfolding everything
unreferring name r h = search arith

pub made_as : (name : TableName) → IsMadeAs name (unplaced name)
made_as name = search (arith, apart_is, unreferring)

-- the table that the database makes by itself, where one with AUTOINCREMENT was there without it
abbrev sequence : Result Table CompileError → Table
sequence (Ok table) = table
sequence (Err e) = unplaced Meta

abbrev counting : Table
counting = sequence (table_defined_by sequence_text)

counting_is : table_defined_by sequence_text ≡ Ok counting
unfolding everything
counting_is = refl

counting_as : (name : TableName) → IsMadeAs name counting
unfolding everything
counting_as name = search (arith, unreferring)

-- a CREATE TABLE adds its table
pub table_adds : (name : TableName) (old new : State) (count : ℕ) → Executes (create_statement name) [] old new (Ok count)
    → Adds (IsMadeAs name) old.now new.now
table_adds name =
    let w = whole_is name in search (arith, adds_by_table, counting_is, counting_as, parsed, def_of, unplaced, made_as)

-- ---- the indexes

abbrev no_index : Statement → CreateIndex
no_index (written.CreateIndex def) = def
no_index _ = record { if_missing = true; name = []; table = []; columns = []; is_unique = false }

abbrev parsed_index : KeyIndex → Parsed
parsed_index index = read_as (first (index_text index))

record IsIndexText (index : KeyIndex) : Type 0 where
  read : first (index_text index) ≡ Ok (parsed_index index)
  is : (parsed_index index).statement ≡ written.CreateIndex (no_index (parsed_index index).statement)

index_read : (index : KeyIndex) → IsIndexText index
unfolding everything
index_read Activation = record { read = refl; is = refl }
index_read Deactivation = record { read = refl; is = refl }
index_read ProtectStop = record { read = refl; is = refl }

pub index_adds : (index : KeyIndex) (old new : State) (count : ℕ) → Executes (index_text index) [] old new (Ok count)
    → AddsUncounted old.now new.now
unfolding AddsUncounted
index_adds index =
    let r = index_read index in search (arith, adds_by_index)

-- ---- the writes of `meta`

writes_meta : (old new : Database) (table : Table) → Has old.schema.tables table → is_meta table.name ≡ true
    → WritesOne table old new → WritesMeta old new
writes_meta old new table has called one = search arith

abbrev read_text : List ℕ → Parsed
read_text text = read_as (first text)

record AreRead : Type 0 where
  row : first row_text ≡ Ok (read_text row_text)
  version : first version_text ≡ Ok (read_text version_text)

are_read : AreRead
unfolding everything
are_read = record { row = refl; version = refl }

pub inserts_meta : (old new : State) (count : ℕ) → Executes row_text row_params old new (Ok count)
    → InsertsMeta old.now new.now
unfolding everything
inserts_meta old new count h uncounted =
    let it = inserts_one row_text (read_text row_text)
    (codes "meta") are_read.row _ _ refl old new row_params count uncounted h in
    writes_meta old.now new.now it.0 it.1 it.2 it.3

-- a foreign key leads to a table of the name that it gives
parent_tree : (tables : List Table) (r : Reference) (key : ParentKey) → parent_key tables r ≡ Some key
    → (t : Table) × Has tables t × (same_name t.name r.parent ≡ true) × (key.0 ≡ t.tree)
parent_tree tables r key h = by (find (λ (t : Table). same_name t.name r.parent) tables) refl
  where
    by_order : (t : Table) (places : List ℕ) (o : Option Order)
        → option_map (λ x. (t.tree, places, x)) o ≡ Some key → key.0 ≡ t.tree
    by_order t places None is = absurd (none-some _ is)
    by_order t places (Some x) is = ap (λ (k : ParentKey). k.0) (sym (same_Some _ _ is))

    by_places : (t : Table) (places : Option (List ℕ)) → option_and_then (key_in t) places ≡ Some key → key.0 ≡ t.tree
    by_places t None is = absurd (none-some _ is)
    by_places t (Some places) is = by_order t places (declared_order t places) is

    by : (o : Option Table) → find (λ (t : Table). same_name t.name r.parent) tables ≡ o
        → (t : Table) × Has tables t × (same_name t.name r.parent ≡ true) × (key.0 ≡ t.tree)
    by None is = absurd (none-some _ (rw is at h))
    by (Some t) is =
        let has = has_found (λ (t : Table). same_name t.name r.parent) tables t is in
        (t, has.0, has.1, by_places t (key_places t r.parent_columns) (rw is at h))

-- a table of a name that is not `meta` is not called so
other_name : (t : Table) (name : List ℕ) → same_name t.name name ≡ true → is_meta name ≡ false → is_meta t.name ≡ false
other_name t name same other = search (arith, lowered)

-- so no change of `meta` sets off an action
module _ (s : Schema) (apart : HasMetaApart s) (m : Table) (has : Has s.tables m) (called : is_meta m.name ≡ true) where
  work_none : (child : Table) → Has s.tables child → (r : Reference) → Has child.references r
      → (moves : List (Row × Row))
      (deed : Option Deed) (key : Option ParentKey) → parent_key s.tables r ≡ key
      → work_by 0 m.tree moves child r deed key ≡ None
  work_none child h r k moves deed key is = search (arith, parent_tree, other_name, eqb-true)

  idle_update : (keys : Keys) (olds news : List Row) → works s keys 0 m.tree olds news ≡ []
  idle_update keys olds news = search (arith, flat_none, filter_none, work_none)

pub updates_meta : (old new : State) (count : ℕ) → Executes version_text version_params old new (Ok count)
    → UpdatesMeta old.now new.now
unfolding everything
updates_meta old new count h apart =
    let it = updates_one version_text (read_text version_text)
    (codes "meta") are_read.version _ _ refl old new version_params count
    (λ t has called olds news. idle_update old.now.schema apart t has called (mode_of old).keys olds news) h in
    writes_meta old.now new.now it.0 it.1 it.2 it.3

-- ---- the whole

pub adds_weaker : (P Q : Table → Type 0) → ((x : Table) → P x → Q x) → (old new : Database) → Adds P old new
    → Adds Q old new
adds_weaker P Q weaker old new a = search arith

pub makes_beside : (old some mid new : Database) → AddsUncounted old some → AddsUncounted some mid → InsertsMeta mid new
    → LacksMeta old.schema → KeepsOthers old new
unfolding AddsUncounted
makes_beside old some mid new tables indexes inserts lacks = search (arith, adds_then, below_next)

-- a table that is none of the name `meta`, and refers to none
pub record IsOther (x : Table) : Type 0 where
  named : is_meta x.name ≡ false
  unreferring : (r : Reference) → Has x.references r → is_meta r.parent ≡ false

other_made : (name : TableName) → (name ≡ Meta → ⊥) → (x : Table) → IsMadeAs name x → IsOther x
other_made name off x it = search (arith, unreferring)

stays_apart : (old mid : Database) → Adds IsOther old mid → HasMetaApart old.schema → HasMetaApart mid.schema
stays_apart old mid a it = search (arith, below_next)

pub migrates_beside : (old mid new : Database) → Adds IsOther old mid → UpdatesMeta mid new → HasMetaApart old.schema
    → KeepsOthers old new
migrates_beside old mid new a updates it = search (arith, stays_apart)

pub adds_other : (name : TableName) → (name ≡ Meta → ⊥) → (old new : Database) → Adds (IsMadeAs name) old new
    → Adds IsOther old new
adds_other name off old new a = adds_weaker (IsMadeAs name) IsOther (other_made name off) old new a

-- ---- a step of which two things are known

pub steps_both : {A B D E F G : Type 0} (First : A → DatabaseChange) (Other : B → DatabaseChange) (Next : D → DatabaseChange)
    (a b : State) (x : A)
    (y : B) (z : D) → ((old new : Database) → First x old new → Other y old new → Next z old new)
    → StepsBy {E = E} First a b (Ok x) → StepsBy {E = F} Other a b (Ok y) → StepsBy {E = G} Next a b (Ok z)
steps_both First Other Next a b x y z weaker one two = search arith

-- what was added, and then a table more
pub adds_more : {E : Type 0} (name : TableName) (a b d : State) (y : Unit {0})
    → StepsBy {T = Unit {0}} {E = E} (λ _. AddsUncounted) a b (Ok tt)
    → StepsBy {T = Unit {0}} {E = E} (λ _. Adds (IsMadeAs name)) b d (Ok y)
    → StepsBy {T = Unit {0}} {E = E} (λ _. AddsUncounted) a d (Ok tt)
unfolding AddsUncounted
adds_more name a b d y before one = search (arith, steps_as, adds_then, adds_weaker, steps_then)

-- and an index more
pub adds_again : {E : Type 0} (a b d : State) (y : Unit {0})
    → StepsBy {T = Unit {0}} {E = E} (λ _. AddsUncounted) a b (Ok tt)
    → StepsBy {T = Unit {0}} {E = E} (λ _. AddsUncounted) b d (Ok y)
    → StepsBy {T = Unit {0}} {E = E} (λ _. AddsUncounted) a d (Ok tt)
unfolding AddsUncounted
adds_again a b d y before one = search (arith, steps_as, adds_then, steps_then)

-- nothing, so far
pub adds_nothing : {E : Type 0} (a : State) → StepsBy {T = Unit {0}} {E = E} (λ _. AddsUncounted) a a (Ok tt)
unfolding AddsUncounted
adds_nothing a = search (arith, stays, adds_none, survives_none)

-- ---- one index more

abbrev index_at : ℕ → KeyIndex
index_at i = get_or (Activation ∷ Deactivation ∷ ProtectStop ∷ []) i Activation

pub indexes_more : {E : Type 0} (i : ℕ) → i < 3 → (a b d : State) (y : Unit {0})
    → StepsBy {T = Unit {0}} {E = E} (λ _. MakesIndexes i) a b (Ok tt)
    → StepsBy {T = Unit {0}} {E = E} (λ _. MakesIndex (index_at i)) b d (Ok y)
    → StepsBy {T = Unit {0}} {E = E} (λ _. MakesIndexes (i + 1)) a d (Ok tt)
indexes_more i low a b d y before one = grind (arith, common_steps)
