-- What a text means that asks or writes one table, in a schema of which not every tree is known. The resolver looks a
-- table up by its name, which computes; but whether it accepts the query it asks by the table's tree, and that has to
-- be shown.
use Rattle.std.proofs.Common.{◌≡◌, ◌<◌, ◌==◌, ◌^◌, inl, inr, ℕ, ◌&&◌, Bool, true, false, cond, List, [], ◌∷◌, map, take}
use Rattle.std.proofs.Common.{Option, None, Some, Ok, sym, ap, subst, ◌∙◌, arith}
use Rattle.std.proofs.lemmas.Bool.{cases_Bool, eq-eqb, eqb-true, lt-leb}
use Rattle.std.specs.Prelude.{option_map, find, filter, nat_le}
use Rattle.std.specs.{List.AllZip, Option.option_and_then}
use Rattle.sqlite.specs.Command.TheVariants.{Select, Update, Delete}
use Rattle.sqlite.specs.Listing.{understood, reads_listing}
use Rattle.sqlite.specs.{Command.Command, Effect.Database, Effect.IsDatabase, Order.Row, Schema.Schema, Table.Table}
use Rattle.sqlite.proofs.Callers.{IsPlain, command_of}
use Rattle.sqlite_ast.specs.declared.Expr.{Expr}
use Rattle.sqlite_ast.specs.declared.Select as asked
use Rattle.sqlite_ast.specs.declared.Statement.TheVariants as written
use Rattle.sqlite_catalog.specs.Listing.{IsTableRow, is_table_row}
use Rattle.sqlite_trees.specs.Objects.{catalog_tree}
use Rattle.sqlite_draft.specs.{declared.query.Draft.Draft, Query.query_of}
use Rattle.sqlite_resolve.specs.declared.compiled.Compiled.{Compiled}
use Rattle.sqlite_resolve.specs.Compile.{first, compiled, planned, meaning, returning, timed, command, read, update}
use Rattle.sqlite_resolve.specs.Compile.{delete, target, shows, with_command}
use Rattle.sqlite_resolve.specs.{Body.table_at, Program.query, Program.program, Write.updated, Write.deleted}
use Rattle.sqlite_rules.specs.Lists.{Has}
use Rattle.sqlite_schema.specs.declared.program.Program.{Program}
use Rattle.sqlite_sql.specs.Query.{Query, inner, end}
use Rattle.sqlite_syntax.specs.declared.statement.Parsed.{Parsed}
use Rattle.sqlite_typing.specs.declared.class.Class.{Class}
use Rattle.sqlite_typing.specs.Types.{accepts_after, is_count, table_classes, row_classes}
use Rattle.sqlite_value.specs.declared.keys.Collation.{Collation}
use Rattle.register_tables.specs.declared.table.TableName.{TableName}
use Rattle.register_tables.specs.Tables.{Layout, AreApartIn, Tables, all_tables, place_of, table_count, table_of}
use Rattle.register_tables.specs.Schema.{Holds, HoldsIn, schema_in, schema_with}
use Rattle.register_requests.specs.{declared.version.Version.Version, Version.current}
use Rattle.register_tables.proofs.EachTable.{AreApart, each, in_version, low_in_version, placed_low, same_place}

-- ---- one table

-- the query is accepted where its one table has these classes
abbrev pub accepts_classes : Query → Option (List Class) → Bool
accepts_classes q classes =
    accepts_after [] q (option_and_then (λ slots. Some slots) (option_map (λ row. row ∷ []) classes)) &&
    (is_count [] q.limit && is_count [] q.offset)

-- the command of a text that wants no time
abbrev pub means : Parsed → Command → Compiled
means p c = with_command p ([], (c, None))

pub record Meant (s : Schema) (sql : List ℕ) (c : Command) : Type 0 where
  pub is : command_of (understood s sql) ≡ c
  pub plain : IsPlain (understood s sql)
  pub unlisted : reads_listing s sql ≡ false

compiled_so : (s : Schema) (sql : List ℕ) (p : Parsed) (c : Command) → compiled s sql ≡ Ok (means p c) → Meant s sql c
unfolding understood
compiled_so s sql p c is = search (arith, command_of)

-- the text asks the table
pub record Asks (s : Schema) (table : Table) (sql : List ℕ) (q : Query) (names : List (List ℕ)) : Type 0 where
  pub p : Parsed
  pub select : asked.Select
  pub d : Draft
  pub by : List (Option Collation)
  pub parsed : first sql ≡ Ok p
  pub untimed : p.formats ≡ []
  pub is : p.statement ≡ written.Select select
  pub drafted : query s select ≡ Ok ((d, names, by), [])
  pub same : query_of d ≡ q
  pub from : (query_of d).from ≡ inner table.tree end
  pub accepted : accepts_classes (query_of d) (Some (row_classes table)) ≡ true

-- the text sets columns of the table at this place
pub record Sets (s : Schema) (table : Table) (at : ℕ) (sql : List ℕ) (q : Query) : Type 0 where
  pub p : Parsed
  pub name : List ℕ
  pub sets : List (List ℕ × Expr)
  pub check : Option Expr
  pub d : Draft
  pub parsed : first sql ≡ Ok p
  pub untimed : p.formats ≡ []
  pub is : p.statement ≡ written.Update name sets check []
  pub named : target s name ≡ Ok at
  pub there : table_at s at ≡ Ok table
  pub drafted : updated s at table sets check ≡ Ok d
  pub same : query_of d ≡ q
  pub from : (query_of d).from ≡ inner table.tree end
  pub accepted : accepts_classes (query_of d) (Some (row_classes table)) ≡ true

-- the text takes rows out of it
pub record Takes (s : Schema) (table : Table) (at : ℕ) (sql : List ℕ) (q : Query) : Type 0 where
  pub p : Parsed
  pub name : List ℕ
  pub check : Option Expr
  pub d : Draft
  pub parsed : first sql ≡ Ok p
  pub untimed : p.formats ≡ []
  pub is : p.statement ≡ written.Delete name check []
  pub named : target s name ≡ Ok at
  pub there : table_at s at ≡ Ok table
  pub drafted : deleted s at table check ≡ Ok d
  pub same : query_of d ≡ q
  pub from : (query_of d).from ≡ inner table.tree end
  pub accepted : accepts_classes (query_of d) (Some (row_classes table)) ≡ true

module _ (s : Schema) (table : Table) (has : table_classes s [] table.tree ≡ Some (row_classes table)) where
  -- what the resolver makes of a draft over that table
  programs : (d : Draft) → (query_of d).from ≡ inner table.tree end
      → accepts_classes (query_of d) (Some (row_classes table)) ≡ true → program s [] d
      ≡ Ok (record { lets = []; body = query_of d })
  unfolding program
  programs d from accepted = search arith

  -- what a text means that has a draft over that table
  drafted_so : (sql : List ℕ) (p : Parsed) (d : Draft) (q : Query) (does : Program → Command)
      → query_of d ≡ q → compiled s sql ≡ Ok (means p (does (record { lets = []; body = query_of d })))
      → Meant s sql (does (record { lets = []; body = q }))
  drafted_so sql p d q does same is =
      subst (λ b. Meant s sql (does (record { lets = []; body = b }))) same (compiled_so s sql p _ is)

  pub asks : (sql : List ℕ) (q : Query) (names : List (List ℕ)) → Asks s table sql q names
      → Meant s sql (Select (record { lets = []; body = q }) names)
  unfolding compiled planned meaning returning timed command read
  asks sql q names a = drafted_so sql a.p a.d q (λ b. Select b names) a.same (search (arith, programs))

  pub sets : (sql : List ℕ) (at : ℕ) (q : Query) → Sets s table at sql q
      → Meant s sql (Update at (record { lets = []; body = q }))
  unfolding compiled planned meaning returning timed command update shows
  sets sql at q a = drafted_so sql a.p a.d q (Update at) a.same (search (arith, programs))

  pub takes : (sql : List ℕ) (at : ℕ) (q : Query) → Takes s table at sql q
      → Meant s sql (Delete at (record { lets = []; body = q }))
  unfolding compiled planned meaning returning timed command delete shows
  takes sql at q a = drafted_so sql a.p a.d q (Delete at) a.same (search (arith, programs))

-- ---- the register's tables

-- two tables of a version have two trees, and each is one that a file can have
pub record IsPlacedIn (version : Version) (l : Layout) : Type 0 where
  pub apart : AreApartIn version l
  pub low : (name : TableName) → place_of name < table_count version → l.tree name < 65536

abbrev pub IsPlaced : Layout → Type 0
IsPlaced = IsPlacedIn current

low_in : (rows : List Row) (tables : List Table) → AllZip IsTableRow rows tables → (t : Table) → Has tables t
    → t.tree < 65536
low_in [] [] all t h = absurd h
low_in [] (s ∷ tables) all t h = absurd all
low_in (r ∷ rows) [] all t h = absurd all
low_in (r ∷ rows) (s ∷ tables) all t (inl same) = subst (λ (x : Table). x.tree < 65536) (sym same) all.0.described.low
low_in (r ∷ rows) (s ∷ tables) all t (inr later) = low_in rows tables all.1 t later

module _ (version : Version) where
  pub placed_of : (l : Layout) (db : Database) → db.schema ≡ schema_in version l → AreApartIn version l
      → IsDatabase db → IsPlacedIn version l
  placed_of l db is apart sound =
      let rows = filter is_table_row (db.trees catalog_tree) in
      let listed = subst (λ (s : Schema). AllZip IsTableRow rows s.tables) is sound.lists.listed.tables in
      record {
        apart = apart;
        low = λ name within. subst (λ n. n < 65536) ((each name).tree_is l)
            (low_in rows (schema_in version l).tables listed (table_of l name)
            ((each name).listed_in version l within));
      }

  pub placed_as : (t : Tables) (db : Database) (holds : HoldsIn version t db) → IsPlacedIn version holds.schema.layout
  placed_as t db holds = placed_of holds.schema.layout db holds.schema.is holds.schema.apart holds.sound

pub placed_in : (l : Layout) (db : Database) → db.schema ≡ schema_with l → AreApart l → IsDatabase db → IsPlaced l
placed_in = placed_of current

pub placed : (t : Tables) (db : Database) (holds : Holds t db) → IsPlaced holds.schema.layout
placed = placed_as current

-- the tables are told by their trees
found_in : (l : Layout) (name : TableName) (names : List TableName)
    → ((n : TableName) → Has names n → l.tree n ≡ l.tree name → place_of n ≡ place_of name) → Has names name
    → find (λ (t : Table). t.tree == l.tree name) (map (table_of l) names) ≡ Some (table_of l name)
found_in l name [] apart h = absurd h
found_in l name (n ∷ names) apart h = elim (cases_Bool ((table_of l n).tree == l.tree name)) [
  | inl same ↦ search (arith, same_place, each, eqb-true)
  | inr other ↦
      ap (λ b. cond b (Some (table_of l n)) (find (λ (t : Table). t.tree == l.tree name) (map (table_of l) names)))
      other ∙ found_in l name names (λ m has. apart m (inr has)) (later other h)
]
  where
    later : ((table_of l n).tree == l.tree name) ≡ false → Has (n ∷ names) name → Has names name
    later other (inl e) =
        absurd (let same : ((table_of l n).tree == l.tree name)
        ≡ true = eq-eqb _ _ ((each n).tree_is l ∙ ap l.tree (sym e)) in cc)
    later other (inr h) = h

pub classes_in : (version : Version) (l : Layout) → IsPlacedIn version l → (name : TableName)
    → place_of name < table_count version → table_classes (schema_in version l) [] (table_of l name).tree
    ≡ Some (row_classes (table_of l name))
classes_in version l is name within =
    let tree : ℕ = l.tree name in
    let names : List TableName = take (table_count version) all_tables in
    let low : nat_le (2 ^ 31) tree ≡ false = lt-leb 2147483648 tree (omega (arith, is.low name within)) in
    subst (λ n. table_classes (schema_in version l) [] n ≡ Some (row_classes (table_of l name)))
    (sym ((each name).tree_is l))
    (ap (λ b. cond b None
    (option_map row_classes (find (λ (t : Table). t.tree == tree) (schema_in version l).tables))) low
    ∙ ap (option_map row_classes) (found_in l name names
    (λ n has. is.apart n name (low_in_version version n has) within) (in_version version name within)))

pub classes : (l : Layout) → IsPlaced l → (name : TableName) → table_classes (schema_with l) [] (table_of l name).tree
    ≡ Some (row_classes (table_of l name))
classes l is name = classes_in current l is name (placed_low name)
