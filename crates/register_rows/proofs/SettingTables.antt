-- A table of what is set: its statements, and what it shows.
use Rattle.std.proofs.Common.{◌≡◌, ◌+◌, ◌==◌, ℕ, pos, List, [], ◌∷◌, ◌++◌, map, length, slice_get, false, Some, codes}
use Rattle.std.proofs.Common.{refl, sym, subst}
use Rattle.std.proofs.Math.Bool.{and-true}
use Rattle.std.specs.List.{AllByRecursion}
use Rattle.sqlite.specs.declared.types.Value.TheVariants.{Null, Int}
use Rattle.sqlite.specs.{Effect.Database, Order.Row as Cells, State.State, Term.Term, Term.eval_all}
use Rattle.sqlite_rules.specs.Action.{works}
use Rattle.sqlite_schema.specs.declared.schema.Keys.TheVariants.{Enforced}
use Rattle.sql_steps.proofs.Statements.{plain_query, is_picked}
use Rattle.sql_steps.proofs.{Comparing.equal_numbers, Deletes.ids_shown, Inserting.edit, Written.Wrote}
use Rattle.register_requests.specs.Version.{current}
use Rattle.register_tables.specs.Tables.{Form, Layout, ShowsKeyed, ShowsSinceSecond, Tables, form, place_of, table_of}
use Rattle.register_tables.specs.Tables.{with_content}
use Rattle.register_tables.specs.Schema.{Holds, table_rows, schema_with}
use Rattle.register_tables.specs.{declared.table.TableName.TableName, declared.table.TableName.TheVariants.Meta}
use Rattle.register_tables.specs.TableForms.{Named, name_of}
use Rattle.register_tables.specs.Columns.{select}
use Rattle.register_tables.proofs.ColumnTerms.{inserted, inserts, shown_from}
use Rattle.register_tables.proofs.EachTable.{AreApart, content_is, each}
use Rattle.register_rows.proofs.EntryAdded.{IsInsert}
use Rattle.register_tables.proofs.Meanings.{Asks, Takes}
use Rattle.register_tables.proofs.{Frame.holds_with, Texts.has_number}

-- each table stands in the schema at its place
pub there : (l : Layout) (name : TableName)
    → slice_get (schema_with l).tables (place_of name) ≡ Some (record (table_of l name) { is_counted = false })
there l Meta = refl
there l name = refl

-- what a statement about one of them is given
abbrev pub number_params : ℕ → Cells
number_params n = Int (pos n) ∷ []

-- a form, and the tables with another content of it
abbrev Formed : Type 1
Formed = (f : Form) × (f.Content → Tables → Tables)

abbrev formed : TableName → Formed
formed name = (form name, with_content name)

-- A table in which a value is set for each of some numbers: its name, the column of the number and those past it, how
-- an entry stands in a row, and the entries among all that is held.
pub record Setting (A X : Type 0) : Type 1 where
  pub name : TableName
  pub number : List ℕ
  pub columns : List Named
  pub number_of : A → ℕ
  pub value_of : A → X
  pub cells : X → Cells
  pub IsOne : X → Type 0
  pub ShowsOne : Cells → X → Type 0
  pub entries : Tables → List A
  pub with_entries : List A → Tables → Tables

module _ {A X : Type 0} (s : Setting A X) where
  abbrev pub params : A → Cells
  params a = Int (pos (s.number_of a)) ∷ s.cells (s.value_of a)

  abbrev pub row : A → Cells
  row a = Int (pos (s.number_of a)) ∷ Null ∷ s.cells (s.value_of a)

  abbrev pub IsEntry : A → Type 0
  IsEntry a = s.IsOne (s.value_of a)

  -- ---- its statements

  abbrev at_number : List ℕ
  at_number = codes " FROM " ++ ((form s.name).table 0).name ++ codes " WHERE " ++ s.number ++ codes " = ?1"

  abbrev pub clear_text : List ℕ
  clear_text = codes "DELETE" ++ at_number

  abbrev pub find_text : List ℕ
  find_text = select s.columns at_number

  abbrev pub put_text : List ℕ
  put_text = inserts ((form s.name).table 0).name s.number s.columns

  abbrev pub shown : List Term
  shown = shown_from 2 s.columns

  abbrev pub names : List (List ℕ)
  names = map name_of s.columns

  abbrev pub Clears : Type 0
  Clears = (l : Layout) → Takes (schema_with l) (table_of l s.name) (place_of s.name) clear_text
      (plain_query (table_of l s.name).tree has_number ids_shown)

  abbrev pub width : ℕ
  width = length s.columns + 2

  abbrev pub Puts : Type 0
  Puts = IsInsert put_text (place_of s.name) (inserted s.columns) width

  abbrev pub Finds : Type 0
  Finds = (l : Layout) → Asks (schema_with l) (table_of l s.name) find_text
      (plain_query (l.tree s.name) has_number shown) names

  -- the form of such a table, and the tables with other entries
  abbrev set_form : Formed
  set_form = (
    record {
      place = place_of s.name;
      Content = List A;
      content = s.entries;
      table = (form s.name).table;
      Shows = ShowsSinceSecond row;
      IsInRange = AllByRecursion IsEntry;
    },
    s.with_entries,
  )

  -- an entry is picked by its number
  pub check_is : (passed : List Term) (n : ℕ) (a : A)
      → is_picked (number_params n) 0 has_number passed (row a) ≡ s.number_of a == n
  check_is passed n a = rw (equal_numbers (s.number_of a) n) (and-true (s.number_of a == n))

-- The form of its table is that of a table of settings, its statements mean what they say, no write of it sets off an
-- action, and its cells show one value.
pub record IsSetting {A X : Type 0} (s : Setting A X) : Type 1 where
  pub form_is : formed s.name ≡ set_form s
  pub idle : (l : Layout) → AreApart l → (olds news : List Cells)
      → works (schema_with l) Enforced 0 (table_of l s.name).tree olds news ≡ []
  pub shows : (x : X) → s.IsOne x → s.ShowsOne (s.cells x) x
  pub same : (x y : X) → s.ShowsOne (s.cells x) y → y ≡ x
  pub cells_same : (x y : X) → s.cells x ≡ s.cells y → x ≡ y
  pub shown_is : (n : ℕ) (a : A) → eval_all (shown s) (number_params n ∷ row s a ∷ []) ≡ s.cells (s.value_of a)
  pub news_are : (a : A) (l : Layout) (old : State) (has : old.now.schema ≡ schema_with l)
      → (edit (table_of l s.name) (params s a) (inserted s.columns) (width s) (schema_with l) old has
      (place_of s.name)).news ≡ row s a ∷ []
  pub clears : Clears s
  pub puts : Puts s
  pub finds : Finds s

module _ {A X : Type 0} {s : Setting A X} (is : IsSetting s) where
  pub table_shown : (t : Tables) (db : Database) (holds : Holds t db)
      → ShowsKeyed (row s) (s.entries t) (table_rows holds.schema.layout s.name db)
  table_shown t db holds =
      subst (λ (f : Formed). f.0.Shows current (f.0.content t) (table_rows holds.schema.layout s.name db)) is.form_is
      (holds.shown s.name)

  pub tree_shown : (t : Tables) (db : Database) (holds : Holds t db)
      → ShowsKeyed (row s) (s.entries t) (db.trees (table_of holds.schema.layout s.name).tree)
  tree_shown t db holds =
      subst (λ tree. ShowsKeyed (row s) (s.entries t) (db.trees tree))
      (sym ((each s.name).tree_is holds.schema.layout)) (table_shown t db holds)

  pub table_in_range : (t : Tables) (db : Database) → Holds t db → AllByRecursion (IsEntry s) (s.entries t)
  table_in_range t db holds = subst (λ (f : Formed). f.0.IsInRange (f.0.content t)) is.form_is (holds.in_range s.name)

  pub entries_are : (c : List A) (t : Tables) → s.entries (s.with_entries c t) ≡ c
  entries_are c t =
      subst (λ (f : Formed). (d : f.0.Content) → f.0.content (f.1 d t) ≡ d) is.form_is
      (λ d. content_is s.name d t) c

  -- where a statement wrote these rows, the tables have these entries
  pub table_holds : (c : List A) (t : Tables) (old new : Database) (rows : List Cells) (holds : Holds t old)
      → Wrote (schema_with holds.schema.layout) (table_of holds.schema.layout s.name).tree rows old new
      → AllByRecursion (IsEntry s) c → ShowsKeyed (row s) c rows → Holds (s.with_entries c t) new
  table_holds c t old new rows holds wrote =
      let l = holds.schema.layout in
      let own = subst (λ tree. Wrote (schema_with l) tree rows old new) ((each s.name).tree_is l) wrote in
      subst (λ (f : Formed). (d : f.0.Content) → f.0.IsInRange d → f.0.Shows current d rows → Holds (f.1 d t) new)
      is.form_is (λ d. holds_with s.name d t old new rows holds own) c
