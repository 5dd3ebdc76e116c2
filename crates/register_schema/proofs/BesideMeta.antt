-- What the INSERT and the UPDATE of `meta` leave beside that table, whatever the schema is.
use Rattle.std.proofs.Common.{◌≡◌, ◌≢◌, inl, inr, ℕ, zero, suc, ◌+◌, Bool, true, false, List, [], ◌∷◌, Option, None}
use Rattle.std.proofs.Common.{Some, Ok, refl, sym, ap, subst, ◌∙◌, arith}
use Rattle.std.proofs.lemmas.Option.{same_Some}
use Rattle.std.specs.Prelude.{slice_range, slice_get, flat_map, filter_map}
use Rattle.std.specs.List.{position_from}
use Rattle.sqlite.specs.Command.TheVariants.{Insert, Update}
use Rattle.sqlite.specs.Rowids.TheVariants.{Chosen, Given}
use Rattle.sqlite.specs.State.{State, Executes, Writes, mode_of}
use Rattle.sqlite.specs.{Command.Command, Does.AtPlace, Does.OnRows, Does.Tally, Edit.Edit, Edit.Applies, Edit.edit_of}
use Rattle.sqlite.specs.{Effect.Database, Order.Row, Rows.Task, Rows.Written, Schema.Schema, Source.Source, Table.Table}
use Rattle.sqlite.proofs.Callers.{one_step}
use Rattle.sqlite_ast.specs.declared.Conflict.TheVariants as conflict
use Rattle.sqlite_ast.specs.{declared.Expr.Expr, declared.Rows.Rows}
use Rattle.sqlite_ast.specs.declared.Statement.TheVariants as written
use Rattle.sqlite_resolve.specs.Compile.{first, target}
use Rattle.sqlite_rules.specs.{Action.works, Calls.ids_of, Edit.taken_by, Lists.Has}
use Rattle.sqlite_rules.proofs.ListLemmas.{all_has, has_got}
use Rattle.sqlite_schema.specs.{Names.same_name, declared.program.Program.Program, declared.schema.Keys.Keys}
use Rattle.sqlite_syntax.specs.declared.statement.Parsed.{Parsed}
use Rattle.sql_steps.proofs.Statements.{inserts_from, same_value, went}
use Rattle.register_schema.proofs.BesideShapes.{at_place, ran_as, Inserts, Updates, insert_understood}
use Rattle.register_schema.proofs.BesideShapes.{update_understood}

-- the rows of one table alone are written
pub record WritesOne (table : Table) (old new : Database) : Type 0 where
  pub schema : new.schema ≡ old.schema
  pub rows : (t : Table) → Has old.schema.tables t → t.tree ≢ table.tree → new.trees t.tree ≡ old.trees t.tree

-- ---- which table a name finds

position : {X : Type 0} (test : X → Bool) (xs : List X) (i at : ℕ) → position_from test i xs ≡ Some at
    → (j : ℕ) × (at ≡ i + j) × ((x : X) → slice_get xs j ≡ Some x → test x ≡ true)
position test [] i at h = absurd (cc)
position {X} test (x ∷ xs) i at h = by (test x) refl (λ k. position test xs (i + 1) at k)
  where
    by : (b : Bool) → test x ≡ b
        → (position_from test (i + 1) xs ≡ Some at
        → (j : ℕ) × (at ≡ (i + 1) + j) × ((y : X) → slice_get xs j ≡ Some y → test y ≡ true))
        → (j : ℕ) × (at ≡ i + j) × ((y : X) → slice_get (x ∷ xs) j ≡ Some y → test y ≡ true)
    by true is next =
        let here : Some i ≡ Some at = rw is at h in
        (zero, omega (arith, same_Some _ _ here), λ y there. ap test (sym (same_Some _ _ there)) ∙ is)
    by false is next =
        let later = next (rw is at h) in
        (suc later.0, omega (arith, later.1), λ y there. later.2 y there)

named : (s : Schema) (name : List ℕ) (at : ℕ) (table : Table) → target s name ≡ Ok at
    → slice_get s.tables at ≡ Some table → same_name table.name name ≡ true
named s name at table found there = search (arith, same_value, position)

-- ---- no action is set off

pub flat_none : {X Y : Type 0} (f : X → List Y) (xs : List X) → ((x : X) → Has xs x → f x ≡ []) → flat_map f xs ≡ []
flat_none f [] each = refl
flat_none f (x ∷ xs) each = rw (each x (inl refl), flat_none f xs (λ y h. each y (inr h))) refl

pub filter_none : {X Y : Type 0} (f : X → Option Y) (xs : List X) → ((x : X) → Has xs x → f x ≡ None)
    → filter_map f xs ≡ []
filter_none f [] each = refl
filter_none f (x ∷ xs) each = rw (each x (inl refl), filter_none f xs (λ y h. each y (inr h))) refl

idle_insert : (s : Schema) (keys : Keys) (tree : ℕ) (news : List Row) → works s keys 0 tree [] news ≡ []
idle_insert s keys tree news = search (arith, flat_none, filter_none)

-- ---- the writes

abbrev task_of : State → Table → Row → Task
task_of old table params =
    record {
      limit = old.step_limit;
      keys = (mode_of old).keys;
      schema = old.now.schema;
      table = table;
      params = params;
    }

module _ (old new : State) (table : Table) (there : Has old.now.schema.tables table) where
  written_one : (edit : Edit) → edit.table ≡ table
      → Applies old.now.schema (mode_of old).keys old.now.trees edit new.now.trees
      → new.now.schema ≡ old.now.schema → WritesOne table old.now new.now
  written_one edit is did same = search (arith, all_has)

  insert_one : (uncounted : table.is_counted ≡ false) (params : Row) (from : Source) (tally : Tally)
      → OnRows (task_of old table params)
      (mode_of old) None (Insert 0 from) old.now.trees (Ok (tally, new.now))
      → WritesOne table old.now new.now
  insert_one uncounted params from tally h =
      let plain : Table = record table { is_counted = false } in
      let same : table ≡ plain = ap (λ b. record table { is_counted = b }) uncounted in
      let left =
      inserts_from old.step_limit (mode_of old) params old.now old.now.schema refl 0 table from tally new.now
      (subst (λ x. OnRows (task_of old x params)
      (mode_of old) None (Insert 0 from) old.now.trees (Ok (tally, new.now))) same h) in
      let edit = edit_of old.now.trees plain [] Chosen 0 left.1 in
      let did = one_step old.now.schema (mode_of old).keys old.now.trees new.now.trees edit
      (idle_insert old.now.schema (mode_of old).keys plain.tree edit.news) left.3 in
      written_one edit (sym same) did left.0

  update_one : (idle : (olds news : List Row) → works old.now.schema (mode_of old).keys 0 table.tree olds news ≡ [])
      (params : Row) (q : Program) (tally : Tally)
      → OnRows (task_of old table params)
      (mode_of old) None (Update 0 q) old.now.trees (Ok (tally, new.now))
      → WritesOne table old.now new.now
  update_one idle params q tally h =
      let done = went h in
      let now : new.now ≡ record { schema = old.now.schema; trees = done.0.trees } = search (arith, same_value, went) in
      let given = went done.1 in
      let written = went given.2 in
      let trees : done.0.trees ≡ written.0 = ap (λ (it : Written). it.trees) (same_value written.2) in
      let whole : new.now.trees ≡ written.0 = ap (λ (d : Database). d.trees) now ∙ trees in
      let edit = edit_of old.now.trees table (ids_of given.0) Given 1 given.0 in
      let did = one_step old.now.schema (mode_of old).keys old.now.trees written.0 edit
      (idle (taken_by old.now.trees edit) edit.news) written.1 in
      written_one edit refl
      (subst (Applies old.now.schema (mode_of old).keys old.now.trees edit) (sym whole) did)
      (ap (λ (d : Database). d.schema) now)

-- ---- the statements

-- a table of the name, of which its rows alone are written
abbrev pub WritesOneOf : List ℕ → State → State → Type 0
WritesOneOf name old new =
    (table : Table) × Has old.now.schema.tables table × (same_name table.name name ≡ true)
    × WritesOne table old.now new.now

written_of : (name : List ℕ) (old new : State) (at : ℕ) (given : Row) (command : Command) (tally : Tally)
    → target old.now.schema name ≡ Ok at
    → AtPlace (λ t. OnRows (task_of old t given) (mode_of old) None command old.now.trees)
    (slice_get old.now.schema.tables at) (Ok (tally, new.now))
    → ((t : Table) → Has old.now.schema.tables t → same_name t.name name ≡ true
    → OnRows (task_of old t given) (mode_of old) None command old.now.trees (Ok (tally, new.now))
    → WritesOne t old.now new.now)
    → WritesOneOf name old new
written_of name old new at given command tally found h one =
    let table = at_place (λ t. OnRows (task_of old t given) (mode_of old) None command old.now.trees)
    (slice_get old.now.schema.tables at) _ h in
    let has = has_got old.now.schema.tables at table.0 table.1 in
    let called = named old.now.schema name at table.0 found table.1 in
    (table.0, has, called, one table.0 has called table.2)

module _ (text : List ℕ) (p : Parsed) (name : List ℕ) (parsed : first text ≡ Ok p) where
  pub inserts_one : (columns : List (List ℕ)) (rows : Rows)
      (is : p.statement ≡ written.Insert conflict.Abort name columns rows [] [])
      (old new : State) (params : Row) (count : ℕ)
      → ((t : Table) → Has old.now.schema.tables t → same_name t.name name ≡ true → t.is_counted ≡ false)
      → Executes text params old new (Ok count) → WritesOneOf name old new
  inserts_one columns rows is old new params count uncounted h =
      let ran = ran_as text p (Inserts text p name columns rows parsed is)
      (insert_understood text p name columns rows parsed is) old new params count h in
      let it = ran.1 in
      let wrote : Writes old new None (Insert it.0 it.1) (slice_range text p.start p.end) ran.2 count = search arith in
      written_of name old new it.0 ran.2 (Insert it.0 it.1) wrote.tally it.2 wrote.changed
      (λ t has called h. insert_one old new t has (uncounted t has called) ran.2 it.1 wrote.tally h)

  pub updates_one : (sets : List (List ℕ × Expr)) (test : Option Expr)
      (is : p.statement ≡ written.Update name sets test []) (old new : State) (params : Row) (count : ℕ)
      → ((t : Table) → Has old.now.schema.tables t → same_name t.name name ≡ true
      → (olds news : List Row) → works old.now.schema (mode_of old).keys 0 t.tree olds news ≡ [])
      → Executes text params old new (Ok count) → WritesOneOf name old new
  updates_one sets test is old new params count idle h =
      let ran =
      ran_as text p (Updates text p name sets test parsed is) (update_understood text p name sets test parsed is)
      old new params count h in
      let it = ran.1 in
      let did : Writes old new None (Update it.0 it.1) (slice_range text p.start p.end) ran.2 count = search arith in
      written_of name old new it.0 ran.2 (Update it.0 it.1) did.tally it.2 did.changed
      (λ t has called. update_one old new t has (idle t has called) ran.2 it.1 did.tally)
