-- What INSERT, UPDATE, DELETE and SELECT of the plain forms make, whatever the schema and the table are.
use Rattle.std.proofs.Common.{◌≡◌, ◌⊎◌, ℕ, ℤ, pos, negsuc, ◌/◌, List, [], ◌∷◌, length, map, filter, slice_get, Bool}
use Rattle.std.proofs.Common.{false, cond, Some, None, Option, Ok, Err, Result, sym, ap, subst, ◌∙◌, arith}
use Rattle.std.proofs.lemmas.List.Sorted.{IsPermutation-map}
use Rattle.std.specs.{List.list_all, List.Sorted.IsPermutation}
use Rattle.sqlite.specs.declared.types.Value.TheVariants.{Null, Int}
use Rattle.sqlite.specs.Term.{Term, Env, lit, eval_all, holds}
use Rattle.sqlite.specs.Query.{Query, Output, inner, end, IsAnswer, IsSureAnswer, matches_as, output}
use Rattle.sqlite.specs.Command.TheVariants.{Insert, Update, Delete}
use Rattle.sqlite.specs.Does.{Tally, Does, AtPlace, OnRows}
use Rattle.sqlite.specs.Effect.{Database, IsSource, value_rows}
use Rattle.sqlite.specs.Rows.{Task, stamped}
use Rattle.sqlite.specs.{declared.types.Value.Value, Order.Row, Ops.unary, Program.overlay, Kind.TheVariants.Integer}
use Rattle.sqlite.specs.{Schema.Schema, Table.Table, Source.Source, Source.TheVariants.Values, Command.Command}
use Rattle.sqlite.specs.{Edit.Edit, Edit.edit_of, Edit.Applies, Cast.cast, Rowids.TheVariants.Chosen}
use Rattle.sqlite.specs.{Rowids.TheVariants.Given, declared.run.Mode.Mode, Tree.Trees, declared.error.Error.Error}
use Rattle.sqlite_rules.specs.{Action.works, Action.Writes, Calls.ids_of}
use Rattle.sqlite_trees.proofs.ListLemmas.{map-map, filter_as_flat_map, map-flat_map, flat_map_same_on}
use Rattle.sqlite.proofs.Callers.{one_step}

either : (b : Bool) (x : Value) → cond b x x ≡ x
either b x = search arith

pub cast_int : (n : ℤ) → cast Integer (Int n) ≡ Int n
unfolding unary
cast_int n = either _ (Int n)

pub cast_null : cast Integer Null ≡ Null
unfolding unary
cast_null = either _ Null

-- a part that gave a value did not stop on the way
pub went : {B E R : Type 0} {b : B} {Stops : E → Type 0} → ((stop : E) × Stops stop × (Ok b ≡ Err stop)) ⊎ R → R
went it = search arith

pub same_value : {B E : Type 0} {a b : B} → ◌≡◌ {A = Result B E} (Ok a) (Ok b) → a ≡ b
same_value e = cc

-- ---- the writes

module _ (limit : Option ℕ) (mode : Mode) (params : Row) (db : Database) (schema : Schema) (has : db.schema ≡ schema)
    (at : ℕ) (base : Table) where
  -- a table with no AUTOINCREMENT
  abbrev table : Table
  table = record base { is_counted = false }

  abbrev task : Task
  task = record { limit = limit; keys = mode.keys; schema = schema; table = table; params = params }

  on_table : (command : Command) (text : List ℕ) (out : Result (Tally × Database) (Option Error))
      → slice_get schema.tables at ≡ Some table
      → AtPlace (λ table. OnRows
      (record { limit = limit; keys = mode.keys; schema = db.schema; table = table; params = params }) mode None
      command db.trees) (slice_get db.schema.tables at) out
      → OnRows task mode None command db.trees out
  on_table command text out there h =
      subst (λ o. AtPlace
      (λ table. OnRows (record { limit = limit; keys = mode.keys; schema = schema; table = table; params = params })
      mode None command db.trees) o out) there
      (search (arith, slice_get))

  abbrev pub put : List Row → Edit
  put rows = edit_of db.trees table [] Chosen 0 rows

  abbrev pub LeavesFrom : Source → Database → Type 0
  LeavesFrom from after =
      (after.schema ≡ schema) × (rows : List Row)
      × IsSource (record { schema = schema; trees = db.trees }) (stamped table params) from rows
      × Writes schema mode.keys db.trees (put rows) (Ok after.trees)

  -- an INSERT puts the rows of its source
  pub inserts_from : (from : Source) (tally : Tally) (after : Database)
      → OnRows task mode None (Insert at from) db.trees (Ok (tally, after)) → LeavesFrom from after
  inserts_from from tally after h = search (arith, went, same_value)

  abbrev pub inserted : List Term → ℕ → Edit
  inserted terms width = put (value_rows (stamped table params) width (length terms / width) terms)

  -- an INSERT of VALUES applies its edit
  pub inserts : slice_get schema.tables at ≡ Some table
      → (terms : List Term) (width : ℕ) (text : List ℕ) (tally : Tally) (after : Database)
      → works schema mode.keys 0 table.tree [] (inserted terms width).news ≡ []
      → Does limit mode params db text None (Insert at (Values terms width)) (Ok (tally, after))
      → (after.schema ≡ schema) × Applies schema mode.keys db.trees (inserted terms width) after.trees
  inserts there terms width text tally after none h =
      let left = inserts_from (Values terms width) tally after
      (on_table (Insert at (Values terms width)) text (Ok (tally, after)) there h) in
      let wrote =
      subst (λ rows. Writes schema mode.keys db.trees (put rows) (Ok after.trees)) left.2.1 left.3 in
      (left.0, one_step schema mode.keys db.trees after.trees (inserted terms width) none wrote)

  abbrev pub Leaves : Query → (List Row → Edit) → Database → Type 0
  Leaves q edit after =
      (after.schema ≡ schema) × (rows : List Row) × IsSureAnswer q (overlay db.trees []) params rows
      × Writes schema mode.keys db.trees (edit rows) (Ok after.trees)

  abbrev pub updated : List Row → Edit
  updated rows = edit_of db.trees table (ids_of rows) Given 1 rows

  -- an UPDATE writes the answer of its query over the rows that it names
  pub updates : slice_get schema.tables at ≡ Some table → (q : Query) (text : List ℕ) (tally : Tally) (after : Database)
      → Does limit mode params db text None (Update at (record { lets = []; body = q })) (Ok (tally, after))
      → Leaves q updated after
  updates there q text tally after h = search (arith, on_table)

  abbrev pub deleted : List Row → Edit
  deleted rows = edit_of db.trees table (ids_of rows) Given 0 []

  pub deletes : slice_get schema.tables at ≡ Some table → (q : Query) (text : List ℕ) (tally : Tally) (after : Database)
      → Does limit mode params db text None (Delete at (record { lets = []; body = q })) (Ok (tally, after))
      → Leaves q deleted after
  deletes there q text tally after h = search (arith, on_table)

-- ---- the queries

-- rows of one table that pass a filter, in no order
abbrev pub plain_query : ℕ → List Term → List Term → Query
plain_query t passes shown = record {
  from = inner t end;
  filter = passes;
  group = None;
  project = shown;
  distinct = false;
  collations = [];
  order = [];
  limit = lit (Int (negsuc 0));
  offset = lit (Int (pos 0));
}

module _ (params : Row) (t : ℕ) (passes shown : List Term) where
  abbrev pub env_of : Row → Env
  env_of r = params ∷ r ∷ []

  abbrev pub is_picked : Row → Bool
  is_picked r = list_all (holds (env_of r)) passes

  abbrev pub picked : List Row → List Row
  picked rows = map (λ r. eval_all shown (env_of r)) (filter is_picked rows)

  pub matched : (lost : Value) (db : Trees)
      → map env_of (filter is_picked (db t)) ≡ matches_as lost db passes (inner t end) (params ∷ [])
  matched lost db = search (arith, filter_as_flat_map, map-flat_map, flat_map_same_on)

  pub answers : (db : Trees) (rows : List Row) → IsSureAnswer (plain_query t passes shown) db params rows
      → IsPermutation (picked (db t)) rows
  answers db rows sure =
      let q = plain_query t passes shown in
      let a : IsAnswer q db params rows = sure Null in
      let found = filter is_picked (db t) in
      let kept : a.kept ≡ map (output q) (map env_of found) = a.distinct
      ∙ ap (map (output q)) (a.grouped ∙ sym (matched Null db)) in
      let shown : map (λ (o : Output). o.1) a.kept ≡ picked (db t) = search (arith, map-map) in
      let moved : IsPermutation (map (λ (o : Output). o.1) a.kept)
      (map (λ (o : Output). o.1) a.ordered) = IsPermutation-map (λ (o : Output). o.1) a.kept a.ordered a.same in
      subst (λ xs. IsPermutation xs rows) shown
      (subst (IsPermutation (map (λ (o : Output). o.1) a.kept)) (sym a.shown) moved)
