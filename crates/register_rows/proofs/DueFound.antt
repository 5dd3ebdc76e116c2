-- What the searches for the next key that is due find.
use Rattle.std.proofs.Common.{◌≡◌, ◌⊎◌, ◌<◌, ◌≤◌, ℕ, pos, List, [], ◌∷◌, ◌++◌, codes, map, slice_get, Bool, true, false}
use Rattle.std.proofs.Common.{None, Ok, Err, refl, sym, ap, subst, ◌∙◌, arith}
use Rattle.std.proofs.lemmas.Bool.{cases_lt}
use Rattle.std.specs.Ordering.{is_lt}
use Rattle.sqlite.specs.declared.error.Error.TheVariants.{QueryReturnedNoRows}
use Rattle.sqlite.specs.Term.{Term, col, lit, op2, eval_all}
use Rattle.sqlite.specs.{declared.types.Value.TheVariants.Int, Collation.TheVariants.Binary, Command.TheVariants.Select}
use Rattle.sqlite.specs.{Order.Row as Cells, Query.output_cmp, State.State, State.QueriesRow}
use Rattle.sqlite_resolve.specs.Compile.{first}
use Rattle.sqlite_rules.specs.Lists.{Has}
use Rattle.sqlite_sql.specs.declared.ops.BinaryOp.TheVariants.{Compare, Or}
use Rattle.sqlite_sql.specs.declared.ops.CompareOp.TheVariants.{Eq, Ge, Gt, Le}
use Rattle.sqlite_tied.specs.Compute.{everything}
use Rattle.sqlite_trees.proofs.ListLemmas.{filter-map}
use Rattle.sqlite_value.proofs.OrderLemmas.{value_cmp-Int}
use Rattle.sqlite_value.specs.Keys.{ascending}
use Rattle.sqlite_value.specs.declared.keys.Key as sorted_by
use Rattle.sql_steps.proofs.Firsts.{ShowsLeast, gives_first, gives_no_row, ordered_by, out_of, passing}
use Rattle.sql_steps.proofs.{Members.from_picked, Members.to_picked, Statements.is_picked}
use Rattle.row_checks.specs.ShownRows.{IsQuery}
use Rattle.row_checks.proofs.Selects.{IsSelect, select_plain}
use Rattle.register_core.specs.declared.key.Key.{Key}
use Rattle.register_tables.specs.declared.table.TableName.TheVariants.{Keys}
use Rattle.register_rows.specs.declared.key_scan.DueSearch.TheVariants.{LaterStop, Past, SameStop}
use Rattle.register_rows.specs.Within.DueSearch.{HasFirst, IsFirstDue, IsNumbered, cell_cursor, search_text, stop_cell}
use Rattle.register_tables.specs.Tables.{Layout, Tables, key_row, numbered}
use Rattle.register_rows.specs.{declared.key_scan.DueSearch.DueSearch, KeyScan.IsAfterKey}
use Rattle.register_tables.specs.Within.TableReads.{ShowsAt}
use Rattle.register_tables.specs.Schema.{Holds, schema_with}
use Rattle.register_tables.specs.Within.Tables.{keys}
use Rattle.register_tables.proofs.Meanings.{Asks, IsPlaced, Meant, asks, classes, placed}
use Rattle.register_tables.proofs.RowFound.{at_number, in_range_at, shows_key, ReadsRow, answer_read}
use Rattle.register_tables.proofs.Decoding.{same_number, one_key}
use Rattle.register_tables.proofs.{Actions.shows_all, ColumnTerms.key_shown, Texts.find_names}

-- ---- the texts

abbrev pub passes_same : List Term
passes_same =
    op2 (Compare Eq Binary) (col 1 5) (lit (Int (pos 2))) ∷ op2 (Compare Eq Binary) (col 1 8) (col 0 0)
    ∷ op2 (Compare Le Binary) (col 1 8) (col 0 1)
    ∷ op2 (Compare Gt Binary) (col 1 0) (col 0 2) ∷ []

abbrev pub passes_later : List Term
passes_later =
    op2 (Compare Eq Binary) (col 1 5) (lit (Int (pos 2))) ∷ op2 (Compare Gt Binary) (col 1 8) (col 0 0)
    ∷ op2 (Compare Le Binary) (col 1 8) (col 0 1) ∷ []

abbrev pub passes_past : List Term
passes_past =
    op2 (Compare Eq Binary) (col 1 5) (lit (Int (pos 2))) ∷ op2 (Compare Ge Binary) (col 1 8) (col 0 0)
    ∷ op2 (Compare Le Binary) (col 1 8) (col 0 1)
    ∷ op2 Or (op2 (Compare Gt Binary) (col 1 8) (col 0 0)) (op2 (Compare Gt Binary) (col 1 0) (col 0 2)) ∷ []

abbrev pub shown : List Term
shown = key_shown ++ col 1 0 ∷ []

abbrev pub names : List (List ℕ)
names = find_names ++ codes "number" ∷ []

-- by Protect Stop, and then by number
abbrev pub order : List (Term × sorted_by.Key)
order = (col 1 8, ascending Binary) ∷ (col 1 0, ascending Binary) ∷ []

abbrev pub IsDueSearch : List ℕ → List Term → Type 0
IsDueSearch sql passes = (l : Layout) → Asks (schema_with l) (keys l) sql
    (ordered_by (l.tree Keys) passes shown order) names

-- what such a text means
due_meant : (sql : List ℕ) (passes : List Term) → IsDueSearch sql passes → (l : Layout) → IsPlaced l
    → Meant (schema_with l) sql (Select (record { lets = []; body = ordered_by (l.tree Keys) passes shown order })
    names)
due_meant sql passes search l at = asks (schema_with l) (keys l) (classes l at Keys) _ _ _ (search l)

-- ---- each search after a place

abbrev pub passes_of : DueSearch → List Term
passes_of SameStop = passes_same
passes_of LaterStop = passes_later
passes_of Past = passes_past

due_select : (search : DueSearch) → IsSelect (search_text search)
unfolding everything first
due_select SameStop = (_, _, refl, refl, refl)
due_select search = (_, _, refl, refl, refl)

pub query_of : (search : DueSearch) → IsQuery (search_text search)
query_of search = select_plain (search_text search) (due_select search)

pub search_is : (search : DueSearch) → IsDueSearch (search_text search) (passes_of search)
unfolding everything first
search_is SameStop l = record { p = _; select = _; d = _; by = _; parsed = refl; untimed = refl; is = refl; drafted = refl; same = refl; from = refl; accepted = refl }
search_is search l = record { p = _; select = _; d = _; by = _; parsed = refl; untimed = refl; is = refl; drafted = refl; same = refl; from = refl; accepted = refl }

-- ---- places

-- a number has one key
pub one_number : (t : Tables) (x y : ℕ × Key) → Has (numbered t.keys) x → Has (numbered t.keys) y → x.0 ≡ y.0 → y ≡ x
one_number t x y here there same = search (arith, at_number, slice_get)

-- ---- one search

module _ (sql : List ℕ) (query : IsQuery sql) (passes : List Term) (search : IsDueSearch sql passes) (params : Cells)
  where
    abbrev pub pick : ℕ × Key → Bool
    pick x = is_picked params 0 passes shown (key_row x)

    -- the cells of the answer
    abbrev cells_of : ℕ × Key → Cells
    cells_of x = eval_all shown (params ∷ key_row x ∷ [])

    abbrev Passing : List (ℕ × Key) → List Cells
    Passing ns = passing 0 passes shown order params (map key_row ns)

    -- what passes came from a key that does
    came_from : (ns : List (ℕ × Key)) (r : Cells) → Has (Passing ns) r → (x : ℕ × Key) × Has ns x × (pick x ≡ true)
        × (r ≡ key_row x)
    came_from ns r there = grind (arith, from_picked, filter-map, is_picked)

    goes_to : (ns : List (ℕ × Key)) (x : ℕ × Key) → Has ns x → pick x ≡ true → Has (Passing ns) (key_row x)
    goes_to ns x there is = subst (λ rs. Has rs (key_row x))
        (sym (filter-map (is_picked params 0 passes shown) key_row ns)) (to_picked key_row pick ns x there is)

    compared : (x y : ℕ × Key) → is_lt (output_cmp (ordered_by 0 passes shown order)
        (out_of 0 passes shown order params (key_row y)) (out_of 0 passes shown order params (key_row x))) ≡ false
        → (stop_cell x < stop_cell y) ⊎ ((stop_cell x ≡ stop_cell y) × (x.0 ≤ y.0))
    compared x y h = grind (arith, value_cmp-Int)

    first_so : (t : Tables) (x y : ℕ × Key) → Has (numbered t.keys) x → Has (numbered t.keys) y
        → (stop_cell x < stop_cell y) ⊎ ((stop_cell x ≡ stop_cell y) × (x.0 ≤ y.0))
        → (y ≡ x) ⊎ IsAfterKey (cell_cursor x) (cell_cursor y)
    first_so t x y here there it = grind (arith, cases_lt, one_number)

    module _ (check : ℕ × Key → Bool) (check_is : (x : ℕ × Key) → pick x ≡ check x) where
      row_is : (old new : State) (t : Tables) → Holds t old.now → (row : Cells) → QueriesRow sql params old new (Ok row)
          → (x : ℕ × Key) × IsFirstDue check t x × (row ≡ cells_of x)
      row_is old new t holds row h =
          let l = holds.schema.layout in
          let m = due_meant sql passes search l (placed t old.now holds) in
          let given = gives_first (l.tree Keys) passes shown order params sql old new _ holds.schema.is names m.is
          m.plain m.unlisted (shows_all old.now.trees (l.tree Keys)) row h in
          let it = subst (λ rs. ShowsLeast (l.tree Keys) passes shown order params rs row) (holds.shown Keys) given in
          let came = came_from (numbered t.keys) it.least it.passes_too in
          let x = came.0 in (
            x,
            record {
              there = came.1;
              passes = sym (check_is x) ∙ came.2;
              first = λ y there is.
                  let after = it.first (key_row y) (goes_to (numbered t.keys) y there (check_is y ∙ is)) in
                  first_so t x y came.1 there (compared x y
                  (subst (λ (r : Cells). is_lt (output_cmp (ordered_by 0 passes shown order)
                  (out_of 0 passes shown order params (key_row y)) (out_of 0 passes shown order params r)) ≡ false)
                  came.3 after));
            },
            it.is ∙ ap (λ (r : Cells). eval_all shown (params ∷ r ∷ [])) came.3,
          )

      none_is : (old new : State) (t : Tables) → Holds t old.now
          → QueriesRow sql params old new (Err QueryReturnedNoRows) → HasFirst check t None
      none_is old new t holds h x there is =
          let l = holds.schema.layout in
          let m = due_meant sql passes search l (placed t old.now holds) in
          let given = gives_no_row (l.tree Keys) passes shown order params sql old new _ holds.schema.is names m.is
          m.plain m.unlisted (shows_all old.now.trees (l.tree Keys)) h in
          let none = subst (λ rs. passing (l.tree Keys) passes shown order params rs ≡ []) (holds.shown Keys) given in
          subst (λ rs. Has rs (key_row x)) none (goes_to (numbered t.keys) x there (check_is x ∙ is))

      each : (t : Tables) (old : State) → Holds t old.now → (x : ℕ × Key) → IsFirstDue check t x
          → IsNumbered x × ShowsAt (cells_of x) x
      each t old holds x is =
          let at = at_number 1 t.keys x is.there in
          let own = in_range_at t.keys at.0 x.1 at.2 (holds.in_range Keys) in
          (own, record { cells = shows_key x.1 (Int (pos x.0) ∷ []) own; number = refl })

      same : (x y : ℕ × Key) → IsNumbered x → ShowsAt (cells_of x) x → ShowsAt (cells_of x) y → y ≡ x
      same x y own mine theirs =
          let key : y.1 ≡ x.1 = one_key (cells_of x) y.1 x.1 theirs.cells mine.cells in
          let number : y.0 ≡ x.0 = same_number _ y.0 x.0 theirs.number mine.number in
          λ i. (number i, key i)

      pub due_read : ReadsRow IsNumbered ShowsAt sql params (HasFirst check)
      due_read =
          answer_read IsNumbered ShowsAt cells_of sql query params (IsFirstDue check) (λ t. HasFirst check t None) row_is
          none_is each same (HasFirst check) (λ t x is. is) (λ t none. none)
