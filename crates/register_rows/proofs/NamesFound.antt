-- What the searches for the names of a key's custodians and approvals find.
use Rattle.std.proofs.Common.{◌≡◌, ◌≢◌, ℕ, pos, List, [], ◌∷◌, length, map, filter, drop, codes, Result, Ok, Err, IfOk}
use Rattle.std.proofs.Common.{IfErr, OnOk, refl, sym, ap, subst, ◌∙◌, arith}
use Rattle.std.proofs.lemmas.List.Sorted.{IsPermutation-map, IsPermutation-sym, IsPermutation-trans, length_permutation}
use Rattle.std.proofs.lemmas.List.{length-map}
use Rattle.std.specs.{List.AllByRecursion, List.Sorted.IsPermutation}
use Rattle.sqlite.specs.declared.types.Value.TheVariants.{Null, Int, Text as Words}
use Rattle.sqlite.specs.State.{State, HasCleanDisk, Shown, IsUnchanged, Survives, CommitsShowing}
use Rattle.sqlite.specs.Term.{Term, col, eval_all}
use Rattle.sqlite.specs.{declared.error.Error.Error, declared.types.Value.Value, Order.Row as Cells, Order.column}
use Rattle.sqlite_tied.specs.Compute.{everything}
use Rattle.sqlite_resolve.specs.Compile.{first}
use Rattle.row_checks.proofs.Selects.{IsSelect, select_plain}
use Rattle.sqlite_rules.proofs.ListLemmas.{all_has}
use Rattle.sqlite_trees.proofs.ListLemmas.{all-filter, map-map}
use Rattle.sql_steps.proofs.{SameRows.has_map, SameRows.map_has, Updates.has_permutation, Queries.gives_all}
use Rattle.sql_steps.proofs.{Queries.only_reads, Statements.plain_query, Statements.picked}
use Rattle.register_core.specs.{KeyName.KeyName, KeyName.is_at, KeyName.names_at, Names.sorted_names}
use Rattle.register_requests.specs.Name.{IsName}
use Rattle.register_tables.specs.declared.error.StoreError.TheVariants.{Database, NoRegister}
use Rattle.register_tables.specs.declared.table.TableName.TheVariants.{Custodian, Approval}
use Rattle.register_tables.specs.TableReads.{HoldsWhereOpen, IsOpenStill, ReadsBy}
use Rattle.register_tables.specs.Within.TableReads.{AreNamesOf, HasNoName}
use Rattle.register_tables.specs.Tables.{Layout, Tables, table_of, IsNamed, ShowsEntries, name_cells}
use Rattle.register_tables.specs.Schema.{schema_with, Holds, table_rows}
use Rattle.register_tables.specs.declared.error.StoreError.{StoreError}
use Rattle.register_rows.specs.declared.stored_key.Role.{Role}
use Rattle.register_rows.specs.Within.Roles.{names_of, select_text}
use Rattle.register_tables.specs.declared.table.TableName.{TableName}
use Rattle.register_rows.specs.declared.stored_key.Role.TheVariants as role
use Rattle.register_tables.proofs.Meanings.{Asks, asks, classes, placed}
use Rattle.register_tables.proofs.Readings.{IsSearch, fails_refused, fails_unchanged, reads_by}
use Rattle.register_rows.proofs.NameChanges.{at_key, key_past, key_is}
use Rattle.register_tables.proofs.RowFound.{open_still, shown_same}
use Rattle.register_tables.proofs.{Actions.shows_all, EntryRows.picks_entries}

-- ---- names in cells

words_in : Value → List ℕ
words_in (Words name) = name
words_in _ = []

back : (names : List (List ℕ)) → map words_in (map Words names) ≡ names
unfolding words_in
back [] = refl
back (name ∷ names) = ap (λ others. name ∷ others) (back names)

-- the cells of names determine them, but for their order
pub same_names : (names others : List (List ℕ)) → IsPermutation (map Words names) (map Words others)
    → IsPermutation names others
same_names names others same =
    subst (λ l. IsPermutation l others) (back names)
    (subst (IsPermutation (map words_in (map Words names))) (back others) (IsPermutation-map words_in _ _ same))

-- names that are put in order are those that the rows show
pub sorted_so : (rows : List Cells) (names sorted : List (List ℕ)) → map (λ row. column row 0) rows ≡ map Words names
    → ((others : List (List ℕ)) → IsPermutation names others → sorted ≡ sorted_names others)
    → (others : List (List ℕ)) → IsPermutation (map (λ row. column row 0) rows) (map Words others)
    → sorted ≡ sorted_names others
sorted_so rows names sorted are sorts others shown = search (arith, same_names)

-- ---- the rows of the answer

abbrev pub name_shown : List Term
name_shown = col 1 2 ∷ []

abbrev pub name_column : List (List ℕ)
name_column = codes "name" ∷ []

-- the text asks for the names at a key in a table
abbrev pub IsNameSearch : List ℕ → TableName → Type 0
IsNameSearch sql table = IsSearch sql table at_key name_shown name_column

shown_past : (params r : Cells)
    → eval_all name_shown (params ∷ r ∷ []) ≡ eval_all name_shown (params ∷ (Null ∷ drop 1 r) ∷ [])
shown_past params r = search arith

module _ (sql : List ℕ) (table : TableName) (search_is : IsNameSearch sql table) (key : ℕ) where
  abbrev pub params : Cells
  params = Int (pos key) ∷ []

  -- the names at the key
  found_names : (entries : List KeyName) (rows : List Cells) → ShowsEntries name_cells entries rows
      → IsPermutation (map (λ row. column row 0) (picked params 0 at_key name_shown rows))
      (map Words (names_at key entries))
  found_names entries rows shows =
      let among = filter (is_at key) entries in
      let right : map (λ (row : Cells). column row 0) (map (λ (entry : KeyName). Words entry.name ∷ []) among)
      ≡ map Words (names_at key entries) = search (arith, map-map) in
      subst (IsPermutation (map (λ row. column row 0) (picked params 0 at_key name_shown rows))) right
      (IsPermutation-map (λ (row : Cells). column row 0) _ _
      (picks_entries name_cells params 0 at_key name_shown (is_at key) (key_past 0 name_shown key)
      (key_is 0 name_shown key) (shown_past params) entries rows shows))

  module _ (entries_of : Tables → List KeyName) (shown : (t : Tables) (old : State) (holds : Holds t old.now)
      → ShowsEntries name_cells (entries_of t) (table_rows holds.schema.layout table old.now))
      (in_range : (t : Tables) (old : State) → Holds t old.now → AllByRecursion IsNamed (entries_of t))
      (old new : State)
      (survives : Survives old new (CommitsShowing sql params old)) where
    abbrev Found : Tables → List (List ℕ) → Type 0
    Found t names = names ≡ sorted_names (names_at key (entries_of t))

    -- an answer leaves all as it was
    unchanged_so : (t : Tables) → Holds t old.now → (rows : List Cells) → Shown sql params old new rows
        → IsUnchanged old new
    unchanged_so t holds rows asked =
        let l = holds.schema.layout in
        let at = placed t old.now holds in
        only_reads sql params old new (schema_with l) holds.schema.is (l.tree table) at_key name_shown name_column
        (search_is.meant l at).is (search_is.meant l at).plain (search_is.meant l at).unlisted
        (shows_all old.now.trees (l.tree table)) rows asked

    -- the rows show the names at the key
    shown_names : (t : Tables) → Holds t old.now → (rows : List Cells) → Shown sql params old new rows
        → IsPermutation (map (λ row. column row 0) rows) (map Words (names_at key (entries_of t)))
    shown_names t holds rows asked =
        let l = holds.schema.layout in
        let at = placed t old.now holds in
        let all = gives_all sql params old new (schema_with l) holds.schema.is (l.tree table) at_key name_shown
        name_column (search_is.meant l at).is (search_is.meant l at).plain (search_is.meant l at).unlisted
        (shows_all old.now.trees (l.tree table)) rows asked in
        IsPermutation-trans _ _ _ (IsPermutation-sym _ _ (IsPermutation-map (λ (row : Cells). column row 0) _ _ all))
        (found_names (entries_of t) (old.now.trees (l.tree table)) (shown t old holds))

    -- the rows are as many as the names
    pub rows_counted : (t : Tables) → HoldsWhereOpen t old → (rows : List Cells) → Shown sql params old new rows
        → length rows ≡ length (names_at key (entries_of t))
    rows_counted t seen rows asked =
        let holds = seen (shown_same sql params search_is.query old new rows asked).0.was_open in
        let names = names_at key (entries_of t) in
        sym (length-map rows (λ (row : Cells). column row 0))
        ∙ sym (length_permutation _ (map Words names) (shown_names t holds rows asked)) ∙ length-map names Words

    -- what is read of it is the names, in order
    found_so : (t : Tables) → Holds t old.now → (rows : List Cells) (q : Result (List (List ℕ)) StoreError)
        → IfOk q (AreNamesOf rows) → Shown sql params old new rows
        → IfOk q (λ names. Found t names × IsUnchanged old new)
    found_so t holds rows q reads asked = search (arith, shown_names, unchanged_so)

    -- each row that was given shows a name
    no_other : (t : Tables) → Holds t old.now → (rows : List Cells) → Shown sql params old new rows → HasNoName rows → ⊥
    no_other t holds rows asked none =
        let names = names_at key (entries_of t) in
        let there = has_permutation _ (map Words names) (column none.0 0) (shown_names t holds rows asked)
        (has_map (λ row. column row 0) rows none.0 none.1) in
        let word = map_has Words names (column none.0 0) there in
        let entry = map_has (λ (entry : KeyName). entry.name) (filter (is_at key) (entries_of t)) word.0 word.1 in
        let is = all_has IsNamed (filter (is_at key) (entries_of t)) entry.0
        (all-filter IsNamed (is_at key) (entries_of t) (in_range t old holds)) entry.1 in
        none.2 word.0 (subst IsName (sym entry.2) is) word.2

    registered_so : (t : Tables) → Holds t old.now → (rows : List Cells) (q : Result (List (List ℕ)) StoreError)
        → IfErr q (λ error. error ≡ NoRegister → HasNoName rows) → Shown sql params old new rows
        → IfErr q (λ error. error ≢ NoRegister)
    registered_so t holds rows (Ok names) none asked = tt
    registered_so t holds rows (Err e) none asked = λ is. no_other t holds rows asked (none is)

    given_open : (rows : List Cells) (q : Result (List (List ℕ)) StoreError) → Shown sql params old new rows
        → OnOk q (IsOpenStill old new)
    given_open rows q asked = search (arith, open_still, shown_same)

    -- the rows were given
    pub names_read : (rows : List Cells) (q : Result (List (List ℕ)) StoreError) → IfOk q (AreNamesOf rows)
        → IfErr q (λ error. error ≡ NoRegister → HasNoName rows) → (HasCleanDisk new → Shown sql params old new rows)
        → ReadsBy Found old new q
    names_read rows q reads none asked =
        let opened = λ (clean : HasCleanDisk new).
        (shown_same sql params search_is.query old new rows (asked clean)).0.was_open in
        reads_by sql params search_is.query old new survives Found q (λ clean. given_open rows q (asked clean))
        (λ clean t holds. found_so t (holds (opened clean)) rows q reads (asked clean))
        (search (arith, fails_unchanged, unchanged_so, registered_so))

    -- the database refused
    pub names_refused : (error : Error) → ReadsBy Found old new (Err (Database error))
    names_refused error =
        reads_by sql params search_is.query old new survives Found (Err (Database error)) (λ clean. tt)
        (λ clean t holds. tt)
        (λ clean t holds. fails_refused {A = List (List ℕ)} (Err (Database error)) old new (λ e. cc) (λ e. cc))

-- ---- the two tables

abbrev pub table_at : Role → TableName
table_at role.Custodian = Custodian
table_at role.Approver = Approval

names_select : (role : Role) → IsSelect (select_text role)
unfolding everything first
names_select role.Custodian = (_, _, refl, refl, refl)
names_select role.Approver = (_, _, refl, refl, refl)

asks_names : (role : Role) (l : Layout) → Asks (schema_with l) (table_of l (table_at role)) (select_text role)
    (plain_query (l.tree (table_at role)) at_key name_shown) name_column
unfolding everything first
asks_names role.Custodian l = record { p = _; select = _; d = _; by = _; parsed = refl; untimed = refl; is = refl; drafted = refl; same = refl; from = refl; accepted = refl }
asks_names role.Approver l = record { p = _; select = _; d = _; by = _; parsed = refl; untimed = refl; is = refl; drafted = refl; same = refl; from = refl; accepted = refl }

pub select_is : (role : Role) → IsNameSearch (select_text role) (table_at role)
select_is role = record {
  meant = λ l at. asks (schema_with l) _ (classes l at (table_at role)) _ _ _ (asks_names role l);
  query = select_plain (select_text role) (names_select role);
}

pub names_ranged : (role : Role) (t : Tables) (old : State) → Holds t old.now
    → AllByRecursion IsNamed (names_of role t)
names_ranged role.Custodian t old holds = holds.in_range Custodian
names_ranged role.Approver t old holds = holds.in_range Approval

pub names_shown : (role : Role) (t : Tables) (old : State) (holds : Holds t old.now)
    → ShowsEntries name_cells (names_of role t) (table_rows holds.schema.layout (table_at role) old.now)
names_shown role t old holds = search arith
