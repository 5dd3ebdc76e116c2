-- A query that gives an answer was put to an open connection, and one that fails changes nothing that is committed,
-- under any schema.
use Rattle.std.proofs.Common.{◌≡◌, ◌⊎◌, ℕ, IsTrue, List, Result, Ok, Err, arith, ◌≢◌, Option, IfOk, IfErr, MatchOption}
use Rattle.std.proofs.Common.{inl, [], ◌∷◌, map, Some, None, OnOk, refl, sym, subst, ◌==◌, inr, zero, suc, ◌+◌, pos}
use Rattle.std.proofs.Common.{◌++◌, filter, slice_get, Bool, true, ◌∙◌, drop, bytes_eq, codes}
use Rattle.std.proofs.lemmas.List.Sorted.{IsPermutation-sym, IsPermutation-trans, IsPermutation-refl}
use Rattle.std.proofs.Math.Bool.{and-true}
use Rattle.std.proofs.lemmas.Bool.{eq-eqb, eqb-true, and_parts}
use Rattle.sqlite.specs.State.{State, HasCleanDisk, IsUnchanged, IsRolledBack, FailsToQuery, QueriesRow, Shown}
use Rattle.sqlite.specs.State.{Survives, CommitsShowing}
use Rattle.sqlite.specs.declared.error.Error.TheVariants.{QueryReturnedNoRows}
use Rattle.sqlite.specs.Term.{Term, col, op2, eval_all}
use Rattle.sqlite.specs.declared.types.Value.TheVariants.{Int, Null, Text as Words}
use Rattle.sqlite.specs.{declared.error.Error.Error, Order.Row, Order.Row as Cells, Collation.TheVariants.Binary}
use Rattle.sql_steps.proofs.Queries.{never_fails, never_not_run, gives_one, gives_none}
use Rattle.sql_steps.proofs.Statements.{picked, is_picked, plain_query}
use Rattle.sql_steps.proofs.{Asking.fails_whole, SameRows.map_has, Updates.has_permutation, Comparing.equal_numbers}
use Rattle.sql_steps.proofs.{Comparing.equal_words, Members.from_picked, Members.to_picked}
use Rattle.row_checks.specs.ShownRows.{IsQuery}
use Rattle.register_tables.specs.TableReads.{IsOpenStill, KeepsSight, SeesStill, ReadsBy, seen, HoldsWhereOpen, IsOneOf}
use Rattle.register_tables.specs.TableReads.{HasRow, ShowsKey, HasRequest, ShowsRequest}
use Rattle.register_tables.specs.declared.error.StoreError.TheVariants.{Memory, NoRegister}
use Rattle.register_tables.specs.Within.TableReads.{IsShownBy, ShowsNone}
use Rattle.register_tables.specs.FoundRows.{AnswersBy, FindsOne}
use Rattle.register_tables.specs.Tables.{Tables, IsKey, key_cells, key_row, numbered, Layout, request_cells, state_cell}
use Rattle.register_tables.specs.Tables.{table_of}
use Rattle.register_tables.specs.declared.table.TableName.TheVariants.{Keys, Request}
use Rattle.register_tables.specs.{declared.error.StoreError.StoreError, declared.counted.Counted.Counted, Schema.Holds}
use Rattle.register_tables.specs.Schema.{table_rows, schema_with}
use Rattle.register_tables.specs.declared.table.TableName.{TableName}
use Rattle.register_tables.specs.Columns.{request_columns, select}
use Rattle.register_tables.specs.{TableChanges.key_at, TableForms.name_of}
use Rattle.sqlite_trees.specs.declared.store.Store.{Ghosts}
use Rattle.std.specs.List.{AllByRecursion, enumerate_from}
use Rattle.std.specs.{List.Sorted.IsPermutation, Cmp.Lexicographic.bytes_decides}
use Rattle.sqlite_rules.specs.Lists.{Has}
use Rattle.register_tables.proofs.Readings.{IsSearch, fails_refused, reads_by, search_by}
use Rattle.register_tables.proofs.Texts.{find_text, find_is, find_names, has_number}
use Rattle.register_tables.proofs.ColumnTerms.{key_shown, shown_from}
use Rattle.register_tables.proofs.Decoding.{one_key, same_request}
use Rattle.register_tables.proofs.Meanings.{placed, Asks}
use Rattle.register_tables.proofs.{Actions.shows_all, EntryRows.picks_entries}
use Rattle.sqlite_trees.proofs.ListLemmas.{map-map, filter-map}
use Rattle.register_core.specs.KeptReply.{IsKeptReply, is_under, kept_under}
use Rattle.register_core.specs.{declared.key.Key.Key, declared.kept_reply.KeptReply.KeptReply}
use Rattle.sqlite_resolve.specs.Compile.{first}
use Rattle.sqlite_rules.proofs.ListLemmas.{all_has, has_filtered}
use Rattle.sqlite_sql.specs.{declared.ops.BinaryOp.TheVariants.Compare, declared.ops.CompareOp.TheVariants.Eq}
use Rattle.sqlite_tied.specs.Compute.{everything}
use Rattle.register_requests.specs.Request.{command_text}

-- what is unchanged was open and is
pub open_still : (old new : State) → IsUnchanged old new → IsOpenStill old new
open_still old new same = record { was_open = same.0.was_open; is_open = same.0.is_open }

module _ (sql : List ℕ) (params : Row) (query : IsQuery sql) (old new : State) where
  -- an answer changes nothing
  pub shown_same : (rows : List Row) → Shown sql params old new rows → IsUnchanged old new
  unfolding Shown
  shown_same rows h = search arith

  pub row_same : (row : Row) → QueriesRow sql params old new (Ok row) → IsUnchanged old new
  unfolding QueriesRow
  row_same row it = search (arith, shown_same)

  -- the error that tells that there is no row comes of no failure
  no_failure : FailsToQuery sql params old new QueryReturnedNoRows → ⊥
  unfolding FailsToQuery
  no_failure it = search (arith, never_not_run, never_fails)

  pub none_same : QueriesRow sql params old new (Err QueryReturnedNoRows) → IsUnchanged old new
  unfolding QueriesRow
  none_same it = search (arith, no_failure, shown_same)

  -- a failure changes nothing, or what was not committed is undone
  whole : (r : Result Row Error) → QueriesRow sql params old new r → IsUnchanged old new ⊎ IsRolledBack old new
  unfolding QueriesRow
  whole r h = search (arith, row_same, fails_whole, shown_same)

  sight_of : IsUnchanged old new ⊎ IsRolledBack old new → (IsTrue old.is_open → old.now ≡ old.committed)
      → IsTrue new.is_open → SeesStill old new
  sight_of it committed live = search arith

  pub keeps_sight : (r : Result Row Error) → (HasCleanDisk new → QueriesRow sql params old new r) → KeepsSight old new
  keeps_sight r asked clean committed live = sight_of (whole r (asked clean)) committed live

-- ---- What a search for one row finds by a reader that tells what a row shows.

-- the result is what the answer's row shows; it is no want of memory, and no register's row is refused
pub record Tells {A : Type 0} (IsOne : A → Type 0) (ShowsOne : Row → A → Type 0) (answer : Result Row Error)
    (result : Result (Option A) StoreError) : Type 0 where
  pub row : IfOk result (IsShownBy ShowsOne answer)
  pub failed : IfErr result (λ error. error ≢ Memory)
  pub registered : IfErr result (λ error. error ≡ NoRegister → ShowsNone IsOne ShowsOne answer)

-- what is made of the answer to this text, which tells so, is found so
abbrev pub ReadsRow : {A : Type 0} → (A → Type 0) → (Row → A → Type 0) → List ℕ → Row → (Tables → Option A → Type 0)
    → Type 1
ReadsRow {A} IsOne ShowsOne sql params Found =
    (old new : State) (answer : Result Row Error) (result : Result (Option A) StoreError)
    → Tells IsOne ShowsOne answer result
    → (HasCleanDisk new → QueriesRow sql params old new answer) → Survives old new (CommitsShowing sql params old)
    → ReadsBy Found old new result

-- a reader that gives what a row shows, and of a row that shows none gives nothing
tells : {A : Type 0} {Gives : Row → Option A → Type 0} {IsOne : A → Type 0} {ShowsOne : Row → A → Type 0}
    → ((row : Row) (given : Option A) → Gives row given
    → MatchOption given ((x : A) → IsOne x → ¬ ShowsOne row x) (ShowsOne row))
    → (answer : Result Row Error) (result : Result (Option A) StoreError) → AnswersBy Gives answer result
    → Tells IsOne ShowsOne answer result
tells reads answer result gives = search arith

-- what such a reader gives of the first row of the answer is found so
pub reads_one : {S A : Type 0} (g : Ghosts S) {Gives : Row → Option A → Type 0} {IsOne : A → Type 0}
    {ShowsOne : Row → A → Type 0} {sql : List ℕ} {params : Row} {Found : Tables → Option A → Type 0}
    → ReadsRow IsOne ShowsOne sql params Found
    → ((row : Row) (given : Option A) → Gives row given
    → MatchOption given ((x : A) → IsOne x → ¬ ShowsOne row x) (ShowsOne row))
    → (old new : Counted S g) (result : Result (Option A) StoreError)
    → FindsOne g sql params Gives old new result → ReadsBy Found (seen g old) (seen g new) result
reads_one g read reads old new result one =
    read (seen g old) (seen g new) one.answer result (tells reads one.answer result one.given) one.row one.survives

-- ---- What the search for one row finds, whatever table it asks and in whatever order.

-- no element is the image of none
none_mapped : {A B : Type 0} (f : A → B) (xs : List A) → IsPermutation [] (map f xs) → xs ≡ []
none_mapped f [] same = refl
none_mapped f (x ∷ xs) same =
    absurd (has_permutation (map f (x ∷ xs)) [] (f x) (IsPermutation-sym [] (map f (x ∷ xs)) same) (inl refl))

-- The text's first row has the cells of one that stands among those which the search is for, and where there is no
-- row there is none. Each of them is in its range, and is the only one that its cells show.
module _ {X : Type 0} (IsOne : X → Type 0) (ShowsOne : Cells → X → Type 0) (cells : X
    → Cells) (sql : List ℕ) (query : IsQuery sql) (params : Cells)
    (IsSought : Tables → X → Type 0) (HasNone : Tables → Type 0)
    (row_is : (old new : State) (t : Tables) → Holds t old.now → (row : Cells)
    → QueriesRow sql params old new (Ok row) → (x : X) × IsSought t x × (row ≡ cells x))
    (none_is : (old new : State) (t : Tables) → Holds t old.now
    → QueriesRow sql params old new (Err QueryReturnedNoRows) → HasNone t)
    (each : (t : Tables) (old : State) → Holds t old.now → (x : X) → IsSought t x → IsOne x × ShowsOne (cells x) x)
    (same : (x y : X) → IsOne x → ShowsOne (cells x) x → ShowsOne (cells x) y → y ≡ x)
    (Found : Tables → Option X → Type 0) (finds : (t : Tables) (x : X) → IsSought t x
    → Found t (Some x)) (finds_none : (t : Tables) → HasNone t → Found t None) where
  module _ (old new : State) where
    -- what is read was read of an open connection, and nothing is changed
    read_same : (r : Result Cells Error) (q : Result (Option X) StoreError) → IfOk q (IsShownBy ShowsOne r)
        → QueriesRow sql params old new r → OnOk q (IsUnchanged old new)
    read_same r q reads asked = search (arith, row_same, none_same)

    read_open : (q : Result (Option X) StoreError) → OnOk q (IsUnchanged old new) → OnOk q (IsOpenStill old new)
    read_open q unchanged = search (arith, open_still)

    module _ (t : Tables) (holds : HoldsWhereOpen t old) where
      -- no row of the tables is taken for one that no register holds
      registered_so : (r : Result Cells Error) (q : Result (Option X) StoreError)
          → IfErr q (λ error. error ≡ NoRegister → ShowsNone IsOne ShowsOne r) → QueriesRow sql params old new r
          → IfErr q (λ error. error ≢ NoRegister)
      registered_so r (Ok found) none asked = tt
      registered_so (Ok row) (Err e) none asked =
          let held = holds (row_same sql params query old new row asked).0.was_open in
          let got = row_is old new t held row asked in
          let own = each t old held got.0 got.1 in
          λ is. none is got.0 own.0 (subst (λ r. ShowsOne r got.0) (sym got.2) own.1)
      registered_so (Err f) (Err e) none asked = none

  pub answer_read : ReadsRow IsOne ShowsOne sql params Found
  answer_read old new r q told asked survives = reads_by sql params query old new survives Found q
      (λ clean. read_open old new q (read_same old new r q told.row (asked clean)))
      (search (arith, read_same))
      (grind (arith, fails_refused, registered_so))

-- The text picks of the tables the cells of what matches, in any order. Each that matches is in its range, and is the
-- only one that its cells show.
module _ {X : Type 0} (IsOne : X → Type 0) (ShowsOne : Cells → X → Type 0) (cells : X
    → Cells) (sql : List ℕ) (name : TableName) (passes shown : List Term) (names : List (List ℕ))
    (search_is : IsSearch sql name passes shown names) (params : Cells) (matching : Tables → List X)
    (picks : (t : Tables) (old : State) (holds : Holds t old.now)
    → IsPermutation (picked params 0 passes shown (table_rows holds.schema.layout name old.now))
    (map cells (matching t)))
    (each : (t : Tables) (old : State) → Holds t old.now → (x : X) → Has (matching t) x
    → IsOne x × ShowsOne (cells x) x)
    (same : (x y : X) → IsOne x → ShowsOne (cells x) x → ShowsOne (cells x) y → y ≡ x)
    (Found : Tables → Option X → Type 0) (finds : (t : Tables) (found : Option X) → IsOneOf (matching t) found
    → Found t found) where
  -- the row that the query gives
  pub row_is : (old new : State) (t : Tables) → Holds t old.now → (row : Cells)
      → QueriesRow sql params old new (Ok row) → (x : X) × Has (matching t) x × (row ≡ cells x)
  row_is old new t holds row h =
      let l = holds.schema.layout in
      let at = placed t old.now holds in
      let one = gives_one sql params old new _ holds.schema.is (l.tree name) passes shown names
      (search_is.meant l at).is (search_is.meant l at).plain (search_is.meant l at).unlisted
      (shows_all old.now.trees (l.tree name)) row h in
      let all = IsPermutation-trans _ _ _ (IsPermutation-sym _ _ one.1) (picks t old holds) in
      map_has cells (matching t) row (has_permutation (row ∷ one.0) (map cells (matching t)) row all (inl refl))

  -- no row
  pub none_is : (old new : State) (t : Tables) → Holds t old.now
      → QueriesRow sql params old new (Err QueryReturnedNoRows) → matching t ≡ []
  none_is old new t holds h =
      let l = holds.schema.layout in
      let at = placed t old.now holds in
      let none = gives_none sql params old new _ holds.schema.is (l.tree name) passes shown names
      (search_is.meant l at).is (search_is.meant l at).plain (search_is.meant l at).unlisted
      (shows_all old.now.trees (l.tree name)) h in
      none_mapped cells (matching t)
      (subst (λ rows. IsPermutation rows (map cells (matching t))) none (picks t old holds))

  pub row_read : ReadsRow IsOne ShowsOne sql params Found
  row_read =
      answer_read IsOne ShowsOne cells sql search_is.query params (λ t x. Has (matching t) x) (λ t. matching t ≡ [])
      row_is none_is each same Found (λ t x among. finds t (Some x) among) (λ t none. finds t None none)

-- ---- What the search for the key with a number finds.

-- ---- numbered keys

-- the cells of a key show it, whatever is after them
pub shows_key : (k : Key) (more : Cells) → IsKey k → ShowsKey (key_cells k ++ more) k
shows_key k more is = search arith

-- a numbered key stands at its number's place
pub at_number : (n : ℕ) (keys : List Key) (x : ℕ × Key) → Has (enumerate_from n keys) x
    → (i : ℕ) × (x.0 ≡ n + i) × (slice_get keys i ≡ Some x.1)
at_number n [] x h = absurd h
at_number n (k ∷ keys) x (inl e) = search arith
at_number n (k ∷ keys) x (inr h) = let r = at_number (n + 1) keys x h in (suc r.0, omega arith, r.2)

-- and the key at a place is numbered by it
pub number_at : (n : ℕ) (keys : List Key) (i : ℕ) (k : Key) → slice_get keys i ≡ Some k
    → Has (enumerate_from n keys) (n + i, k)
number_at n [] i k e = absurd (cc)
number_at n (first ∷ keys) zero k e = search arith
number_at n (first ∷ keys) (suc i) k e = grind (arith, number_at (n + 1) keys i k e)

pub in_range_at : (keys : List Key) (i : ℕ) (k : Key) → slice_get keys i ≡ Some k → AllByRecursion IsKey keys → IsKey k
in_range_at [] i k e all = absurd (cc)
in_range_at (first ∷ keys) zero k e all = let same : first ≡ k = cc in subst IsKey same all.0
in_range_at (first ∷ keys) (suc i) k e all = in_range_at keys i k e all.1

pub in_range : (keys : List Key) (number : ℕ) (k : Key) → key_at keys number ≡ Some k → AllByRecursion IsKey keys
    → IsKey k
in_range keys zero k e all = absurd (cc)
in_range keys (suc before) k e all = in_range_at keys before k e all

-- ---- the keys with a number

module _ (number : ℕ) where
  abbrev pub params : Cells
  params = Int (pos number) ∷ []

  abbrev check : ℕ × Key → Bool
  check x = is_picked params 0 has_number key_shown (key_row x)

  abbrev matching : Tables → List Key
  matching t = map (λ (x : ℕ × Key). x.1) (filter check (numbered t.keys))

  check_is : (x : ℕ × Key) → check x ≡ (x.0 == number)
  check_is x = rw (equal_numbers x.0 number) (and-true (x.0 == number))

  picks : (t : Tables) (old : State) (holds : Holds t old.now)
      → IsPermutation (picked params 0 has_number key_shown (table_rows holds.schema.layout Keys old.now))
      (map key_cells (matching t))
  picks t old holds = search (arith, picked, has_number, key_shown, filter-map, is_picked, map-map, IsPermutation-refl)

  found_at : (t : Tables) (k : Key) → Has (matching t) k → key_at t.keys number ≡ Some k
  found_at t k among = search (arith, from_picked, at_number, eqb-true, check_is)

  none_at : (t : Tables) → matching t ≡ [] → (n : ℕ) → n ≡ number → (found : Option Key) → key_at t.keys n ≡ found
      → found ≡ None
  none_at t none n its None is = refl
  none_at t none zero its (Some k) is = absurd (cc)
  none_at t none (suc i) its (Some k) is =
      let next : 1 + i ≡ number = omega arith in
      let passes : check (1 + i, k) ≡ true = check_is (1 + i, k) ∙ eq-eqb (1 + i) number next in
      absurd (subst (λ ks. Has ks k) none
      (to_picked (λ (x : ℕ × Key). x.1) check (numbered t.keys) (1 + i, k) (number_at 1 t.keys i k is) passes))

  finds : (t : Tables) (found : Option Key) → IsOneOf (matching t) found → HasRow number t found
  finds t found none = search (arith, none_at, found_at)

  each : (t : Tables) (old : State) → Holds t old.now → (k : Key) → Has (matching t) k
      → IsKey k × ShowsKey (key_cells k) k
  each t old holds k among =
      let is = in_range t.keys number k (found_at t k among) (holds.in_range Keys) in (is, shows_key k [] is)

  same : (k key : Key) → IsKey k → ShowsKey (key_cells k) k → ShowsKey (key_cells k) key → key ≡ k
  same k key is own shows = one_key (key_cells k) key k shows own

  pub key_read : ReadsRow IsKey ShowsKey find_text params (HasRow number)
  key_read = row_read IsKey ShowsKey key_cells find_text Keys has_number key_shown find_names find_is params
      matching picks each same (HasRow number) finds

-- ---- What the search for a caller's request by its number finds.

-- ---- the text

abbrev pub search_text : List ℕ
search_text = select request_columns (codes " FROM request WHERE caller = ?1 AND number = ?2")

-- the caller is the first parameter, and the number the second
abbrev under : List Term
under = op2 (Compare Eq Binary) (col 1 1) (col 0 0) ∷ op2 (Compare Eq Binary) (col 1 2) (col 0 1) ∷ []

abbrev answer_shown : List Term
answer_shown = shown_from 3 request_columns

abbrev answer_names : List (List ℕ)
answer_names = map name_of request_columns

asks_request : (l : Layout)
    → Asks (schema_with l) (table_of l Request) search_text (plain_query (l.tree Request) under answer_shown)
    answer_names
unfolding everything first
asks_request l = record { p = _; select = _; d = _; by = _; parsed = refl; untimed = refl; is = refl; drafted = refl; same = refl; from = refl; accepted = refl }

search_is : IsSearch search_text Request under answer_shown answer_names
search_is = search_by search_text Request under answer_shown answer_names asks_request

-- ---- the request under a caller's number

-- the cells of the answer
abbrev answer_cells : KeptReply → Cells
answer_cells k =
    Words (command_text k.command) ∷ Int (pos k.reply.key) ∷ Int (pos (state_cell k.reply.state))
    ∷ Int (pos k.reply.moment) ∷ []

module _ (caller : List ℕ) (number : ℕ) where
  abbrev pub request_params : Cells
  request_params = Words caller ∷ Int (pos number) ∷ []

  abbrev passing : Cells → Bool
  passing = is_picked request_params 0 under answer_shown

  past : (r : Cells) → passing r ≡ passing (Null ∷ drop 1 r)
  past r = search arith

  shown_past : (r : Cells)
      → eval_all answer_shown (request_params ∷ r ∷ []) ≡ eval_all answer_shown (request_params ∷ (Null ∷ drop 1 r) ∷ [])
  shown_past r = search arith

  under_is : (k : KeptReply) → passing (Null ∷ request_cells k) ≡ is_under caller number k
  under_is k = rw (equal_words k.caller caller, equal_numbers k.number number, and-true (k.number == number)) refl

  abbrev request_matching : Tables → List KeptReply
  request_matching t = kept_under caller number t.requests

  request_picks : (t : Tables) (old : State) (holds : Holds t old.now)
      → IsPermutation (picked request_params 0 under answer_shown (table_rows holds.schema.layout Request old.now))
      (map answer_cells (request_matching t))
  request_picks t old holds = picks_entries request_cells request_params 0 under answer_shown (is_under caller number) past under_is
      shown_past t.requests (table_rows holds.schema.layout Request old.now) (holds.shown Request)

  abbrev ShowsOne : Cells → KeptReply → Type 0
  ShowsOne = ShowsRequest caller number

  request_each : (t : Tables) (old : State) → Holds t old.now → (k : KeptReply) → Has (request_matching t) k
      → IsKeptReply k × ShowsOne (answer_cells k) k
  request_each t old holds k among =
      let it = has_filtered (is_under caller number) t.requests k among in
      let own = and_parts (bytes_eq k.caller caller) (k.number == number) it.1 in
      let is = all_has IsKeptReply t.requests k (holds.in_range Request) it.0 in (
        is,
        record {
          cells = record {
            caller = (bytes_decides k.caller caller).0 own.0;
            number = eqb-true k.number number own.1;
            command = (refl, is.command);
            key = refl;
            state = refl;
            moment = refl;
          };
          whole = is.whole;
        },
      )

  pub request_read : ReadsRow IsKeptReply ShowsOne search_text request_params (HasRequest caller number)
  request_read = row_read IsKeptReply ShowsOne answer_cells search_text Request under answer_shown answer_names
      search_is request_params request_matching request_picks request_each
      (λ k other is own shows. same_request caller number (answer_cells k) other k shows.cells own.cells)
      (HasRequest caller number) (λ t found among. among)
