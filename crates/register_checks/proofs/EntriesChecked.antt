-- Rows that pass each by itself.
use Rattle.std.proofs.Common.{◌≡◌, true, false, List, [], ◌∷◌, ◌++◌, Option, arith, ℕ, map, filter, drop, Bool, refl}
use Rattle.std.proofs.Common.{sym, ap, subst, ◌∙◌, Result, Ok, Err, ◌<◌}
use Rattle.std.proofs.lemmas.List.Sorted.{IsPermutation-map, IsPermutation-sym, IsPermutation-trans}
use Rattle.std.specs.Prelude.{MatchOption, is_some, IsErrAnd}
use Rattle.std.specs.{List.AllByRecursion, List.Sorted.IsPermutation}
use Rattle.sqlite.specs.State.{State, HasCleanDisk, IsUnchanged, Survives}
use Rattle.sqlite.specs.{Order.Row, declared.types.Value.TheVariants.Null, Effect.Database as Db, Program.overlay}
use Rattle.sqlite.specs.{Query.IsSureAnswer, Term.Term, Term.eval_all}
use Rattle.row_checks.specs.declared.error.RowsError.TheVariants.{NoMeaning, Refused, Memory}
use Rattle.row_checks.specs.ShownRows.{HasNoMeaning, ShowsAll, ShowsFirst}
use Rattle.row_checks.specs.{EachRow.ShowEach, declared.error.RowsError.RowsError}
use Rattle.row_checks.proofs.Each.{all_prefix, all_last, all_more, show_prefix, show_less, show_more, lift_permutation}
use Rattle.row_checks.proofs.Each.{show_mapped, show_same}
use Rattle.register_checks.specs.CheckedRows.{HasShown, RefusesEach, IsAnyPeriod}
use Rattle.register_tables.specs.Tables.{ShowsEntries, ShowsKeyed, request_cells, Counts, IsSetNeed, IsSetPeriod}
use Rattle.register_tables.specs.Tables.{ShowsSinceSecond, need_row, period_row, place_of}
use Rattle.register_checks.specs.CheckedTables.{AreNewer, IsOdd, ShowsRows, check_error, check_text, ShowsKept}
use Rattle.register_checks.specs.CheckedTables.{mark_of}
use Rattle.register_checks.specs.CheckedTables.{ShowsKeyNeed, ShowsTypePeriod, counts_of}
use Rattle.register_checks.specs.Stored.{HoldsStored, Part, Stored, with_part, mark}
use Rattle.register_checks.specs.declared.refusal.CheckError.{CheckError}
use Rattle.register_checks.specs.OpeningChecks.{MeetsCheck, IsReplyOf, IsNeedOf}
use Rattle.register_tables.specs.declared.table.TableName.TheVariants.{Request, Period, Quorum}
use Rattle.register_tables.specs.declared.table.TableName.{TableName}
use Rattle.register_checks.specs.Within.CheckedTables.{ChecksTable}
use Rattle.register_checks.specs.{Within.CheckedRows.IsAnything, declared.found.Found.Found}
use Rattle.sqlite_rules.proofs.ListLemmas.{all_has}
use Rattle.sqlite_rules.specs.Lists.{Has}
use Rattle.sql_steps.proofs.{Statements.answers, Statements.picked, Statements.plain_query, Updates.has_permutation}
use Rattle.sqlite_trees.proofs.ListLemmas.{map-map}
use Rattle.register_tables.proofs.EntryRows.{picks_entries}
use Rattle.register_checks.proofs.Asked.{AnswersTo, IsWithin, ShowsOwn, checks_table, in_both, shown_of_table}
use Rattle.register_tables.proofs.Decoding.{same_number, same_request, same_words, same_kind}
use Rattle.register_checks.proofs.{MetaChecked.newer_not, RowsFailed.reason_of}
use Rattle.register_tables.proofs.Actions.{shows_all}
use Rattle.register_core.specs.declared.kept_reply.KeptReply.{KeptReply}
use Rattle.register_core.specs.{KeptReply.IsKeptReply, Settings.KeyNeed, Settings.TypePeriod}
use Rattle.register_requests.specs.{declared.version.Version.Version, declared.version.Version.TheVariants.Second}

module _ {A : Type 0} (Shows : Row → A → Type 0) (P : A → Type 0) where
  pub none_shown : HasShown Shows P []
  none_shown = record { values = []; shown = tt; each = tt }

  pub one_more : (rows : List Row) (row : Row) (value : A) → HasShown Shows P rows → Shows row value → P value
      → HasShown Shows P (rows ++ row ∷ [])
  one_more rows row value taken shows passes = search (arith, show_more, all_more)

  -- a row that shows no value of which P holds
  pub one_odd : (rows : List Row) (row : Row) → ((value : A) → Shows row value → ¬ P value)
      → RefusesEach Shows P (rows ++ row ∷ [])
  one_odd rows row odd whole = search (arith, show_less, all_last)

  -- rows that do not pass do not begin rows that do
  pub odd_on : (rows : List Row) → RefusesEach Shows P rows → (tail : List Row) (values : List A)
      → ShowEach Shows (rows ++ tail) values → ¬ AllByRecursion P values
  odd_on rows refuses tail values shows each = search (arith, show_prefix, all_prefix)

-- ---- what is found of a row, or is not

pub found_one : {A : Type 0} (found : Option A) (P : Type 0) (Q : A → Type 0) → MatchOption found P Q
    → is_some found ≡ true → (x : A) × Q x
found_one found P Q holds is = search arith

pub found_none : {A : Type 0} (found : Option A) (P : Type 0) (Q : A → Type 0) → MatchOption found P Q
    → is_some found ≡ false → P
found_none found P Q holds is = search arith

-- ---- What the query of a table of entries shows where the database is a register's: its entries, in any order.

-- what holds of all of a list holds of all of its permutation
pub all_permuted : {A : Type 0} (P : A → Type 0) (xs ys : List A) → IsPermutation xs ys → AllByRecursion P xs
    → AllByRecursion P ys
all_permuted P xs ys same all =
    from ys (λ y h. all_has P xs y all (has_permutation ys xs y (IsPermutation-sym xs ys same) h))
  where
    from : (zs : List _) → ((y : _) → Has zs y → P y) → AllByRecursion P zs
    from [] each = tt
    from (z ∷ zs) each =
        (each z (Rattle.std.proofs.Common.inl refl), from zs (λ y h. each y (Rattle.std.proofs.Common.inr h)))

filter_all : {A : Type 0} (xs : List A) → filter (λ x. true) xs ≡ xs
filter_all [] = refl
filter_all (x ∷ xs) = ap (λ l. x ∷ l) (filter_all xs)

module _ {A : Type 0} (cells_of : A → Row) (Shows : Row → A → Type 0) (Is : A → Type 0) (tree : ℕ) (shown : List Term)
    (shown_past : (r : Row) → eval_all shown ([] ∷ r ∷ []) ≡ eval_all shown ([] ∷ (Null ∷ drop 1 r) ∷ []))
    (shows : (entry : A) → Is entry → Shows (eval_all shown ([] ∷ (Null ∷ cells_of entry) ∷ [])) entry) where
  abbrev row_of : A → Row
  row_of entry = eval_all shown ([] ∷ (Null ∷ cells_of entry) ∷ [])

  -- the entries in another order, which the rows show
  pub own_entries : (db : Db) (entries : List A) (rows : List Row) → AllByRecursion Is entries
      → ShowsEntries cells_of entries (db.trees tree) → overlay db.trees [] tree ≡ db.trees tree
      → IsSureAnswer (plain_query tree [] shown) (overlay db.trees []) [] rows
      → (others : List A) × IsPermutation entries others × ShowEach Shows rows others
  own_entries db entries rows in_range stand low sure =
      let answered = subst (λ rs. IsPermutation (picked [] tree [] shown rs) rows) low
      (answers [] tree [] shown (overlay db.trees []) rows sure) in
      let picks = picks_entries cells_of [] tree [] shown (λ entry. true) (λ r. refl) (λ entry. refl) shown_past
      entries (db.trees tree) stand in
      let all = subst (λ es. IsPermutation (picked [] tree [] shown (db.trees tree)) (map row_of es))
      (filter_all entries) picks in
      let it = lift_permutation row_of entries rows
      (IsPermutation-trans _ _ _ (IsPermutation-sym _ _ all) answered) in (
        it.0,
        it.2,
        subst (λ rs. ShowEach Shows rs it.0) it.1
            (show_mapped Shows row_of Is shows it.0 (all_permuted Is entries it.0 it.2 in_range)),
      )

-- and of a table whose entries have rowids of their own
module _ {A : Type 0} (row_of : A → Row) (Shows : Row → A → Type 0) (Is : A → Type 0) (tree : ℕ) (shown : List Term)
    (shows : (entry : A) → Is entry → Shows (eval_all shown ([] ∷ row_of entry ∷ [])) entry) where
  abbrev out : Row → Row
  out r = eval_all shown ([] ∷ r ∷ [])

  pub own_keyed : (db : Db) (entries : List A) (rows : List Row) → AllByRecursion Is entries
      → ShowsKeyed row_of entries (db.trees tree) → overlay db.trees [] tree ≡ db.trees tree
      → IsSureAnswer (plain_query tree [] shown) (overlay db.trees []) [] rows
      → (others : List A) × IsPermutation entries others × ShowEach Shows rows others
  own_keyed db entries rows in_range stand low sure =
      let held = db.trees tree in
      let answered = subst (λ rs. IsPermutation (picked [] tree [] shown rs) rows) low
      (answers [] tree [] shown (overlay db.trees []) rows sure) in
      let all : picked [] tree [] shown held ≡ map out held = ap (map out) (filter_all held) in
      let moved = IsPermutation-map out held (map row_of entries) stand.rows_are in
      let right : map out (map row_of entries) ≡ map (λ x. out (row_of x)) entries = map-map out row_of entries in
      let own = IsPermutation-sym _ _ (subst (IsPermutation (map out held)) right moved) in
      let it = lift_permutation (λ x. out (row_of x)) entries rows
      (IsPermutation-trans _ _ _ own (subst (λ l. IsPermutation l rows) all answered)) in (
        it.0,
        it.2,
        subst (λ rs. ShowEach Shows rs it.0) it.1
            (show_mapped Shows (λ x. out (row_of x)) Is shows it.0 (all_permuted Is entries it.0 it.2 in_range)),
      )

-- ---- The check of a table of entries that pass each by itself, and of which nothing is found.

-- the rows show what meets the table's check, where the tables before it are those of t
abbrev pub Meets : TableName → Stored → List Row → Type 0
Meets name t rows = (c : Part name) × ShowsRows name rows c × MeetsCheck name (with_part name c t)

-- What is proved of such a table: `Shows` says which entry a row shows, and P which entries pass.
pub record AreChecked (name : TableName) {A : Type 0} (Shows : Row → A → Type 0) (P : A → Type 0) (t : Stored) : Type
    0 where
  -- the version has it
  pub within : IsWithin name t.version
  -- what its query shows where the database is a register's
  pub own : (db : Db) (rows : List Row) (holds : HoldsStored t db) → AnswersTo holds.schema.layout name db rows
      → ShowsOwn name t rows
  -- rows show one
  pub one : (rows : List Row) (c d : Part name) → ShowsRows name rows c → ShowsRows name rows d → c ≡ d
  -- it meets its check exactly where each entry passes
  pub taken : (rows : List Row) → HasShown Shows P rows → Meets name t rows
  pub given : (rows : List Row) → Meets name t rows → HasShown Shows P rows
  pub no_newer : (rows : List Row) → AreNewer name rows → ⊥

module _ (name : TableName) {A : Type 0} (Shows : Row → A → Type 0) (P : A
    → Type 0) (t : Stored) (are : AreChecked name Shows P t)
    (old new : State) (survives : Survives old new (λ _. ⊥)) where
  abbrev Checked : Result (Unit {0}) CheckError → Type 0
  Checked q = ChecksTable name t IsAnything old new q

  pub entries_read : (HasCleanDisk new → ShowsAll (check_text name) (HasShown Shows P) old new) → Checked (Ok tt)
  entries_read all =
      checks_table name t are.within are.own (newer_not t) IsAnything (λ c d x like says. tt) are.one old new (Ok tt)
      (λ clean.
      let it = all clean in
      let met = are.taken it.rows it.holds in
      (met.0, record { rows = it.rows; shown = it.shown; holds = met.1; same = it.same }, met.2, tt))
      (λ clean. tt) survives

  -- the same beside what a check keeps
  pub entries_read_beside : {Kept : Type 0}
      → (HasCleanDisk new → ShowsAll (check_text name) (λ rows. Kept × HasShown Shows P rows) old new) → Checked (Ok tt)
  entries_read_beside all = search (arith, entries_read)

  odd : (rows : List Row) → RefusesEach Shows P rows → (tail : List Row) → IsOdd name t (rows ++ tail)
  odd rows refuses tail = record {
    fails = λ c shows meets.
        let it = are.given (rows ++ tail) (c, shows, meets) in
        odd_on Shows P rows refuses tail it.values it.shown it.each;
    no_newer = are.no_newer (rows ++ tail);
  }

  entries_fail : (error : RowsError) (e : CheckError) → e ≡ check_error error
      → (HasCleanDisk new → error ≡ NoMeaning → HasNoMeaning (check_text name) old new)
      → (HasCleanDisk new → error ≡ Refused → ShowsFirst (check_text name) (RefusesEach Shows P) old new)
      → (HasCleanDisk new → error ≡ Memory → IsUnchanged old new) → Checked (Err e)
  entries_fail error e is meaning refused memory =
      checks_table name t are.within are.own (newer_not t) IsAnything (λ c d x like says. tt) are.one old new (Err e)
      (λ clean. tt)
      (search (arith, reason_of, odd))
      survives

  -- the same of the error that a call hands on
  pub entries_stopped : (error : RowsError) (q : Result (Unit {0}) CheckError) → IsErrAnd q (λ e. e ≡ check_error error)
      → (HasCleanDisk new → error ≡ NoMeaning → HasNoMeaning (check_text name) old new)
      → (HasCleanDisk new → error ≡ Refused → ShowsFirst (check_text name) (RefusesEach Shows P) old new)
      → (HasCleanDisk new → error ≡ Memory → IsUnchanged old new) → Checked q
  entries_stopped error (Ok x) is meaning refused memory = absurd is
  entries_stopped error (Err e) is meaning refused memory = entries_fail error e is meaning refused memory

-- ---- The check of the table of requests.

shown_past : (r : Row)
    → eval_all (shown_of_table Request) ([] ∷ r ∷ [])
    ≡ eval_all (shown_of_table Request) ([] ∷ (Null ∷ Rattle.std.specs.Prelude.drop 1 r) ∷ [])
shown_past r = search arith

own_row : (k : KeptReply) → IsKeptReply k
    → ShowsKept (eval_all (shown_of_table Request) ([] ∷ (Null ∷ request_cells k) ∷ [])) k
own_row k is = search arith

own_requests : (t : Stored) (db : Db) (rows : List Row) (holds : HoldsStored t db)
    → AnswersTo holds.schema.layout Request db rows → ShowsOwn Request t rows
own_requests t db rows holds sure =
    let it = own_entries request_cells ShowsKept IsKeptReply (holds.schema.layout.tree Request)
    (shown_of_table Request) shown_past own_row db t.tables.requests rows (holds.in_range Request) (holds.shown Request)
    (shows_all db.trees (holds.schema.layout.tree Request)) sure in search (arith, all_permuted)

-- a row shows one request
pub one_kept : (row : Row) (a b : KeptReply) → ShowsKept row a → ShowsKept row b → a ≡ b
one_kept row a b x y = search (arith, same_words, same_number, same_request)

-- the check asks of each that the register of this version, with these counts, may have given its reply
pub are_checked : (t : Stored) (found : Found) → mark_of found ≡ mark t
    → AreChecked Request ShowsKept (IsReplyOf (mark_of found)) t
are_checked t found counts = record {
  within = in_both Request (omega arith) t.version;
  own = own_requests t;
  one = show_same ShowsKept one_kept;
  taken = λ rows it. (it.values, it.shown, subst (λ n. AllByRecursion (IsReplyOf n) it.values) counts it.each);
  given = search arith;
  no_newer = λ rows none. none;
}

-- ---- The checks of the tables of what is set.

-- ---- a register's own rows

own_periods : (t : Stored) → t.version ≡ Second → (db : Db) (rows : List Row) (holds : HoldsStored t db)
    → AnswersTo holds.schema.layout Period db rows → ShowsOwn Period t rows
own_periods t second db rows holds sure =
    let tree = holds.schema.layout.tree Period in
    let it = own_keyed period_row ShowsTypePeriod IsSetPeriod tree (shown_of_table Period)
    (λ set is. record { kind = refl; originator = refl; recipient = refl; in_range = is }) db t.tables.periods rows
    (holds.in_range Period)
    (subst (λ v. ShowsSinceSecond period_row v t.tables.periods (db.trees tree)) second (holds.shown Period))
    (shows_all db.trees tree) sure in
    record { c = it.0; shows = it.2; like = it.1; meets = λ meets. tt }

own_needs : (t : Stored) → t.version ≡ Second → (db : Db) (rows : List Row) (holds : HoldsStored t db)
    → AnswersTo holds.schema.layout Quorum db rows → ShowsOwn Quorum t rows
own_needs t second db rows holds sure =
    let tree = holds.schema.layout.tree Quorum in
    let it = own_keyed need_row ShowsKeyNeed IsSetNeed tree (shown_of_table Quorum)
    (λ set is. record { key = refl; need = refl; in_range = is }) db t.tables.needs rows
    (holds.in_range Quorum)
    (subst (λ v. ShowsSinceSecond need_row v t.tables.needs (db.trees tree)) second (holds.shown Quorum))
    (shows_all db.trees tree) sure in search (arith, all_permuted)

-- ---- a row shows one

one_period : (row : Row) (a b : TypePeriod) → ShowsTypePeriod row a → ShowsTypePeriod row b → a ≡ b
one_period row a b x y = search (arith, same_kind, same_number)

pub one_need : (row : Row) (a b : KeyNeed) → ShowsKeyNeed row a → ShowsKeyNeed row b → a ≡ b
one_need row a b x y = search (arith, same_number)

-- ---- the checks

pub second_within : (name : TableName) (t : Stored) → t.version ≡ Second → place_of name < 7 → IsWithin name t.version
second_within name t second low = subst (IsWithin name) (sym second) low

counted : (t : Stored) (found : Found) → mark_of found ≡ mark t → counts_of found ≡ t.tables.counts
counted t found told = ap (λ (m : Version × Counts). m.1) told

any_all : (sets : List TypePeriod) → AllByRecursion IsAnyPeriod sets
any_all [] = tt
any_all (set ∷ sets) = (tt, any_all sets)

-- of periods nothing is asked but their ranges
pub periods_checked : (t : Stored) → t.version ≡ Second → AreChecked Period ShowsTypePeriod IsAnyPeriod t
periods_checked t second = record {
  within = second_within Period t second (omega arith);
  own = own_periods t second;
  one = show_same ShowsTypePeriod one_period;
  taken = λ rows it. (it.values, it.shown, tt);
  given = λ rows met. record { values = met.0; shown = met.1; each = any_all met.0 };
  no_newer = λ rows none. none;
}

-- of each need, that its key is one of those that are counted
pub needs_checked : (t : Stored) (found : Found) → t.version ≡ Second → mark_of found ≡ mark t
    → AreChecked Quorum ShowsKeyNeed (IsNeedOf (counts_of found)) t
needs_checked t found second told = record {
  within = second_within Quorum t second (omega arith);
  own = own_needs t second;
  one = show_same ShowsKeyNeed one_need;
  taken = grind (arith, counted);
  given = search (arith, counted);
  no_newer = λ rows none. none;
}
