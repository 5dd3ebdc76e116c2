-- What the query of a table shows where the database is a register's, and so that no check of its tables fails.
use Rattle.std.proofs.Common.{◌≡◌, ◌<◌, inl, inr, ℕ, List, [], ◌∷◌, ◌++◌, Result, Ok, Err, IfOk, IfErr, sym, ap, subst}
use Rattle.std.proofs.Common.{◌∙◌, refl, arith}
use Rattle.std.specs.List.Sorted.{IsPermutation}
use Rattle.sqlite.specs.State.{State, HasCleanDisk, Begins, Shown, Survives}
use Rattle.sqlite.specs.{Command.TheVariants.Select, Effect.Database, Listing.understood, Order.Row, Program.overlay}
use Rattle.sqlite.specs.{Query.Query, Query.IsSureAnswer, Term.Term, Term.col}
use Rattle.sqlite.proofs.Callers.{IsPlain, begins_as, reads_as}
use Rattle.sqlite_tied.specs.Compute.{everything}
use Rattle.sql_steps.proofs.Statements.{plain_query}
use Rattle.row_checks.specs.ShownRows.{HasNoMeaning, IsQuery, ShowsAll, ShowsFirst}
use Rattle.row_checks.proofs.Selects.{IsSelect, select_plain}
use Rattle.register_checks.specs.declared.refusal.CheckError.{CheckError}
use Rattle.register_checks.specs.declared.refusal.CheckError.TheVariants.{NotARegister, NewerVersion, Memory}
use Rattle.register_checks.specs.declared.refusal.CheckError.TheVariants.{Database as Refused}
use Rattle.register_tables.specs.declared.table.TableName.TheVariants.{Meta, Keys, Custodian, Approval, Request, Period}
use Rattle.register_tables.specs.declared.table.TableName.TheVariants.{Quorum}
use Rattle.register_checks.specs.CheckedTables.{BlamesNone, FailsCheck, HasNewer, IsReasonAt, ShowsRows, check_text}
use Rattle.register_tables.specs.Columns.{meta_columns, name_columns, request_columns, period_columns, need_columns}
use Rattle.register_checks.specs.Stored.{HoldsStored, Part, Stored, part, with_part}
use Rattle.register_tables.specs.Tables.{Layout, place_of, table_count, table_of}
use Rattle.register_checks.specs.OpeningChecks.{MeetsCheck, MeetsChecks}
use Rattle.register_tables.specs.{declared.table.TableName.TableName, Schema.schema_in}
use Rattle.register_checks.specs.Within.CheckedTables.{ChecksTable}
use Rattle.sqlite_resolve.specs.Compile.{first}
use Rattle.register_requests.specs.declared.version.Version.{Version}
use Rattle.register_requests.specs.declared.version.Version.TheVariants.{First, Second}
use Rattle.register_tables.proofs.Meanings.{Asks, IsPlacedIn, Meant, asks, classes_in, placed_as}
use Rattle.register_tables.proofs.ColumnTerms.{key_shown, shown_from}
use Rattle.register_checks.proofs.Ordered.{ordered_query}

-- ---- what the texts mean

abbrev pub shown_of_table : TableName → List Term
shown_of_table Meta = col 1 0 ∷ shown_from 2 meta_columns
shown_of_table Keys = key_shown ++ col 1 0 ∷ []
shown_of_table Custodian = shown_from 1 name_columns
shown_of_table Approval = shown_from 1 name_columns
shown_of_table Request = shown_from 3 request_columns ++ col 1 1 ∷ col 1 2 ∷ []
shown_of_table Period = col 1 0 ∷ shown_from 2 period_columns
shown_of_table Quorum = col 1 0 ∷ shown_from 2 need_columns

abbrev pub asked : Layout → TableName → Query
asked l Meta = ordered_query (l.tree Meta) (shown_of_table Meta)
asked l Keys = ordered_query (l.tree Keys) (shown_of_table Keys)
asked l name = plain_query (l.tree name) [] (shown_of_table name)

-- the version has the table
abbrev pub IsWithin : TableName → Version → Type 0
IsWithin name version = place_of name < table_count version

-- the first tables are those of each version
pub in_both : (name : TableName) → place_of name < 5 → (version : Version) → IsWithin name version
in_both name low version = search arith

-- the text of a table's query means that in a version, under some names
abbrev pub IsAsked : Version → TableName → Layout → Type 0
IsAsked version name l =
    (names : List (List ℕ)) × Asks (schema_in version l) (table_of l name) (check_text name) (asked l name) names

pub asks_for : (version : Version) (name : TableName) → IsWithin name version → (l : Layout) → IsAsked version name l
unfolding everything first
asks_for First Period low l = absurd (omega (arith, low))
asks_for First Quorum low l = absurd (omega (arith, low))
asks_for First Meta low l = (_, record { p = _; select = _; d = _; by = _; parsed = refl; untimed = refl; is = refl; drafted = refl; same = refl; from = refl; accepted = refl })
asks_for First name low l = (_, record { p = _; select = _; d = _; by = _; parsed = refl; untimed = refl; is = refl; drafted = refl; same = refl; from = refl; accepted = refl })
asks_for Second Meta low l = (_, record { p = _; select = _; d = _; by = _; parsed = refl; untimed = refl; is = refl; drafted = refl; same = refl; from = refl; accepted = refl })
asks_for Second name low l = (_, record { p = _; select = _; d = _; by = _; parsed = refl; untimed = refl; is = refl; drafted = refl; same = refl; from = refl; accepted = refl })

pub asked_is : (version : Version) (name : TableName) (within : IsWithin name version) (l : Layout)
    → IsPlacedIn version l
    → Meant (schema_in version l) (check_text name)
    (Select (record { lets = []; body = asked l name }) (asks_for version name within l).0)
asked_is version name within l at =
    asks (schema_in version l) (table_of l name) (classes_in version l at name within) _ _ _
    (asks_for version name within l).1

select_of : (name : TableName) → IsSelect (check_text name)
unfolding everything first
select_of Meta = (_, _, refl, refl, refl)
select_of name = (_, _, refl, refl, refl)

-- it is a query under any schema
pub query_of : (name : TableName) → IsQuery (check_text name)
query_of name = select_plain (check_text name) (select_of name)

-- ---- what is shown of a register's table

-- the rows of an answer to the query of a table
abbrev pub AnswersTo : Layout → TableName → Database → List Row → Type 0
AnswersTo l name db rows = IsSureAnswer (asked l name) (overlay db.trees []) [] rows

-- what a table shows, but for the order of entries
abbrev pub IsLike : (name : TableName) → Part name → Part name → Type 0
IsLike Meta c d = c ≡ d
IsLike Keys c d = c ≡ d
IsLike name c d = IsPermutation d c

-- the rows of an answer show what the table has, which meets the check where the table does
pub record ShowsOwn (name : TableName) (t : Stored) (rows : List Row) : Type 0 where
  pub c : Part name
  pub shows : ShowsRows name rows c
  pub like : IsLike name c (part name t)
  pub meets : MeetsCheck name t → MeetsCheck name (with_part name c t)

module _ (name : TableName) (t : Stored) (within : IsWithin name t.version) where
  abbrev asked_of : (db : Database) (holds : HoldsStored t db) → Meant (schema_in t.version holds.schema.layout)
      (check_text name) (Select (record { lets = []; body = asked holds.schema.layout name })
      (asks_for t.version name within holds.schema.layout).0)
  asked_of db holds = asked_is t.version name within holds.schema.layout (placed_as t.version t.tables db holds)

  meaning_of : (old new : State) → HoldsStored t old.now → HasNoMeaning (check_text name) old new → ⊥
  meaning_of old new holds none = absurd (meant (understood (schema_in t.version l) (check_text name))
      (asked_of old.now holds).plain (sym (ap (λ s. understood s (check_text name)) holds.schema.is) ∙ none.meaning))
    where
      l : Layout
      l = holds.schema.layout

      meant : (r : _) → IsPlain r → ¬ (r ≡ Err none.fault)
      meant (Ok c) plain e = cc
      meant (Err f) plain e = plain

  shown_answers : (old new : State) (rows : List Row) (holds : HoldsStored t old.now)
      → Shown (check_text name) [] old new rows → AnswersTo holds.schema.layout name old.now rows
  shown_answers old new rows holds shown =
      let it = asked_of old.now holds in
      (reads_as (check_text name) [] old new (schema_in t.version holds.schema.layout) holds.schema.is _ it.is it.plain
      it.unlisted rows shown).answer

  begun_answers : (s : State) (rows : List Row) (holds : HoldsStored t s.now) → Begins (check_text name) [] s rows
      → (tail : List Row) × AnswersTo holds.schema.layout name s.now (rows ++ tail)
  begun_answers s rows holds begins =
      let it = asked_of s.now holds in
      let first = begins_as (check_text name) [] s s (schema_in t.version holds.schema.layout) holds.schema.is _ it.is
      it.plain it.unlisted rows begins in
      (first.1.0, first.1.1)

  module _ (own : (db : Database) (rows : List Row) (holds : HoldsStored t db)
      → AnswersTo holds.schema.layout name db rows
      → ShowsOwn name t rows) where
    -- all rows that are shown
    pub shown_own : {P : List Row → Type 0} (old new : State) → HoldsStored t old.now
        → (all : ShowsAll (check_text name) P old new) → ShowsOwn name t all.rows
    shown_own old new holds all = own old.now all.rows holds (shown_answers old new all.rows holds all.shown)

    -- the first rows
    pub begun_own : {P : List Row → Type 0} (old new : State) → HoldsStored t old.now
        → (some : ShowsFirst (check_text name) P old new) → (tail : List Row) × ShowsOwn name t (some.rows ++ tail)
    begun_own old new holds some =
        let here = subst (HoldsStored t) (sym some.same.0.now_is) holds in
        let begun = begun_answers new some.rows here some.shown in
        (begun.0, own new.now (some.rows ++ begun.0) here begun.1)

    -- the check of a register's table does not fail
    pub fails_not : (old new : State) → HoldsStored t old.now → MeetsCheck name t → FailsCheck name t old new → ⊥
    fails_not old new holds meets (inl none) = meaning_of old new holds none
    fails_not old new holds meets (inr (inl some)) =
        let it = begun_own old new holds some in
        (some.holds it.0).fails it.1.c it.1.shows (it.1.meets meets)
    fails_not old new holds meets (inr (inr all)) =
        let it = shown_own old new holds all in
        all.holds.fails it.c it.shows (it.meets meets)

    module _ (newer_not : (found : ℕ) (old new : State) → HoldsStored t old.now → HasNewer found old new → ⊥) where
      pub blames_none : {T : Type 0} (old new : State) (q : Result T CheckError) → HoldsStored t old.now
          → MeetsChecks t → IfErr q (IsReasonAt name t old new) → IfErr q BlamesNone
      blames_none old new (Ok x) holds meets why = tt
      blames_none old new (Err NotARegister) holds meets why = fails_not old new holds (meets name) why.0
      blames_none old new (Err (NewerVersion found)) holds meets why = newer_not found old new holds why
      blames_none old new (Err Memory) holds meets why = tt
      blames_none old new (Err (Refused error)) holds meets why = tt

      module _ {T : Type 0} (Says : Part name → T → Type 0) (respects : (c d : Part name) (x : T)
          → IsLike name c d → Says c x → Says d x)
          (one : (rows : List Row) (c d : Part name) → ShowsRows name rows c → ShowsRows name rows d → c ≡ d) where
        abbrev IsPassed : State → State → T → Type 0
        IsPassed old new found = (c : Part name) × ShowsAll (check_text name) (λ rows. ShowsRows name rows c) old new
            × MeetsCheck name (with_part name c t) × Says c found

        told : (old new : State) (q : Result T CheckError) → HoldsStored t old.now → IfOk q (IsPassed old new)
            → IfOk q (Says (part name t))
        told old new (Err e) holds passed = tt
        told old new (Ok x) holds passed =
            let it = shown_own old new holds passed.1 in
            let same = one passed.1.rows passed.0 it.c passed.1.holds it.shows in
            respects it.c (part name t) x it.like (subst (λ c. Says c x) same passed.3)

        pub checks_table : (old new : State) (q : Result T CheckError)
            → (HasCleanDisk new → IfOk q (IsPassed old new)) → (HasCleanDisk new → IfErr q (IsReasonAt name t old new))
            → Survives old new (λ _. ⊥)
            → ChecksTable name t Says old new q
        checks_table old new q passed refused survives = record {
          passed = passed;
          refused = refused;
          told = λ clean holds meets. told old new q holds (passed clean);
          blames_none = λ clean holds meets. blames_none old new q holds meets (refused clean);
          survives = survives;
        }
