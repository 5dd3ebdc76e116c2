-- What a count of a table's rows tells of the table.
use Rattle.std.proofs.Common.{◌≡◌, ◌<◌, inl, inr, ℕ, List, [], Bool, false, Ok, Err, refl, sym, subst, ◌+◌, get_or}
use Rattle.std.proofs.Common.{arith}
use Rattle.sqlite.specs.State.{State, HasCleanDisk, QueriesRow, QueriesRowInside, FailsToQuery, Survives}
use Rattle.sqlite.specs.{declared.error.Error.Error, declared.error.Error.TheVariants.SqlInputError, Effect.Database}
use Rattle.sqlite.specs.{Effect.IsDatabase, Listing.understood, Query.Query, Schema.Schema}
use Rattle.sqlite.proofs.Callers.{IsPlain}
use Rattle.sqlite_resolve.specs.{Compile.first, declared.error.CompileError.CompileError}
use Rattle.sqlite_tied.specs.Compute.{everything}
use Rattle.sql_steps.specs.Steps.{StepsBy}
use Rattle.sql_steps.proofs.{Asking.asks_meaningless, Stepping.steps_as, Stepping.steps_then}
use Rattle.row_checks.specs.ShownRows.{IsQuery}
use Rattle.row_checks.proofs.{RowByRow.no_meaning, Selects.IsSelect, Selects.select_plain}
use Rattle.register_requests.specs.declared.version.Version.{Version}
use Rattle.register_requests.specs.declared.version.Version.TheVariants.{First, Second}
use Rattle.register_tables.specs.Tables.{Layout, all_tables, count_text, place_of, table_count, table_of}
use Rattle.register_tables.specs.{declared.table.TableName.TableName, declared.table.TableName.TheVariants.Meta}
use Rattle.register_schema.specs.Creation.{HasMeaning, HasTable, IsThere}
use Rattle.register_schema.specs.Within.Creation.{Answers}
use Rattle.register_tables.specs.Schema.{IsRegisterIn, schema_in}
use Rattle.register_schema.specs.Within.Creation.{LacksFirst}
use Rattle.register_tables.proofs.Meanings.{Asks, asks, classes_in, placed_of}

select_of : (name : TableName) → IsSelect (count_text name)
unfolding everything first
select_of Meta = (_, _, refl, refl, refl)
select_of name = (_, _, refl, refl, refl)

query_of : (name : TableName) → IsQuery (count_text name)
query_of name = select_plain (count_text name) (select_of name)

-- ---- a table that is not there

module _ (name : TableName) (old new : State) where
  lacks : (e : Error) (fault : CompileError) → e ≡ SqlInputError fault
      → QueriesRowInside (count_text name) [] old new (Err e) → IsThere name old.now.schema → ⊥
  unfolding QueriesRow
  lacks e fault is (inl (inl fails)) there =
      let none = no_meaning (count_text name) [] old new fault (query_of name)
      (subst (FailsToQuery (count_text name) [] old new) is fails) in
      absurd (let fault = none.meaning in let sense = there.1 in cc)
  lacks e fault is (inl (inr none)) there = absurd (let named = none.0 in cc)
  lacks e fault is (inr late) there = absurd (let named = late.4 in cc)

  -- its count has no meaning
  pub answers_no : {F : Type 0} (e : Error) (fault : CompileError) → e ≡ SqlInputError fault
      → (HasCleanDisk new → QueriesRowInside (count_text name) [] old new (Err e)) → Survives old new (λ _. ⊥)
      → StepsBy {E = F} (Answers (IsThere name)) old new (Ok false)
  answers_no {F = F} e fault is asked survives =
      let same = asks_meaningless old new {E = F} (λ (_ : Unit {0}) (a b : Database). b ≡ a) tt (count_text name) [] e
      fault is (λ is. is) asked survives in
      record {
        changed = search (arith, lacks);
        kept = same.kept;
        survives = same.survives;
      }

-- ---- the tables one after the other

abbrev pub table_at : ℕ → TableName
table_at n = get_or all_tables n Meta

-- one more was looked for
pub lacks_next : {E : Type 0} (n : ℕ) (a b d : State) (found : Bool) → found ≡ false
    → StepsBy {E = E} (λ (_ : Unit {0}). LacksFirst n) a b (Ok tt)
    → StepsBy {E = E} (Answers (IsThere (table_at n))) b d (Ok found)
    → StepsBy {E = E} (λ (_ : Unit {0}). LacksFirst (n + 1)) a d (Ok tt)
lacks_next {E = E} n a b d found none so_far look = search (arith, steps_as, steps_then)

-- ---- a register's tables are there

-- the count of meta asks that table
counts : (version : Version) (l : Layout)
    → (q : Query) × (names : List (List ℕ)) × Asks (schema_in version l) (table_of l Meta) (count_text Meta) q names
unfolding everything first
counts First l = (_, _, record { p = _; select = _; d = _; by = _; parsed = refl; untimed = refl; is = refl; drafted = refl; same = refl; from = refl; accepted = refl })
counts Second l = (_, _, record { p = _; select = _; d = _; by = _; parsed = refl; untimed = refl; is = refl; drafted = refl; same = refl; from = refl; accepted = refl })

first_low : (version : Version) → place_of Meta < table_count version
first_low version = search arith

means_one : (schema : Schema) (sql : List ℕ) → IsPlain (understood schema sql) → HasMeaning schema sql
means_one schema sql plain = search arith

pub has_table : (version : Version) (db : Database) → IsRegisterIn version db.schema → IsDatabase db → HasTable db.schema
has_table version db register sound =
    let l = register.layout in
    let q = counts version l in
    let within = first_low version in
    let meant = asks (schema_in version l) (table_of l Meta) (classes_in version l
    (placed_of version l db register.is register.apart sound) Meta within) (count_text Meta) q.0 q.1 q.2 in
    (Meta, subst (IsThere Meta) (sym register.is) (means_one (schema_in version l) (count_text Meta) meant.plain))
