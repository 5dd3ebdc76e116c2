-- What is known of a query while its rows are read one at a time.
use Rattle.std.proofs.Common.{◌≡◌, ℕ, List, [], OnOk, Result, Ok, Err, sym, subst, arith}
use Rattle.sqlite_trees.specs.declared.store.Store as store
use Rattle.sqlite.specs.declared.error.Error.TheVariants.{SqlInputError}
use Rattle.sqlite.specs.declared.error.Error.{Error}
use Rattle.sqlite.specs.State.{State, HasCleanDisk, IsUnchanged, IsNotRun, FailsToQuery, Shown, Survives}
use Rattle.sqlite.specs.State.{CommitsShowing}
use Rattle.sqlite.specs.{Order.Row, Given.HasGiven, Given.HasBegun, Held.Held, Held.state}
use Rattle.sqlite_resolve.specs.declared.error.CompileError.{CompileError}
use Rattle.sqlite.proofs.{Callers.never_commits, Callers.unchanged_then, StateLemmas.survives_weaker}
use Rattle.sql_steps.proofs.Asking.{never_input}
use Rattle.row_checks.specs.declared.error.RowsError.{RowsError}
use Rattle.row_checks.specs.declared.error.RowsError.TheVariants.{Refused, Memory, NoMeaning, Database}
use Rattle.row_checks.specs.ShownRows.{IsQuery, HasNoMeaning, ShowsAll, ShowsFirst}

-- ---- a text that has no meaning

not_run : (sql : List ℕ) (params : Row) (old new : State) (fault : CompileError)
    → IsNotRun old new sql params (SqlInputError fault) → HasNoMeaning sql old new
unfolding IsNotRun
not_run sql params old new fault it = grind (arith, never_input)

-- the error that names this cause comes with it alone
pub no_meaning : (sql : List ℕ) (params : Row) (old new : State) (fault : CompileError) → IsQuery sql
    → FailsToQuery sql params old new (SqlInputError fault) → HasNoMeaning sql old new
unfolding FailsToQuery
no_meaning sql params old new fault query it = search (arith, not_run)

-- ---- a query

-- it commits nothing
pub commits_none : (sql : List ℕ) (params : Row) (old new : State) → IsQuery sql
    → Survives old new (CommitsShowing sql params old) → Survives old new (λ _. ⊥)
unfolding CommitsShowing
commits_none sql params old new query = search (arith, survives_weaker, never_commits)

-- the rows that are shown from where nothing had changed
pub shown_from : (sql : List ℕ) (params : Row) (a b c : State) (rows : List Row) → IsQuery sql → IsUnchanged a b
    → Shown sql params b c rows → Shown sql params a c rows × IsUnchanged a c
unfolding Shown
shown_from sql params a b c rows query same h = search (arith, unchanged_then)

-- ---- rows that are taken one after the other

module _ {S : Type 0} (g : store.Ghosts S) (sql : List ℕ) (Begins' : Type 0) where
  -- where the query was at its start, and the check too: these rows were given, of which P holds, and nothing has
  -- changed
  abbrev pub HasTakenSoFar : (List Row → Type 0) → Held S → Held S → Type 0
  HasTakenSoFar P old new =
      HasCleanDisk (state g new) → HasGiven g sql [] old [] → Begins'
      → (given : List Row) × HasGiven g sql [] new given × P given × IsUnchanged (state g old) (state g new)

pub given_same : {S : Type 0} (g : store.Ghosts S) (sql : List ℕ) (params : Row) (h : Held S) (given : List Row)
    → HasGiven g sql params h given → IsUnchanged (state g h) (state g h)
unfolding HasGiven
given_same g sql params h given it = grind arith

-- ---- a query and what is read of it

pub all_from : (sql : List ℕ) (P : List Row → Type 0) (a b c : State) → IsQuery sql → IsUnchanged a b
    → ShowsAll sql P b c → ShowsAll sql P a c
all_from sql P a b c query same all = grind (arith, shown_from)

pub first_from : (sql : List ℕ) (P : List Row → Type 0) (a b c : State) → IsUnchanged a b → ShowsFirst sql P b c
    → ShowsFirst sql P a c
first_from sql P a b c same bad = grind (arith, unchanged_then)

pub carry : {A : Type 0} (P : A → Type 0) (a b : A) → a ≡ b → P b → P a
carry P a b is p = subst P (sym is) p

-- a query that was begun stood at its start, and had changed nothing
pub at_start : {S : Type 0} (g : store.Ghosts S) (sql : List ℕ) (old mid new : Held S) → IsQuery sql
    → (HasCleanDisk (state g mid) → HasBegun g sql [] old mid) → Survives (state g mid) (state g new) (λ _. ⊥)
    → HasCleanDisk (state g new)
    → HasGiven g sql [] mid [] × IsUnchanged (state g old) (state g mid)
at_start g sql old mid new query begun survives clean = grind arith

pub met_from : {E G : Type 0} (r : Result (Unit {0}) E) (sql : List ℕ) (P : List Row → Type 0) (a b c : State)
    → IsQuery sql → G × IsUnchanged a b → (G → OnOk r (ShowsAll sql P b c)) → OnOk r (ShowsAll sql P a c)
met_from r sql P a b c query start all = grind (arith, all_from)

-- and to where nothing has changed
pub shown_to : (sql : List ℕ) (params : Row) (a b c : State) (rows : List Row) → IsQuery sql
    → Shown sql params a b rows → IsUnchanged b c → Shown sql params a c rows
unfolding Shown
shown_to sql params a b c rows query h same = grind (arith, unchanged_then)

-- a text without a meaning, from where nothing had changed and to where nothing has
pub no_meaning_from : (sql : List ℕ) (a b c : State) → IsUnchanged a b → HasNoMeaning sql b c → HasNoMeaning sql a c
no_meaning_from sql a b c same none = grind (arith, unchanged_then)

pub all_to : (sql : List ℕ) (P : List Row → Type 0) (a b c : State) → IsQuery sql → ShowsAll sql P a b
    → IsUnchanged b c → ShowsAll sql P a c
all_to sql P a b c query all same = grind (arith, shown_to, unchanged_then)

-- ---- the errors

-- no value is an error, and no two errors are one
pub ok_no_err : {T E : Type 0} {x : T} {e : E} → ◌≡◌ {A = Result T E} (Ok x) (Err e) → ⊥
ok_no_err is = absurd (cc)

abbrev pub IsSame : RowsError → RowsError → Type 0
IsSame a b = ◌≡◌ {A = Result (Unit {0}) RowsError} (Err a) (Err b)

pub database_no_other : {cause : Error}
    → (IsSame (Database cause) Refused → ⊥) × (IsSame (Database cause) Memory → ⊥)
    × (IsSame (Database cause) NoMeaning → ⊥)
database_no_other = (λ is. absurd (cc), λ is. absurd (cc), λ is. absurd (cc))

pub refused_no_other : (IsSame Refused Memory → ⊥) × (IsSame Refused NoMeaning → ⊥)
refused_no_other = (λ is. absurd (cc), λ is. absurd (cc))

pub memory_no_other : (IsSame Memory Refused → ⊥) × (IsSame Memory NoMeaning → ⊥)
memory_no_other = (λ is. absurd (cc), λ is. absurd (cc))
