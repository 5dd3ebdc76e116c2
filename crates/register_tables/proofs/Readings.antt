-- What calls that only read do, one by one and one after the other.
use Rattle.std.proofs.Common.{◌≡◌, ◌≢◌, ◌≤◌, ◌+◌, ℕ, List, [], Result, Ok, Err, IfOk, IfErr, OnOk, sym, subst, arith}
use Rattle.std.specs.Prelude.{IsErrAnd}
use Rattle.sqlite.specs.State.{State, HasCleanDisk, IsUnchanged, Survives, CommitsShowing}
use Rattle.sqlite.specs.{Command.TheVariants.Select, Order.Row as Cells, Term.Term}
use Rattle.sqlite.proofs.{Callers.unchanged_then, StateLemmas.survives_then}
use Rattle.sql_steps.proofs.Statements.{plain_query}
use Rattle.row_checks.specs.ShownRows.{IsQuery}
use Rattle.row_checks.proofs.{RowByRow.commits_none, Selects.select_plain}
use Rattle.register_tables.specs.declared.error.StoreError.TheVariants.{Memory, NoRegister}
use Rattle.register_tables.specs.TableReads.{seen, CallsOver, HoldsWhereOpen, IsOpenStill, KeepsSight, ReadFails}
use Rattle.register_tables.specs.TableReads.{ReadsBy}
use Rattle.register_tables.specs.Tables.{Layout, Tables, fresh, table_of}
use Rattle.register_tables.specs.{declared.error.StoreError.StoreError, declared.counted.Counted.Counted}
use Rattle.register_tables.specs.Schema.{schema_with, Holds}
use Rattle.register_tables.specs.declared.table.TableName.{TableName}
use Rattle.sqlite_trees.specs.declared.store.Store.{Ghosts}
use Rattle.register_tables.proofs.Meanings.{Asks, IsPlaced, Meant, asks, classes}

-- the text asks one table for the rows that pass
pub record IsSearch (sql : List ℕ) (name : TableName) (passes shown : List Term) (names : List (List ℕ)) : Type 0 where
  pub meant : (l : Layout) → IsPlaced l → Meant (schema_with l) sql
      (Select (record { lets = []; body = plain_query (l.tree name) passes shown }) names)
  pub query : IsQuery sql

-- a text that asks the table so in every layout is a search
pub search_by : (sql : List ℕ) (name : TableName) (passes shown : List Term) (names : List (List ℕ))
    → ((l : Layout) → Asks (schema_with l) (table_of l name) sql (plain_query (l.tree name) passes shown) names)
    → IsSearch sql name passes shown names
search_by sql name passes shown names asked = record {
  meant = λ l at. asks (schema_with l) (table_of l name) (classes l at name) _ _ _ (asked l);
  query =
      let one = asked (fresh []) in select_plain sql (one.p, one.select, one.parsed, one.is, one.untimed);
}

-- a failure where nothing is changed
pub fails_unchanged : {A : Type 0} (r : Result A StoreError) (old new : State) → IsUnchanged old new
    → IfErr r (λ error. error ≢ NoRegister) → IfErr r (ReadFails old new)
fails_unchanged r old new same registered = search arith

-- a failure that is no want of memory
pub fails_refused : {A : Type 0} (r : Result A StoreError) (old new : State) → IfErr r (λ error. error ≢ Memory)
    → IfErr r (λ error. error ≢ NoRegister) → IfErr r (ReadFails old new)
fails_refused r old new other registered = search arith

-- what changes nothing leaves nothing new after a stop
pub survives_none : (s : State) → Survives s s (λ _. ⊥)
survives_none s = search arith

-- ---- one query

-- a query commits nothing, under any schema
pub reads_by : {T : Type 0} (sql : List ℕ) (params : Cells) → IsQuery sql → (old new : State)
    → Survives old new (CommitsShowing sql params old) → (Found : Tables → T → Type 0) (q : Result T StoreError)
    → (HasCleanDisk new → OnOk q (IsOpenStill old new))
    → (HasCleanDisk new → (t : Tables) → HoldsWhereOpen t old → IfOk q (λ value. Found t value × IsUnchanged old new))
    → (HasCleanDisk new → (t : Tables) → HoldsWhereOpen t old → IfErr q (ReadFails old new)) → ReadsBy Found old new q
reads_by sql params query old new survives Found q live found failed = search (arith, commits_none)

-- ---- one reading after another

-- another value
pub reads_as : {A B : Type 0} (First : Tables → A → Type 0) (Next : Tables → B
    → Type 0) (old new : State) (x : A) (y : B) → ((t : Tables) → First t x → Next t y)
    → ReadsBy First old new (Ok x) → ReadsBy Next old new (Ok y)
reads_as First Next old new x y weaker one = search arith

-- a failure, whatever was to be found
pub reads_fail : {A B : Type 0} (First : Tables → A → Type 0) (Next : Tables → B
    → Type 0) (old new : State) (e : StoreError) (q : Result B StoreError) → IsErrAnd q (λ x. x ≡ e)
    → ReadsBy First old new (Err e) → ReadsBy Next old new q
reads_fail First Next old new e q failed one = search arith

-- the same where what is found says more
pub reads_weaker : {A : Type 0} (First Next : Tables → A → Type 0) (old new : State) (r : Result A StoreError)
    → ((t : Tables) (x : A) → First t x → Next t x) → ReadsBy First old new r → ReadsBy Next old new r
reads_weaker First Next old new r weaker one = search (arith, reads_as, reads_fail)

module _ {A B : Type 0} (First : Tables → A → Type 0) (Next : Tables → B
    → Type 0) (a b c : State) (x : A) (r : Result B StoreError) (one : ReadsBy First a b (Ok x))
    (two : ReadsBy Next b c r) where
  -- the tables are still held
  held : HasCleanDisk c → (t : Tables) → HoldsWhereOpen t a → HoldsWhereOpen t b
  held clean t holds live =
      let same = (one.found (two.clean clean) t holds).1 in subst (Holds t) (sym same.0.now_is) (holds same.0.was_open)

  lost : (r : Result B StoreError) → IsUnchanged a b → IfErr r (ReadFails b c) → IfErr r (ReadFails a c)
  lost r first next = search (arith, unchanged_then)

  pub reads_then : ReadsBy (λ t y. First t x × Next t y) a c r
  reads_then = search (arith, held, lost, survives_then)

-- what an open connection sees after one reading and another
pub sight_then : {A B : Type 0} (First : Tables → A → Type 0) (Next : Tables → B
    → Type 0) (a b c : State) (x : A) (r : Result B StoreError) → ReadsBy First a b (Ok x) → ReadsBy Next b c r
    → KeepsSight a b → KeepsSight b c → KeepsSight a c
sight_then First Next a b c x r one two first next clean committed is_open = search arith

-- the steps of one reading and another
pub calls_then : {S A B : Type 0} (g : Ghosts S) (First : Tables → A → Type 0) (Next : Tables → B
    → Type 0) (a b c : Counted S g) (x : A) (r : Result B StoreError) (m n : Tables → ℕ)
    → ReadsBy First (seen g a) (seen g b) (Ok x) → ReadsBy Next (seen g b) (seen g c) r → CallsOver g m a b
    → CallsOver g n b c → CallsOver g (λ t. m t + n t) a c
calls_then g First Next a b c x r m n one two first next clean t holds =
    let p = first (two.clean clean) t holds in
    let q = next clean t (held First Next (seen g a) (seen g b) (seen g c) x r one two clean t holds) in
    record { risen = omega (arith, p.risen, q.risen); within = omega (arith, p.within, q.within) }

-- a greater bound
pub calls_weaker : {S : Type 0} (g : Ghosts S) (a b : Counted S g) (m n : Tables → ℕ) → ((t : Tables) → m t ≤ n t)
    → CallsOver g m a b → CallsOver g n a b
calls_weaker g a b m n more first clean t holds = search arith
