-- From a statement inside a transaction to the words for a step, and from the steps to the whole.
use Rattle.std.proofs.Common.{◌≡◌, ℕ, List, [], Ok, Err, Result, IsErr, IsTrue, IfErr, OnOk, false, true, refl, arith}
use Rattle.sqlite.specs.declared.error.Error.{Error}
use Rattle.sqlite.specs.State.{State, HasCleanDisk, Executes, ExecutesInside, Shows, KeepsCounts, IsRolledBack}
use Rattle.sqlite.specs.State.{Survives}
use Rattle.sqlite.specs.{Order.Row, Tree.Trees, Effect.Database, Steps.FailsToCommit, Held.Held, Held.state}
use Rattle.sqlite.proofs.InsideLemmas.{inside_keeps, keeps_then}
use Rattle.sqlite.proofs.StateLemmas.{survives_then, survives_weaker}
use Rattle.sqlite_trees.specs.declared.store.Store as store
use Rattle.sql_steps.specs.{Steps.DatabaseChange, Steps.StepsBy, Steps.TransactsBy, Within.Then}

-- ---- one statement

-- a write
pub writes : (Made : DatabaseChange) (sql : List ℕ) (params : Row) (old new : State) (r : Result ℕ Error)
    → ((count : ℕ) → Executes sql params old new (Ok count) → Made old.now new.now)
    → (HasCleanDisk new → IsTrue old.in_transaction → ExecutesInside 0 sql params old new r)
    → Survives old new (λ _. ⊥) → StepsBy (λ (_ : ℕ). Made) old new r
writes Made sql params old new r does ran survives = search (arith, inside_keeps)

-- ---- steps

-- nothing was done
pub stays : {T E : Type 0} (Changes : T → DatabaseChange) (a : State) (value : T) → Changes value a.now a.now
    → Survives a a (λ _. ⊥) → StepsBy {E = E} Changes a a (Ok value)
stays Changes a value same survives = search arith

-- a failure claims no change, whatever the step was
pub fails : {A B E F : Type 0} (First : A → DatabaseChange) (Next : B → DatabaseChange) (a b : State) (r : Result A E) (q : Result B F)
    → IsErr q → StepsBy First a b r → StepsBy Next a b q
fails First Next a b r q failed one = search arith

-- another value, and a weaker word for the change
pub steps_as : {A B E F : Type 0} (First : A → DatabaseChange) (Next : B → DatabaseChange) (a b : State) (x : A) (y : B)
    → ((old new : Database) → First x old new → Next y old new) → StepsBy {E = E} First a b (Ok x)
    → StepsBy {E = F} Next a b (Ok y)
steps_as First Next a b x y weaker one = search arith

-- a weaker word for the change, whatever the result is
pub steps_weaker : {A E : Type 0} (First Next : A → DatabaseChange) (a b : State) (r : Result A E)
    → ((x : A) (old new : Database) → First x old new → Next x old new) → StepsBy First a b r → StepsBy Next a b r
steps_weaker First Next a b r weaker one = search (arith, steps_as, fails)

-- a write whose count nobody asks for
pub runs : {E : Type 0} (Made : DatabaseChange) (sql : List ℕ) (params : Row) (old new : State) (count : ℕ)
    → ((count : ℕ) → Executes sql params old new (Ok count) → Made old.now new.now)
    → (HasCleanDisk new → IsTrue old.in_transaction → ExecutesInside 0 sql params old new (Ok count))
    → Survives old new (λ _. ⊥) → StepsBy {E = E} (λ (_ : Unit {0}). Made) old new (Ok tt)
runs Made sql params old new count does ran survives = search (arith, steps_as, writes)

-- a step that went on, and then another
pub steps_then : {A B E F : Type 0} (First : A → DatabaseChange) (Next : B → DatabaseChange) (a b c : State) (x : A) (r : Result B F)
    → StepsBy {E = E} First a b (Ok x) → StepsBy Next b c r → StepsBy (λ y. Then (First x) (Next y)) a c r
steps_then First Next a b c x r one two = search (arith, keeps_then, survives_then)

-- ---- one transaction

module _ (Made : DatabaseChange) (old : State) where
  -- the transaction that begins there
  abbrev Inner : State
  Inner = record old { in_transaction = true }

  abbrev Left : Trees → Type 0
  Left trees = (db : Database) × Made old.now db × (trees ≡ db.trees)

  -- a step that failed, or one that nothing came of, and then the rollback
  pub rolls_back : {A B E F : Type 0} (Tried : A → DatabaseChange) (mid new : State) (r : Result A E) (q : Result B F)
      → IsErr q → StepsBy Tried Inner mid r → (HasCleanDisk new → IsRolledBack mid new) → Survives mid new (λ _. ⊥)
      → TransactsBy Made old new q
  rolls_back Tried mid new r q failed step undone dropped = search (arith, survives_then)

  -- the steps, and then the commit
  pub commits : {A E : Type 0} (Tried : A → DatabaseChange) (mid new : State) (x : A) (r : Result (Unit {0}) Error)
      → ((db : Database) → Tried x old.now db → Made old.now db) → StepsBy {E = E} Tried Inner mid (Ok x)
      → (HasCleanDisk new
      → OnOk r (IsTrue mid.in_transaction × Shows mid new mid.now mid.now false × KeepsCounts mid new
      × (new.marks ≡ [])))
      → (HasCleanDisk new → IfErr r (FailsToCommit mid new)) → Survives mid new (λ trees. trees ≡ mid.now.trees)
      → TransactsBy Made old new r
  commits Tried mid new x r is step ok err kept = search (arith, fails)

-- ---- steps that are given up, whatever they gave

module _ {A E : Type 0} (Tried : A → DatabaseChange) (old mid new : State) (r : Result A E)
    (step : StepsBy Tried (record old { in_transaction = true }) mid r) (undone : HasCleanDisk new
    → IsRolledBack mid new)
    (dropped : Survives mid new (λ _. ⊥)) where
  gives_up : TransactsBy {T = Unit {0}} {E = Unit {0}} (λ _ _. ⊥) old new (Err tt)
  gives_up = rolls_back (λ _ _. ⊥) old Tried mid new r (Err tt) refl step undone dropped

  pub given_up_survives : Survives old new (λ _. ⊥)
  given_up_survives = survives_weaker old new _ (λ _. ⊥) (λ clean trees left. left.1) gives_up.stop

-- another value of the same outcome
pub transacts_as : {A B E F : Type 0} (Made : DatabaseChange) (old new : State) (x : A) (y : B)
    → TransactsBy {E = E} Made old new (Ok x) → TransactsBy {E = F} Made old new (Ok y)
transacts_as Made old new x y one = record { accepted = one.accepted; failed = λ clean shown. tt; stop = one.stop }

pub fails_as : {A B E F : Type 0} (Made : DatabaseChange) (old new : State) (e : E) (q : Result B F) → IsErr q
    → TransactsBy {T = A} Made old new (Err e) → TransactsBy Made old new q
fails_as Made old new e q failed one = search arith

-- After a success a stop leaves the new alone.
pub leaves_alone : {S A E : Type 0} (g : store.Ghosts S) (settled : (s : S) (db : Trees)
    → IsTrue (g.view s).is_open → g.recovers s db → db ≡ (g.view s).committed) (Made : DatabaseChange) (old : State)
    (new : Held S) (r : Result A E)
    → TransactsBy Made old (state g new) r → HasCleanDisk (state g new)
    → OnOk r ((trees : Trees) → (state g new).may_leave trees → trees ≡ (state g new).now.trees)
leaves_alone g settled Made old new r whole clean = search arith
