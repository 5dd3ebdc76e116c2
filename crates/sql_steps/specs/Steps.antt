-- What a call makes of a database, at its end and over a stop.
use Rattle.std.specs.Prelude.{◌≡◌, true, IsTrue, IfOk, OnOk, OnErr, Result}
use Rattle.sqlite.specs.State.{State, HasCleanDisk, KeepsCommit, Survives}
use Rattle.sqlite.specs.{Effect.Database, Held.Held, Held.state}
use Rattle.sqlite_trees.specs.declared.store.Store.{Ghosts}

-- what a change makes of a database
abbrev pub DatabaseChange : Type 1
DatabaseChange = Database → Database → Type 0

-- the transaction goes on, and nothing was committed
pub record GoesOnInside (old new : State) : Type 0 where
  pub is_open : IsTrue old.is_open → IsTrue new.is_open
  pub committed_is : new.committed ≡ old.committed
  pub mode : new.in_transaction ≡ true

-- What a call inside a transaction does: where it succeeds with a value, that value's change is made and the
-- transaction goes on; where it fails, the last commit stands. A stop leaves nothing new.
pub record StepsBy {T E : Type 0} (Changes : T → DatabaseChange) (old new : State) (result : Result T E) : Type 0 where
  pub changed : HasCleanDisk new → IsTrue old.in_transaction
      → IfOk result (λ value. Changes value old.now new.now × GoesOnInside old new)
  pub kept : HasCleanDisk new → IsTrue old.in_transaction → KeepsCommit old new
  pub survives : Survives old new (λ _. ⊥)

-- What a call that is one transaction does: where it succeeds, the change is made and committed; where it fails,
-- what was committed stands. A stop leaves what stood before, or what the change makes of it.
pub record TransactsBy {T E : Type 0} (Made : DatabaseChange) (old new : State) (result : Result T E) : Type 0 where
  pub accepted : HasCleanDisk new
      → OnOk result (Made old.now new.now × (new.committed ≡ new.now) × IsTrue old.is_open × IsTrue new.is_open)
  pub failed : HasCleanDisk new → IsTrue new.is_open
      → OnErr result ((new.now ≡ old.committed) × (new.committed ≡ old.committed))
  pub stop : Survives old new (λ trees. (db : Database) × Made old.now db × (trees ≡ db.trees))

-- what a call that is one transaction makes of what a connection shows
abbrev pub Transacts : {S T E : Type 0} → (g : Ghosts S) → DatabaseChange → Held S → Held S → Result T E → Type 0
Transacts g Made old new result = TransactsBy Made (state g old) (state g new) result

-- what was committed stands, and nothing else
abbrev pub KeepsCommitted : State → State → Type 0
KeepsCommitted old new =
    HasCleanDisk new → IsTrue new.is_open → (new.now ≡ old.committed) × (new.committed ≡ old.committed)
