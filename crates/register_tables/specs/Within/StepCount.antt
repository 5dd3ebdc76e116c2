-- What functions within the crate say of one another, beside `specs/StepCount.antt`.
use Rattle.std.specs.Prelude.{◌≡◌, ℕ, Result}
use Rattle.sqlite.specs.State.{State}
use Rattle.sql_steps.specs.Steps.{DatabaseChange, StepsBy}
use Rattle.register_tables.specs.{declared.counted.StepCount.StepCount, StepCount.TakesInside}

-- What a call in a transaction does: the transaction stays the same one, at most so many steps are taken, and where it
-- succeeds this change is made.
pub record WritesInside {A E : Type 0} (sees : A → State) (name : A → ℕ) (most : ℕ) (Made : DatabaseChange) (old new : A)
    (before after : StepCount) (result : Result (Unit {0}) E) : Type 0 where
  pub same_reference : name new ≡ name old
  pub counted : TakesInside most before after
  pub made : StepsBy (λ _. Made) (sees old) (sees new) result
