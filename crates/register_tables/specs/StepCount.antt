-- Steps of the database: a step is one call, or one row that a call handed out.
use Rattle.std.specs.Prelude.{ℕ, ◌+◌, ◌^◌, ◌-◌, ◌≤◌, min}
use Rattle.register_tables.specs.declared.counted.StepCount.{StepCount}

-- this many steps more; a count stays at its greatest value
abbrev pub counted : ℕ → ℕ → ℕ
counted n steps = min (steps + n) (2 ^ 64 - 1)

-- at most this many steps were taken, and none was taken back
pub record Rises (most old new : ℕ) : Type 0 where
  pub risen : old ≤ new
  pub within : new ≤ old + most

-- at most this many steps were taken in a transaction, and none was taken back
abbrev pub TakesInside : ℕ → StepCount → StepCount → Type 0
TakesInside most old new = Rises most old.count new.count
