-- What functions within the crate say of one another: no public contract stands on it.
use Rattle.std.specs.Prelude.{ℕ, ◌≤◌, Bool, true, List, length, take, Option, ⊤, ◌≡◌, ◌+◌, ◌++◌}
use Rattle.std.specs.Io.KnownBytes.{Appends}
use Rattle.streams.specs.declared.watched.turns.Turn.TheVariants.{Done, Interrupted, Failed}
use Rattle.streams.specs.{declared.watched.turns.Turn.Turn, declared.watched.Watched.Watched}
use Rattle.streams.specs.{declared.watched.WriteFault.WriteFault, Lines.Cut}
use Rattle.streams.specs.Watched.{IsFaulted, one_more}

-- ---- beside `specs/Watched.antt`

-- a writing gave up: these of the bytes were taken and no others, and a failure or too many interruptions are the cause
pub record StopsWithin {W : Type 0} (contents : W
    → Option (List ℕ)) (old new : Watched W) (max_idle : ℕ) (bytes : List ℕ)
    (fault : WriteFault) : Type 0 where
  pub bound : fault.written ≤ length bytes
  pub part : Appends (contents old.inner) (contents new.inner) (take fault.written bytes)
  pub err : IsFaulted new.failed max_idle new.idle

-- a fact of what a turn that was done gave
abbrev pub OnDone : {V : Type 0} → Turn V → (V → Type 0) → Type 0
OnDone (Done value) P = P value
OnDone Interrupted P = ⊤
OnDone Failed P = ⊤

-- a fact where a turn was not done
abbrev pub OnUndone : {V : Type 0} → Turn V → Type 0 → Type 0
OnUndone (Done value) P = ⊤
OnUndone Interrupted P = P
OnUndone Failed P = P

-- how many turns in a row were interrupted, after this one
abbrev pub idle_after : {V : Type 0} → Turn V → ℕ → ℕ
idle_after (Done value) idle = 0
idle_after Interrupted idle = one_more idle
idle_after Failed idle = 0

-- whether a turn has failed, after this one
abbrev pub failed_after : {V : Type 0} → Turn V → Bool → Bool
failed_after (Done value) failed = failed
failed_after Interrupted failed = failed
failed_after Failed failed = true

-- ---- beside `specs/Lines.antt`

-- the line so far grew by this part
pub record Extends (max_length : ℕ) (old new : Cut) (part : List ℕ) : Type 0 where
  pub counted : new.line_length ≡ old.line_length + length part
  pub kept : new.line ≡ take max_length (old.line ++ part)
  pub taken : new.taken ≡ old.taken
