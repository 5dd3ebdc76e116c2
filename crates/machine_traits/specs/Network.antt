-- What is had of clients, and of the time.
use Rattle.std.specs.Prelude.{◌≡◌, ℕ, List, ◌++◌, Option, None, Some}
use Rattle.std.specs.Io.KnownBytes.{Consumes}

-- some bytes that were to come were taken off
abbrev pub LosesSome : Option (List ℕ) → Option (List ℕ) → Type 0
LosesSome before after = (bytes : List ℕ) × Consumes before after bytes

-- What a network had: a client came, of whom this is still to come, where that is known, and to whom this was sent; the
-- time was told, in nanoseconds since 1970; or a client went, to whom this had been sent.
pub data Visit : Type 0 where
  Came : Option (List ℕ) → Option (List ℕ) → Visit
  Told : ℕ → Visit
  Went : Option (List ℕ) → Visit

-- this is what was noted more, where what is noted is known
abbrev pub Notes : Option (List Visit) → Option (List Visit) → List Visit → Type 0
Notes None None more = Unit {0}
Notes (Some old) (Some new) more = new ≡ old ++ more
Notes old new more = ⊥
