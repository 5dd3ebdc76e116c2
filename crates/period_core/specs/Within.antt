-- What functions within the crate say of one another: no public contract stands on it.
use Rattle.std.specs.Prelude.{◌≡◌, Option, None, Some, Result, Ok, Err}

-- ---- refusals

-- a check passes where no refusal holds, and else fails by the one that does
abbrev pub Checks : {A R : Type 0} → Option R → Result A R → Type 0
Checks refusal (Ok x) = refusal ≡ None
Checks refusal (Err told) = refusal ≡ Some told
