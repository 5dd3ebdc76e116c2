-- What reading an input gives, and reading a body.
use Rattle.std.specs.Prelude.{◌≡◌, ℕ, Bool, true, false, List, length, Option, Result, Err}
use Rattle.std.specs.Io.KnownBytes.{Consumes}
use Rattle.http_messages.specs.{declared.asked.AskFault.AskFault, declared.asked.AskFault.TheVariants.ReadFault}

-- so many bytes were read
abbrev pub HasRead : Option (List ℕ) → Option (List ℕ) → ℕ → Type 0
HasRead old new n = (bytes : List ℕ) × Consumes old new bytes × (length bytes ≡ n)

-- a read that failed is reported as a fault of the reader, and nothing else is
abbrev pub TellsFault : {T : Type 0} → Bool → Bool → Result T AskFault → Type 0
TellsFault failed_before failed_now result = failed_before ≡ false → failed_now ≡ true → result ≡ Err ReadFault
