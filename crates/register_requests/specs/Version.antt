-- The versions of the register, and what they differ in beside their tables.
use Rattle.std.specs.Prelude.{ℕ, nat_le, Bool, true}
use Rattle.register_requests.specs.declared.version.Version.{Version}
use Rattle.register_requests.specs.declared.version.Version.TheVariants.{First, Second}
use Rattle.register_requests.specs.{declared.request.Command.Command, CommandRule.rule}

-- the number that the row of meta has
abbrev pub version_number : Version → ℕ
version_number First = 1
version_number Second = 2

-- how many custodians a key may have (own)
abbrev pub custodians_of : Version → ℕ
custodians_of First = 8
custodians_of Second = 16

-- a version knows the commands of its own and of those before it, so this program's knows them all
abbrev pub knows : Version → Command → Bool
knows First c = nat_le (version_number (rule c).since) (version_number First)
knows Second c = true

-- the version of this program
abbrev pub current : Version
current = Second
