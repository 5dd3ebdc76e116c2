-- Which key a command is about: it makes one, names one by its number, or neither.
use Rattle.std.specs.Prelude.{ℕ, ◌+◌, ◌==◌, Bool, false, Option, None, Some}
use Rattle.register_requests.specs.declared.request.Command.TheVariants.{Register, Activate, SetDates, Revoke, Assign}
use Rattle.register_requests.specs.declared.request.Command.TheVariants.{AddCustodian, RemoveCustodian, Approve}
use Rattle.register_requests.specs.declared.request.Command.TheVariants.{Withdraw, Destroy, Advance, SetQuorum}
use Rattle.register_requests.specs.declared.request.Command.TheVariants.{SetPeriod}
use Rattle.register_requests.specs.{declared.request.Command.Command, declared.request.Registration.Registration}

-- Which key a command is about (own): it makes one, names one by its number, or is about none.
pub data Subject : Type 0 where
  Makes : Registration → Subject
  Names : ℕ → Subject
  NoKey : Subject

-- what a command is about
abbrev pub subject : Command → Subject
subject (Register new) = Makes new
subject Advance = NoKey
subject (SetPeriod kind period) = NoKey
subject (Activate key) = Names key
subject (SetDates key activation protect_stop deactivation) = Names key
subject (Revoke key reason occurrence) = Names key
subject (Assign key owner) = Names key
subject (AddCustodian key name) = Names key
subject (RemoveCustodian key name) = Names key
subject (Approve key) = Names key
subject (Withdraw key) = Names key
subject (Destroy key) = Names key
subject (SetQuorum key need) = Names key

-- the registration that a command with this subject is, if it is one
abbrev pub registration_by : Subject → Option Registration
registration_by (Makes registration) = Some registration
registration_by (Names key) = None
registration_by NoKey = None

-- the key that a command with this subject names, if it names one
abbrev pub named_by : Subject → Option ℕ
named_by (Makes registration) = None
named_by (Names key) = Some key
named_by NoKey = None

-- the key that a command names
abbrev pub named : Command → Option ℕ
named c = named_by (subject c)

-- the key that a command with this subject makes, where so many were made before it, or names
abbrev pub key_by : ℕ → Subject → Option ℕ
key_by made (Makes registration) = Some (made + 1)
key_by made (Names key) = Some key
key_by made NoKey = None

-- there is a key, and this is its number
abbrev pub is_key : ℕ → Option ℕ → Bool
is_key k None = false
is_key k (Some other) = other == k
