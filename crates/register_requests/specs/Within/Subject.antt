-- What functions within the crate say of one another, beside `specs/Subject.antt`.
use Rattle.std.specs.Prelude.{ℕ, Option}
use Rattle.register_requests.specs.Subject.{Makes, Names, NoKey, Subject, key_by, registration_by, subject}
use Rattle.register_requests.specs.{declared.request.Command.Command, declared.request.Registration.Registration}

abbrev pub count_by : Subject → ℕ
count_by (Makes registration) = 1
count_by (Names key) = 0
count_by NoKey = 0

-- how many keys a command makes
abbrev pub made_by : Command → ℕ
made_by c = count_by (subject c)

-- the registration that a command is, if it is one
abbrev pub registration_of : Command → Option Registration
registration_of c = registration_by (subject c)

-- the key that a command makes, where this many keys were made before it, or names
abbrev pub key_concerned : ℕ → Command → Option ℕ
key_concerned made c = key_by made (subject c)
