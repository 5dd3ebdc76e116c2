-- A command by its subject.
use Rattle.std.proofs.Common.{◌≡◌, ℕ, Some, arith}
use Rattle.register_requests.specs.declared.request.Command.TheVariants.{Register as Registers}
use Rattle.register_requests.specs.Subject.{Subject, Makes, Names, subject, named_by}
use Rattle.register_requests.specs.{declared.request.Command.Command, declared.request.Registration.Registration}

-- a command that makes a key is a registration
pub is_registration : (c : Command) (r : Registration) → subject c ≡ Makes r → c ≡ Registers r
is_registration c r makes = grind arith

-- a command that names a key is about it
pub is_named : (s : Subject) (k : ℕ) → named_by s ≡ Some k → s ≡ Names k
is_named s k names = grind arith
