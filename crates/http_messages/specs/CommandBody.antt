-- Which command a body is, and the ranges of what is sent.
use Rattle.std.specs.Prelude.{◌≡◌, ℕ, List, Some, IsUtf8}
use Rattle.serde_json.specs.Read.{read}
use Rattle.register_requests.specs.{declared.request.Command.Command, Name.IsName, Number.IsNumber, Request.IsCommand}
use Rattle.http_messages.specs.declared.asked.Asked.TheVariants.{Reject, ShowKey, ShowUsage, Apply}
use Rattle.http_messages.specs.{declared.asked.Asked.Asked, declared.asked.Sent.Sent, CommandValue.command_data}

-- the body is JSON, and its value is the command's
pub record IsBodyOf (body : List ℕ) (c : Command) : Type 0 where
  pub command : IsCommand c
  pub text : IsUtf8 body
  pub value : read body ≡ Some (command_data c)

-- what is sent is in the ranges of a request
pub record IsSent (sent : Sent) : Type 0 where
  pub caller : IsName sent.caller
  pub number : IsNumber sent.number
  pub command : IsCommand sent.command

-- What an exchange asks is in the ranges of a request, where it is one.
abbrev pub IsAskedInRange : Asked → Type 0
IsAskedInRange (Reject rejection) = Unit {0}
IsAskedInRange (ShowKey key) = Unit {0}
IsAskedInRange (ShowUsage key) = Unit {0}
IsAskedInRange (Apply sent) = IsSent sent
