-- The text of a command alone: what stands at the end of a request's line.
use Rattle.std.specs.Prelude.{◌≡◌, ℕ, List, Option}
use Rattle.register_requests.specs.declared.request.Command.{Command}
use Rattle.register_requests.specs.Request.{IsCommand, IsReadAs, command_text}

-- how many bytes the text of a command has at most
abbrev pub max_command_length : ℕ
max_command_length = 336

-- the bytes are the text of the command, which is in its range
abbrev pub IsCommandText : List ℕ → Command → Type 0
IsCommandText bytes command = IsCommand command × (bytes ≡ command_text command)

-- what the bytes stand for: the command whose text they are, or none where they are the text of no command
abbrev pub IsCommandItem : List ℕ → Option Command → Type 0
IsCommandItem bytes item = IsReadAs IsCommandText bytes item
