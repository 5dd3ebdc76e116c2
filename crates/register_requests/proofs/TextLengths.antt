-- How long the texts of commands are.
use Rattle.std.proofs.Common.{ℕ, ◌≤◌, length, Option, arith}
use Rattle.std.proofs.lemmas.Fmt.{length-decimal-le}
use Rattle.std.proofs.lemmas.List.{length-append}
use Rattle.std.specs.Prelude.{decimal}
use Rattle.moment_core.specs.Moment.{IsMoment}
use Rattle.register_requests.specs.Request.{IsCommand, IsDate, IsEdit, IsKeyNumber, argument_texts, command_text}
use Rattle.register_requests.specs.Request.{date_text, edit_text, spaced}
use Rattle.register_requests.specs.{declared.request.Command.Command, declared.request.Command.TheVariants.Register}
use Rattle.register_requests.specs.{declared.request.Edit.Edit, CommandText.max_command_length}

moment_short : (t : ℕ) → IsMoment t → length (decimal t) ≤ 12
moment_short t is = length-decimal-le 12 t (omega arith) (omega (arith, is)) (omega (arith, is))

date_short : (date : Option ℕ) → IsDate date → length (date_text date) ≤ 12
date_short date is = grind (arith, moment_short)

edit_short : (edit : Edit) → IsEdit edit → length (edit_text edit) ≤ 12
edit_short edit is = grind (arith, moment_short)

key_short : (key : ℕ) → IsKeyNumber key → length (decimal key) ≤ 10
key_short key is = length-decimal-le 10 key (omega arith) (omega (arith, is.1)) (omega (arith, is.1))

months_short : (months : ℕ) → months ≤ 1200 → length (decimal months) ≤ 4
months_short months few = length-decimal-le 4 months (omega arith) (omega arith) (omega arith)

-- how long what stands after the word is at most
abbrev room : Command → ℕ
room (Register new) = 328
room c = 320

arguments_short : (c : Command) → IsCommand c → length (spaced (argument_texts c)) ≤ room c
arguments_short c is = grind (arith, length-append, key_short, months_short, date_short, edit_short)

pub text_short : (c : Command) → IsCommand c → length (command_text c) ≤ max_command_length
text_short c is = grind (arith, arguments_short)
