-- The digits so far write the number, as far as the limit.
use Rattle.std.proofs.Common.{◌≡◌, ◌+◌, min, take}
use Rattle.std.specs.{Char.is_ascii_digit, Str.Parse.digits_value}
use Rattle.httparse.specs.Grammar.{AllPass}
use Rattle.http_messages.specs.Asked.{max_body_length}
use Rattle.http_messages.proofs.asking.capped_content_length_of.Given as goal

abbrev pub invariant-loop-byte : goal.invariant-loop-byte
invariant-loop-byte l = record {
  digits : AllPass is_ascii_digit (take l.byte-index l.text);
  number : l.number ≡ min (digits_value 10 (take l.byte-index l.text)) (max_body_length + 1);
}
