-- The header lines of a name, without regard to case, and what their values say.
use Rattle.std.specs.Prelude.{◌≡◌, ℕ, ◌<◌, ◌≤◌, List, [], ◌∷◌, length, map, Bool, codes, if◌then◌else◌}
use Rattle.std.specs.{Str.bytes_eq, Str.Parse.digits_value, Char.to_ascii_lowercase, Char.is_ascii_digit}
use Rattle.httparse.specs.Grammar.{AllPass}
use Rattle.http_messages.specs.{declared.header_fields.HeaderFields.HeaderFields, declared.header_fields.Values.Values}
use Rattle.http_messages.specs.declared.header_fields.Values.TheVariants as found

-- the names and the values of header lines
abbrev pub HeaderLines : Type 0
HeaderLines = List (List ℕ × List ℕ)

-- whether the name is this one, which is given in lower case
abbrev pub is_named : List ℕ → List ℕ → Bool
is_named name given = bytes_eq (map to_ascii_lowercase given) name

-- the values of the header lines of this name, in order
abbrev pub values_of : List ℕ → HeaderLines → List (List ℕ)
values_of name [] = []
values_of name (line ∷ lines) = if is_named name line.0 then line.1 ∷ values_of name lines else values_of name lines

-- how many values there are, and which it is where there is one
abbrev pub AreFound : List (List ℕ) → Values → Type 0
AreFound vs found.None = vs ≡ []
AreFound vs (found.One v) = vs ≡ v.now ∷ []
AreFound vs found.Several = 2 ≤ length vs

-- the values that the lines have of each name that is looked at
pub record AreGathered (lines : HeaderLines) (fields : HeaderFields) : Type 0 where
  pub host : AreFound (values_of (codes "host") lines) fields.host
  pub transfer_encoding : AreFound (values_of (codes "transfer-encoding") lines) fields.transfer_encoding
  pub content_length : AreFound (values_of (codes "content-length") lines) fields.content_length
  pub caller : AreFound (values_of (codes "caller") lines) fields.caller
  pub request_number : AreFound (values_of (codes "request-number") lines) fields.request_number

-- the text is one digit or more, and writes this number
pub record IsLength (text : List ℕ) (n : ℕ) : Type 0 where
  pub some : 0 < length text
  pub digits : AllPass is_ascii_digit text
  pub value : digits_value 10 text ≡ n
