-- A name is ASCII, and so UTF-8.
use Rattle.std.proofs.Common.{◌≡◌, ℕ, ◌<◌, true, List, [], ◌∷◌, arith}
use Rattle.std.proofs.lemmas.Str.{IsUtf8-from_ascii}
use Rattle.std.proofs.lemmas.Str.Ascii.{IsAscii-nil, IsAscii-cons}
use Rattle.std.proofs.lemmas.Bool.Decides.{nat_tests}
use Rattle.std.specs.{List.list_all, Str.IsAscii, Str.IsUtf8}
use Rattle.register_requests.specs.Name.{is_name_byte, IsName}

is_name_byte_ascii : (b : ℕ) → is_name_byte b ≡ true → b < 128
is_name_byte_ascii b h = grind (arith, nat_tests)

ascii_from_name_bytes : (bytes : List ℕ) → list_all is_name_byte bytes ≡ true → IsAscii bytes
ascii_from_name_bytes [] h = IsAscii-nil
ascii_from_name_bytes (b ∷ bytes) h = grind (arith, IsAscii-cons, is_name_byte_ascii, ascii_from_name_bytes bytes)

pub ascii_from_name : (bytes : List ℕ) → IsName bytes → IsAscii bytes
ascii_from_name bytes name = ascii_from_name_bytes bytes name.2

pub utf8_from_name : (bytes : List ℕ) → IsName bytes → IsUtf8 bytes
utf8_from_name bytes name = IsUtf8-from_ascii bytes (ascii_from_name bytes name)
