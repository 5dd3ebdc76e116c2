-- The texts in an export and in a report have no control character.
use Rattle.std.proofs.Common.{◌≡◌, ℕ, ◌+◌, ◌/◌, ◌%◌, ◌^◌, ◌<◌, Bool, true, List, [], ◌∷◌, ◌++◌, refl, ◌∙◌, arith}
use Rattle.std.proofs.lemmas.Bool.{and_parts, and_from}
use Rattle.std.proofs.lemmas.Bool.Decides.{nat_tests}
use Rattle.std.proofs.lemmas.List.Folds.{list_all-append}
use Rattle.std.proofs.lemmas.Str.Ascii.{IsAscii-nil, IsAscii-cons}
use Rattle.std.proofs.lemmas.Fmt.{decimal_by_steps}
use Rattle.std.specs.Prelude.{nat_le, nat_lt, ◌&&◌, decimal, Option, None, Some}
use Rattle.std.specs.{List.list_all, Str.IsAscii}
use Rattle.moment_core.specs.MomentText.{moment_text}
use Rattle.register_requests.specs.{Name.IsName, Name.is_name_byte, Purpose.IsPurpose, Purpose.is_purpose_byte}
use Rattle.key_rows.specs.{Export.date_cell_text, Within.IsPrintable}

-- ---- all bytes of a text

all_weaker : (p q : ℕ → Bool) → ((b : ℕ) → p b ≡ true → q b ≡ true) → (bytes : List ℕ)
    → list_all p bytes ≡ true → list_all q bytes ≡ true
all_weaker p q more [] all = refl
all_weaker p q more (b ∷ bytes) all =
    let both = and_parts (p b) (list_all p bytes) all in
    and_from (q b) (list_all q bytes) (more b both.0) (all_weaker p q more bytes both.1)

all_append : (p : ℕ → Bool) (xs ys : List ℕ) → list_all p xs ≡ true → list_all p ys ≡ true
    → list_all p (xs ++ ys) ≡ true
all_append p xs ys of_xs of_ys =
    list_all-append p xs ys ∙ and_from (list_all p xs) (list_all p ys) of_xs of_ys

-- a printable character of ASCII
is_plain : ℕ → Bool
is_plain b = nat_le 32 b && nat_lt b 128

digit_plain : (n : ℕ) → n < 10 → is_plain (48 + n) ≡ true
unfolding is_plain
digit_plain n small = grind (arith, nat_tests)

plain_printable : (bytes : List ℕ) → list_all is_plain bytes ≡ true → IsPrintable bytes
unfolding is_plain
plain_printable bytes =
    all_weaker is_plain (nat_le 32) (λ b h. (and_parts (nat_le 32 b) (nat_lt b 128) h).0) bytes

plain_ascii : (bytes : List ℕ) → list_all is_plain bytes ≡ true → IsAscii bytes
unfolding is_plain
plain_ascii [] all = IsAscii-nil
plain_ascii (b ∷ bytes) all =
    let both = and_parts (is_plain b) (list_all is_plain bytes) all in
    let low : b < 128 = let h = (and_parts (nat_le 32 b) (nat_lt b 128) both.0).1 in
    grind (arith, nat_tests) in
    IsAscii-cons b bytes low (plain_ascii bytes both.1)

-- ---- numbers and moments

decimal_plain : (n : ℕ) → n < 2 ^ 64 → list_all is_plain (decimal n) ≡ true
decimal_plain n small =
    decimal_by_steps (λ n ds. list_all is_plain ds ≡ true)
    (λ n small. and_from (is_plain (48 + n)) true (digit_plain n small) refl)
    (λ n ds large prefix. all_append is_plain ds ((48 + n % 10) ∷ []) prefix
    (and_from (is_plain (48 + n % 10)) true (digit_plain (n % 10) (omega arith)) refl)) n small

tens_plain : (n : ℕ) → is_plain (48 + n / 10 % 10) ≡ true
tens_plain n = digit_plain (n / 10 % 10) (omega arith)

ones_plain : (n : ℕ) → is_plain (48 + n % 10) ≡ true
ones_plain n = digit_plain (n % 10) (omega arith)

dash_plain : is_plain 45 ≡ true
unfolding is_plain
dash_plain = refl

colon_plain : is_plain 58 ≡ true
unfolding is_plain
colon_plain = refl

date_end_plain : is_plain 84 ≡ true
unfolding is_plain
date_end_plain = refl

end_plain : is_plain 90 ≡ true
unfolding is_plain
end_plain = refl

moment_plain : (m : ℕ) → list_all is_plain (moment_text m) ≡ true
unfolding moment_text
moment_plain m = simp (tens_plain, ones_plain, dash_plain, colon_plain, date_end_plain, end_plain)

pub moment_ascii : (m : ℕ) → IsAscii (moment_text m)
moment_ascii m = plain_ascii (moment_text m) (moment_plain m)

-- ---- the texts of cells; those of types and states compute

pub number_printable : (n : ℕ) → n < 2 ^ 64 → IsPrintable (decimal n)
number_printable n small = plain_printable (decimal n) (decimal_plain n small)

pub date_printable : (date : Option ℕ) → IsPrintable (date_cell_text date)
date_printable None = refl
date_printable (Some date) = plain_printable (moment_text date) (moment_plain date)

name_byte : (b : ℕ) → is_name_byte b ≡ true → nat_le 32 b ≡ true
name_byte b is = grind (arith, nat_tests)

pub name_printable : (name : List ℕ) → IsName name → IsPrintable name
name_printable name is = all_weaker is_name_byte (nat_le 32) name_byte name is.2

pub purpose_printable : (purpose : List ℕ) → IsPurpose purpose → IsPrintable purpose
purpose_printable purpose is =
    all_weaker is_purpose_byte (nat_le 32)
    (λ b h. (and_parts (nat_le 32 b) _ h).0) purpose is.printable
