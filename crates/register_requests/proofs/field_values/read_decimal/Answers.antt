-- Each number's text is UTF-8, parse reads it as the number, and it is what is written of the number.
use Rattle.std.proofs.Common.{◌≡◌, ℕ, ◌<◌, ◌^◌, true, false, List, Ok, sym, ap, ◌∙◌}
use Rattle.std.proofs.lemmas.Str.{IsUtf8-from_ascii}
use Rattle.std.proofs.lemmas.Fmt.{IsAscii-decimal, parse-decimal}
use Rattle.std.proofs.lemmas.Slice.Eq.{bytes_eq-Decides}
use Rattle.std.specs.{Prelude.IsUtf8, Prelude.decimal, Str.bytes_eq}
use Rattle.register_requests.proofs.field_values.read_decimal.Goals as goal

utf8_from_decimal : (n : ℕ) (field : List ℕ) → n < 2 ^ 64 → field ≡ decimal n → IsUtf8 field
utf8_from_decimal n field lt e = rw e (IsUtf8-from_ascii (decimal n) (IsAscii-decimal n lt))

same_bytes : (xs ys : List ℕ) → xs ≡ ys → false ≡ bytes_eq xs ys → ⊥
same_bytes xs ys e other = let yes : bytes_eq xs ys ≡ true = (bytes_eq-Decides xs ys).1 e in absurd cc

pub returns-in_default-clause-none : goal.returns-in_default-clause-none
returns-in_default-clause-none c = λ n lt e. c.in_default.ensures.cases.0 (utf8_from_decimal n c.args.field.now lt e)

pub returns-in_default-parse-clause-none : goal.returns-in_default-parse-clause-none
returns-in_default-parse-clause-none c = λ n lt e.
    let text : c.in-Ok.text.now ≡ decimal n = c.in-Ok.ensures.cases.0 ∙ e in
    let read : c.parse.result
    ≡ Ok n = parse-decimal 64 n c.in-Ok.text.now c.parse.result lt lt text c.parse.ensures.value.0 in
    absurd (cc (c.in_default-parse.is))

pub returns-else-eq-clause-none : goal.returns-else-eq-clause-none
returns-else-eq-clause-none c = λ n lt e.
    let text : c.in-Ok.text.now ≡ decimal n = c.in-Ok.ensures.cases.0 ∙ e in
    let read : c.parse.result
    ≡ Ok n = parse-decimal 64 n c.in-Ok.text.now c.parse.result lt lt text c.parse.ensures.value.0 in
    let number : c.in-Ok-parse.number ≡ n = cc (c.in-Ok-parse.is) in
    let written : c.as_bytes.result.now ≡ c.args.field.now = c.as_bytes.ensures.value ∙ c.format.ensures.text
    ∙ ap decimal number ∙ sym e in
    same_bytes c.as_bytes.result.now c.args.field.now written c.if-eq.ensures

pub returns-then-eq-clause-found : goal.returns-then-eq-clause-found
returns-then-eq-clause-found c =
    let written = (bytes_eq-Decides _ _).0 (sym c.if-eq.ensures) in
    sym written ∙ c.as_bytes.ensures.value ∙ c.format.ensures.text
