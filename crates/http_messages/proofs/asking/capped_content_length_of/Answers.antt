use Rattle.std.proofs.Common.{◌≡◌, ℕ, zero, suc, ◌+◌, ◌-◌, ◌*◌, min, [], ◌∷◌, ◌++◌, take, get_or, arith, sym, ap, subst}
use Rattle.std.proofs.Common.{◌∙◌, true}
use Rattle.std.proofs.lemmas.List.{take_more}
use Rattle.std.proofs.lemmas.List.Elements.{All-append}
use Rattle.std.specs.{Prelude.IsTrue, Char.is_ascii_digit, Char.digit_value, Str.Parse.digits_value}
use Rattle.httparse.proofs.ChunkLemmas.{digits_value_after_push}
use Rattle.httparse.specs.Grammar.{AllPass}
use Rattle.http_messages.specs.Asked.{max_body_length}
use Rattle.http_messages.proofs.asking.capped_content_length_of.Goals as goal

-- a digit more, under the limit
capped : (old all number d : ℕ) → number ≡ min old (max_body_length + 1) → all ≡ old * 10 + d
    → min (number * 10 + d) (max_body_length + 1) ≡ min all (max_body_length + 1)
capped old all number d e f = omega arith

digit_is : (b : ℕ) → is_ascii_digit b ≡ true → digit_value b ≡ b - 48
digit_is b p = grind arith

one_passes : (b : ℕ) → is_ascii_digit b ≡ true → AllPass is_ascii_digit (b ∷ [])
one_passes b p zero d h = p
one_passes b p (suc k) d h = absurd (omega arith)

pub loop-byte-preserved : goal.loop-byte-preserved
loop-byte-preserved c =
    let i = c.loop-byte.byte-index in
    let text = c.args.text.now in
    let b = get_or text i 0 in
    let more : take (i + 1) text ≡ take i text ++ b ∷ [] = take_more text i 0 c.loop-byte-test.true in
    let digit : is_ascii_digit b ≡ true = sym c.is_ascii_digit.ensures.value ∙ c.if-not-is_ascii_digit.false in
    let value : digits_value 10 (take (i + 1) text) ≡ digits_value 10 (take i text) * 10 + c.from.result =
    ap (digits_value 10) more ∙ digits_value_after_push 10 0 (take i text) b
    ∙ ap (λ d. digits_value 10 (take i text) * 10 + d) (digit_is b digit ∙ sym c.from.ensures) in
    record {
      digits = subst (AllPass is_ascii_digit) (sym more)
          (All-append (λ x. IsTrue (is_ascii_digit x)) (take i text) (b ∷ []) c.loop-byte.invariant.digits
          (one_passes b digit));
      number = c.min-number.ensures
          ∙ capped (digits_value 10 (take i text)) (digits_value 10 (take (i + 1) text)) c.loop-byte.number
          c.from.result c.loop-byte.invariant.number value;
    }
