use Rattle.std.proofs.Common.{◌≡◌, arith, sym, ◌∙◌}
use Rattle.std.proofs.lemmas.Fmt.{decimal_injective}
use Rattle.register_words.proofs.values.read_number_between.Goals as goal

pub returns-then-number-least : goal.returns-then-number-least
returns-then-number-least c = λ number given.
    let same : number ≡ c.in_ok-number.number = decimal_injective number c.in_ok-number.number (omega (arith, given.2))
    (omega arith) (sym given.0 ∙ sym c.as_bytes.ensures.value ∙ c.in_ok-number.ensures.found) in
    omega (arith, same, given.1, c.if-number-least.true)

pub returns-then-number-most : goal.returns-then-number-most
returns-then-number-most c = λ number given.
    let same : number ≡ c.in_ok-number.number = decimal_injective number c.in_ok-number.number (omega (arith, given.2))
    (omega arith) (sym given.0 ∙ sym c.as_bytes.ensures.value ∙ c.in_ok-number.ensures.found) in
    omega (arith, same, given.2, c.if-number-most.true)
