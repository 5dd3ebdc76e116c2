use Rattle.std.proofs.Common.{◌≡◌, ◌≢◌, ◌++◌, ℕ, sym, ap, ◌∙◌}
use Rattle.std.proofs.lemmas.List.{append_cancel_left, append_cancel_right}
use Rattle.std.proofs.lemmas.Option.{IfSome_then}
use Rattle.std.specs.Prelude.{decimal}
use Rattle.register_requests.specs.Request.{IsKeyNumber}
use Rattle.http_messages.proofs.CommandValues.{if_none, none_then}
use Rattle.http_messages.proofs.route.key_number_between.Goals as goal

pub returns-in_err-field-clause-none : goal.returns-in_err-field-clause-none
returns-in_err-field-clause-none c =
    if_none _ ((n : ℕ) → IsKeyNumber n → c.args.target.now ≢ c.args.prefix.now ++ (decimal n ++ c.args.back.now))
    (λ n p e. c.in_err-field.ensures.none (decimal n) e)

pub returns-clause-found : goal.returns-clause-found
returns-clause-found c =
    let number = c.read_key_number.result in
    IfSome_then number c.read_key_number.ensures.found (λ n (p, is).
    (c.in_ok-field.ensures.found ∙ ap (λ l. c.args.prefix.now ++ (l ++ c.args.back.now)) is, p))

pub returns-clause-none : goal.returns-clause-none
returns-clause-none c =
    let field = c.in_ok-field.field.now in
    none_then c.read_key_number.result _ _ (λ none n p e.
    let same : c.args.prefix.now ++ (field ++ c.args.back.now)
    ≡ c.args.prefix.now ++ (decimal n ++ c.args.back.now) = sym c.in_ok-field.ensures.found ∙ e in
    none n p (append_cancel_right field (decimal n) c.args.back.now (append_cancel_left c.args.prefix.now _ _ same)))
    c.read_key_number.ensures.none
