-- Who sends is told by the one value of either name.
use Rattle.std.proofs.Common.{◌≡◌, ℕ, List, ◌∷◌, [], rules, ap, sym, subst, ◌∙◌}
use Rattle.std.specs.Prelude.{decimal}
use Rattle.register_requests.specs.Name.{IsName}
use Rattle.http_messages.specs.{Asked.IsFrom, HeaderFields.HeaderLines}
use Rattle.http_messages.proofs.CommandValues.{if_none}
use Rattle.http_messages.proofs.asking.caller_and_number_of.Goals as goal

one_is : (a b : List ℕ) (vs : List (List ℕ)) → vs ≡ a ∷ [] → vs ≡ b ∷ [] → a ≡ b
one_is a b vs e f = cc

-- nobody is named
abbrev AreOfNobody : HeaderLines → Type 0
AreOfNobody lines = (caller : List ℕ) (number : ℕ) → IsFrom lines caller number → ⊥

pub returns-in_err-only_value-clause-none : goal.returns-in_err-only_value-clause-none
returns-in_err-only_value-clause-none c = λ lines all. if_none _ (AreOfNobody lines)
    (λ caller n p. c.in_err-only_value.ensures.none _ all.caller caller p.caller_is)

pub returns-in_err-caller-clause-none : goal.returns-in_err-caller-clause-none
returns-in_err-caller-clause-none c = λ lines all. if_none _ (AreOfNobody lines) (λ caller n p.
    let same = one_is _ caller _ (c.in_ok-only_value.ensures.found _ all.caller) p.caller_is in
    absurd (cc (c.in_err-caller.ensures.in_range.1 (subst IsName (sym same) p.name))))

pub returns-in_err-only_value-2-clause-none : goal.returns-in_err-only_value-2-clause-none
returns-in_err-only_value-2-clause-none c = λ lines all. if_none _ (AreOfNobody lines)
    (λ caller n p. c.in_err-only_value-2.ensures.none _ all.request_number (decimal n) p.number_is)

pub returns-in_err-number-clause-none : goal.returns-in_err-number-clause-none
returns-in_err-number-clause-none c = λ lines all. if_none _ (AreOfNobody lines) (λ caller n p.
    let field = one_is _ (decimal n) _ (c.in_ok-only_value-2.ensures.found _ all.request_number) p.number_is in
    c.in_err-number.ensures.none n p.in_range field)

pub returns-clause-found : goal.returns-clause-found
returns-clause-found c = λ lines all.
    let taken = c.in_ok-number.ensures.found in
    record {
      caller_is = c.in_ok-only_value.ensures.found _ all.caller ∙ ap (λ v. v ∷ []) (sym c.in_ok-caller.ensures.value);
      name = search rules;
      number_is = c.in_ok-only_value-2.ensures.found _ all.request_number ∙ ap (λ v. v ∷ []) taken.1;
      in_range = taken.0;
    }
