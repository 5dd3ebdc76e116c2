use Rattle.std.proofs.Common.{◌≢◌, List, ℕ, ◌++◌, ap, ◌∙◌}
use Rattle.http_messages.proofs.CommandValues.{if_none, none_by, some_by}
use Rattle.http_messages.proofs.Routing.{cut_prefix, prefix_joins, rest_is, back_joins, cut_back}
use Rattle.http_messages.proofs.route.field_between.Goals as goal

pub returns-in_err-rest-clause-none : goal.returns-in_err-rest-clause-none
returns-in_err-rest-clause-none c =
    if_none _ ((field : List ℕ) → c.args.target.now ≢ c.args.prefix.now ++ (field ++ c.args.back.now))
    (λ field e. cut_prefix c.args.prefix.now (field ++ c.args.back.now) c.args.target.now e c.in_err-rest.ensures.cases)

pub returns-clause-found : goal.returns-clause-found
returns-clause-found c =
    let (prefix_hit, rest_at, long) = c.in_ok-rest.ensures.cases in
    some_by _ _ _ c.strip_suffix.result c.strip_suffix.ensures.cases (λ field (back_hit, field_at, short).
    prefix_joins c.args.prefix.now c.in_ok-rest.rest.now c.args.target.now prefix_hit rest_at
    ∙ ap (λ l. c.args.prefix.now ++ l) (back_joins field.now c.args.back.now c.in_ok-rest.rest.now back_hit field_at))

pub returns-clause-none : goal.returns-clause-none
returns-clause-none c =
    let (prefix_hit, rest_at, long) = c.in_ok-rest.ensures.cases in
    none_by _ _ _ c.strip_suffix.result c.strip_suffix.ensures.cases (λ other field e.
    cut_back field c.args.back.now c.in_ok-rest.rest.now
    (rest_is c.args.prefix.now c.in_ok-rest.rest.now c.args.target.now (field ++ c.args.back.now) e rest_at) other)
