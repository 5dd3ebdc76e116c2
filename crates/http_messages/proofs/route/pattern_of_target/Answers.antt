use Rattle.std.proofs.Common.{Some, sym, ap, ◌∙◌, subst}
use Rattle.std.specs.Prelude.{IsUtf8}
use Rattle.http_messages.proofs.Routing.{place_found, some_found, utf8_of_route}
use Rattle.http_messages.proofs.route.pattern_of_target.Goals as goal

pub returns-in_default : goal.returns-in_default
returns-in_default c = λ r p e. absurd (c.in_default.ensures.cases.0 (subst IsUtf8 (sym e) (utf8_of_route r p)))

pub returns-in-Ok-at : goal.returns-in-Ok-at
returns-in-Ok-at c =
    λ r p e. ap (λ v. Some v)
    (place_found r c.args.router.now c.in-Ok.text.now _ p c.requires (c.in-Ok.ensures.cases.0 ∙ e)
    c.in-Ok-at.ensures.found)

pub returns-in-Err : goal.returns-in-Err
returns-in-Err c =
    λ r p e. absurd
    (some_found r c.args.router.now c.in-Ok.text.now p c.requires (c.in-Ok.ensures.cases.0 ∙ e)
    c.in-Err.ensures.missing)
