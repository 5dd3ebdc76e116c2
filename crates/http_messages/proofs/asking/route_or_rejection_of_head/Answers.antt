use Rattle.std.proofs.Common.{◌∙◌}
use Rattle.std.proofs.lemmas.Result.{err_from_is_err_and}
use Rattle.http_messages.proofs.HeadLaws.{asks_no_host, asks_no_path, asks_no_method, is_for}
use Rattle.http_messages.proofs.asking.route_or_rejection_of_head.Goals as goal

pub returns-in_err-check_host-clause-err : goal.returns-in_err-check_host-clause-err
returns-in_err-check_host-clause-err c = λ h at.
    let refused = err_from_is_err_and c.from_residual.result c.from_residual.ensures.1 in
    rw (refused.1, refused.2)
    (λ rest. asks_no_host _ _ _ h at _ rest (c.in_err-check_host.ensures.err _ c.requires.gathered))

pub returns-in_default-clause-err : goal.returns-in_default-clause-err
returns-in_default-clause-err c = λ h at rest.
    asks_no_path _ _ _ h at c.of.result.now rest (c.in_ok-check_host.ensures.ok _ c.requires.gathered) c.of.ensures
    c.in_default.ensures

pub returns-then-ne-clause-err : goal.returns-then-ne-clause-err
returns-then-ne-clause-err c = λ h at rest.
    asks_no_method _ _ _ h at _ _ _ _ (c.in_ok-check_host.ensures.ok _ c.requires.gathered) c.of.ensures
    c.in-Some.ensures
    c.of-2.ensures (c.as_bytes.ensures.value ∙ c.method.ensures) rest c.if-ne.ensures

pub returns-clause-ok : goal.returns-clause-ok
returns-clause-ok c = λ h at.
    is_for _ _ _ h at _ _ _ _ (c.in_ok-check_host.ensures.ok _ c.requires.gathered) c.of.ensures c.in-Some.ensures
    c.of-2.ensures (c.as_bytes.ensures.value ∙ c.method.ensures) c.if-ne.ensures
