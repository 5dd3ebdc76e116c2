use Rattle.std.proofs.Common.{◌≡◌, true, subst, arith}
use Rattle.register_checks.specs.CheckedTables.{ShowsKept, mark_of}
use Rattle.register_checks.specs.{declared.found.Found.Found, OpeningChecks.IsReplyOf}
use Rattle.register_checks.proofs.EntriesChecked.{one_more, one_odd, one_kept}
use Rattle.register_checks.proofs.request_check.RequestCheckRowCheck.take_row.Goals as goal

pub returns-in_default-clause-refused : goal.returns-in_default-clause-refused
returns-in_default-clause-refused c result first rows taken =
    one_odd ShowsKept (IsReplyOf (mark_of first.found)) rows c.args.row.now (λ k shows is. c.in_default.ensures k shows)

pub returns-clause-taken : goal.returns-clause-taken
returns-clause-taken c result first rows taken =
    let k = c.in-Some.kept in
    let passed : c.is_reply_of_found_register.result ≡ true = cc in
    let own = subst (λ (f : Found). IsReplyOf (mark_of f) k) taken.0 (c.is_reply_of_found_register.ensures.0 passed) in
    let Meets = IsReplyOf (mark_of first.found) in
    (taken.0, one_more ShowsKept Meets rows c.args.row.now k taken.1 c.in-Some.ensures own)

pub returns-clause-refused : goal.returns-clause-refused
returns-clause-refused c result first rows taken =
    one_odd ShowsKept (IsReplyOf (mark_of first.found)) rows c.args.row.now (search (arith, one_kept))
