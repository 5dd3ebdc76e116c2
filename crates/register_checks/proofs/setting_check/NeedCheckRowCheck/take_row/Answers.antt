use Rattle.std.proofs.Common.{◌≡◌, true, subst, arith}
use Rattle.register_checks.specs.CheckedTables.{ShowsKeyNeed, counts_of}
use Rattle.register_checks.specs.{declared.found.Found.Found, Within.CheckedRows.key_need, OpeningChecks.IsNeedOf}
use Rattle.register_checks.proofs.EntriesChecked.{one_more, one_odd, one_need}
use Rattle.register_checks.proofs.setting_check.NeedCheckRowCheck.take_row.Goals as goal

pub returns-in_default-clause-refused : goal.returns-in_default-clause-refused
returns-in_default-clause-refused c result first rows taken =
    one_odd ShowsKeyNeed (IsNeedOf (counts_of first.found)) rows c.args.row.now
    (λ set shows is. c.in_default.ensures set shows)

pub returns-in_default-clause-taken : goal.returns-in_default-clause-taken
returns-in_default-clause-taken c result first rows taken = absurd (cc)

pub returns-clause-taken : goal.returns-clause-taken
returns-clause-taken c result first rows taken =
    let set = key_need c.in-Some.shown.key c.in-Some.shown.need in
    let passed : c.is_need_of_counted_key.result ≡ true = cc in
    let own = c.is_need_of_counted_key.ensures.0 passed in (
      taken.0,
      one_more ShowsKeyNeed (IsNeedOf (counts_of first.found)) rows c.args.row.now set taken.1 c.in-Some.ensures
          (subst (λ (f : Found). IsNeedOf (counts_of f) set) taken.0 own),
    )

pub returns-clause-refused : goal.returns-clause-refused
returns-clause-refused c result first rows taken =
    let set = key_need c.in-Some.shown.key c.in-Some.shown.need in
    one_odd ShowsKeyNeed (IsNeedOf (counts_of first.found)) rows c.args.row.now (search (arith, one_need))
