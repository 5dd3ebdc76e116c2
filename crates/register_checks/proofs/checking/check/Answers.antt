use Rattle.std.proofs.Common.{◌≡◌, Ok, ◌∷◌, arith}
use Rattle.sqlite.specs.State.{State, Survives}
use Rattle.register_requests.specs.declared.version.Version.TheVariants.{First, Second}
use Rattle.register_tables.specs.declared.table.TableName.TheVariants.{Request, Period, Quorum}
use Rattle.register_checks.specs.Within.CheckedRows.{Chain, IsAnything, KnowsCounts}
use Rattle.register_checks.specs.Within.CheckedTables.{ChecksTable}
use Rattle.register_checks.specs.{declared.found.Found.Found, OpeningChecks.before, Stored.Stored}
use Rattle.register_checks.proofs.Chained.{IsSecond, all_pass, is_second, silent_pass, silent_stop, stops_too}
use Rattle.register_checks.proofs.{Asked.in_both, EntriesChecked.second_within}
use Rattle.register_checks.proofs.checking.check.Goals as goal

module _ (found : Found) (a b d : State) (chain : Chain (before Request) (KnowsCounts found) a b)
    (survives : Survives b d (λ _. ⊥))
    (checks : (t : Stored) → KnowsCounts found t → ChecksTable Request t IsAnything b d (Ok (tt {0}))) where
  requests_pass : Chain (Request ∷ before Request) (KnowsCounts found) a d
  requests_pass =
      silent_pass Request (KnowsCounts found) (KnowsCounts found) a b d (λ t k. k) chain survives (λ t c p. p)
      (λ t c k. k) checks

  periods_pass : (is : found.version ≡ Second) (e : State) (goes_on : Survives d e (λ _. ⊥))
      → ((t : Stored) → IsSecond t → ChecksTable Period t IsAnything d e (Ok (tt {0})))
      → Chain (Period ∷ before Period) (KnowsCounts found) a e
  periods_pass is e goes_on its =
      silent_pass Period IsSecond (KnowsCounts found) a d e (is_second found is) requests_pass goes_on (λ t c p. p)
      (λ t c k. k) its

pub returns-in_err-found-clause-checks : goal.returns-in_err-found-clause-checks
returns-in_err-found-clause-checks g c = search (arith, stops_too)

pub returns-in_err-check_requests-clause-checks : goal.returns-in_err-check_requests-clause-checks
returns-in_err-check_requests-clause-checks g c =
    let Knows = KnowsCounts c.in_ok-found.found in
    silent_stop Request Knows Knows _ _ _ (λ t k. k) c.in_ok-found.ensures.checks c.check_requests.ensures.survives
    (λ t k. in_both Request (omega arith) t.version) c.in_err-check_requests.field-0.0
    c.from_residual-in_err-check_requests.result c.from_residual-in_err-check_requests.ensures.1
    c.in_err-check_requests.ensures.checks

pub returns-in_err-check_periods-in-Second-clause-checks : goal.returns-in_err-check_periods-in-Second-clause-checks
returns-in_err-check_periods-in-Second-clause-checks g c =
    let found = c.in_ok-found.found in
    let second = is_second found c.in-Second.is in
    let requests = requests_pass found _ _ _ c.in_ok-found.ensures.checks c.check_requests.ensures.survives
    c.in_ok-check_requests.ensures.checks in
    silent_stop Period IsSecond (KnowsCounts found) _ _ _ second requests c.check_periods.ensures.survives
    (λ t k. second_within Period t (second t k) (omega arith)) c.in_err-check_periods-in-Second.field-0.0
    c.from_residual-in_err-check_periods-in-Second.result c.from_residual-in_err-check_periods-in-Second.ensures.1
    c.in_err-check_periods-in-Second.ensures.checks

pub returns-in_err-check_needs-in-Second-clause-checks : goal.returns-in_err-check_needs-in-Second-clause-checks
returns-in_err-check_needs-in-Second-clause-checks g c =
    let found = c.in_ok-found.found in
    let second = is_second found c.in-Second.is in
    let periods = periods_pass found _ _ _ c.in_ok-found.ensures.checks c.check_requests.ensures.survives
    c.in_ok-check_requests.ensures.checks
    c.in-Second.is _ c.check_periods.ensures.survives c.in_ok-check_periods-in-Second.ensures.checks in
    silent_stop Quorum (λ t. IsSecond t × KnowsCounts found t) (KnowsCounts found) _ _ _ (λ t k. (second t k, k))
    periods
    c.check_needs.ensures.survives (λ t k. second_within Quorum t (second t k) (omega arith))
    c.in_err-check_needs-in-Second.field-0.0 c.from_residual-in_err-check_needs-in-Second.result
    c.from_residual-in_err-check_needs-in-Second.ensures.1
    (λ t n. c.in_err-check_needs-in-Second.ensures.checks t n.0 n.1)

pub returns-in-First-clause-checks : goal.returns-in-First-clause-checks
returns-in-First-clause-checks g c =
    let found = c.in_ok-found.found in
    let requests = requests_pass found _ _ _ c.in_ok-found.ensures.checks c.check_requests.ensures.survives
    c.in_ok-check_requests.ensures.checks in
    all_pass First _ _ found c.in-First.is requests

pub returns-in_ok-check_needs-in-Second-clause-checks : goal.returns-in_ok-check_needs-in-Second-clause-checks
returns-in_ok-check_needs-in-Second-clause-checks g c =
    let found = c.in_ok-found.found in
    let periods = periods_pass found _ _ _ c.in_ok-found.ensures.checks c.check_requests.ensures.survives
    c.in_ok-check_requests.ensures.checks c.in-Second.is _ c.check_periods.ensures.survives
    c.in_ok-check_periods-in-Second.ensures.checks in
    all_pass Second _ _ found c.in-Second.is (
    silent_pass Quorum (λ t. IsSecond t × KnowsCounts found t) (KnowsCounts found) _ _ _
    (λ t k. (is_second found c.in-Second.is t k, k)) periods c.check_needs.ensures.survives (λ t c p. p) (λ t c k. k)
    (λ t n. c.in_ok-check_needs-in-Second.ensures.checks t n.0 n.1))
