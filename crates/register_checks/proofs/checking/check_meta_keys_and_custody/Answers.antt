use Rattle.std.proofs.Common.{Ok, List, ℕ, arith}
use Rattle.std.specs.Global.{Vec}
use Rattle.sqlite.specs.{Held.state, State.State, State.Survives}
use Rattle.register_tables.specs.declared.table.TableName.TheVariants.{Approval, Custodian, Meta, Request}
use Rattle.register_checks.specs.Within.CheckedRows.{Chain, IsCounts, KnowsCounts, KnowsCustodians}
use Rattle.register_checks.specs.Within.CheckedTables.{ChecksTable}
use Rattle.register_checks.specs.{declared.found.Found.Found, Stored.Stored, OpeningChecks.before}
use Rattle.register_checks.proofs.Asked.{in_both}
use Rattle.register_checks.proofs.Chained.{CustodiansCheck, KeysChecks, KnowsNames, KnowsOwners, chain_as}
use Rattle.register_checks.proofs.Chained.{custodians_pass, custodians_stop, keys_pass, keys_stop, meta_passes}
use Rattle.register_checks.proofs.Chained.{meta_stops, silent_pass, silent_stop, stops_first}
use Rattle.register_checks.proofs.checking.check_meta_keys_and_custody.Goals as goal

-- the keys pass after meta, and the custodians after them
module _ (found : Found) (a b d : State) (begun : Survives a b (λ _. ⊥)) (counts : (t : Stored)
    → ChecksTable Meta t IsCounts a b (Ok found))
    (goes_on : Survives b d (λ _. ⊥)) (owners : Vec (List ℕ)) (checks : KeysChecks found a b d (Ok owners)) where
  owners_pass : Chain (before Custodian) (KnowsOwners found a owners) a d
  owners_pass = keys_pass found a b d goes_on (meta_passes a b found begun counts) owners checks

  names_pass : (e : State) → Survives d e (λ _. ⊥) → (lists : Vec (Vec (List ℕ)))
      → CustodiansCheck found a owners d e (Ok lists)
      → Chain (before Approval) (KnowsNames found a owners lists) a e
  names_pass e further lists its = custodians_pass found a d e further owners owners_pass lists its

pub returns-in_err-found-clause-checks : goal.returns-in_err-found-clause-checks
returns-in_err-found-clause-checks g c =
    let e = c.in_err-found.field-0.0 in
    let q = c.from_residual.result in
    stops_first (before Request) _ _ e q c.from_residual.ensures.1
    (meta_stops _ _ e q c.from_residual.ensures.1 c.check_and_read_meta.ensures.survives c.in_err-found.ensures.checks)

pub returns-in_err-owners-clause-checks : goal.returns-in_err-owners-clause-checks
returns-in_err-owners-clause-checks g c =
    let found = c.in_ok-found.found in
    let one = meta_passes _ _ found c.check_and_read_meta.ensures.survives c.in_ok-found.ensures.checks in
    let error = c.in_err-owners.field-0.0 in
    let q = c.from_residual-in_err-owners.result in
    let is = c.from_residual-in_err-owners.ensures.1 in
    stops_first (before Request) _ _ error q is
    (keys_stop found _ _ _ c.check_keys_and_list_owners.ensures.survives one error q is c.in_err-owners.ensures.checks)

pub returns-in_err-custodians-clause-checks : goal.returns-in_err-custodians-clause-checks
returns-in_err-custodians-clause-checks g c =
    let found = c.in_ok-found.found in
    let owners = c.in_ok-owners.owners in
    let two = owners_pass found _ _ _ c.check_and_read_meta.ensures.survives c.in_ok-found.ensures.checks
    c.check_keys_and_list_owners.ensures.survives owners c.in_ok-owners.ensures.checks in
    let is = c.from_residual-in_err-custodians.ensures.1 in
    stops_first (before Request) _ _ _ _ is
    (custodians_stop found _ _ _ c.check_and_list_custodians.ensures.survives owners two c.in_err-custodians.field-0.0
    c.from_residual-in_err-custodians.result is c.in_err-custodians.ensures.checks)

pub returns-in_err-check_approval_rows-clause-checks : goal.returns-in_err-check_approval_rows-clause-checks
returns-in_err-check_approval_rows-clause-checks g c =
    let lists = c.in_ok-custodians.custodians in
    let three = names_pass c.in_ok-found.found _ _ _ c.check_and_read_meta.ensures.survives c.in_ok-found.ensures.checks
    c.check_keys_and_list_owners.ensures.survives c.in_ok-owners.owners
    c.in_ok-owners.ensures.checks _ c.check_and_list_custodians.ensures.survives lists
    c.in_ok-custodians.ensures.checks in
    let is = c.from_residual-in_err-check_approval_rows.ensures.1 in
    stops_first (before Request) _ _ c.in_err-check_approval_rows.field-0.0 c.from_residual-in_err-check_approval_rows.result is
    (silent_stop Approval (λ t. KnowsCustodians t.tables.custodians lists)
    (KnowsNames c.in_ok-found.found (state g.S.Store c.args.connection.now) c.in_ok-owners.owners lists) _ _ _
    (λ t k. k.1)
    three c.check_approval_rows.ensures.survives (λ t k. in_both Approval (omega arith) t.version)
    c.in_err-check_approval_rows.field-0.0
    c.from_residual-in_err-check_approval_rows.result is c.in_err-check_approval_rows.ensures.checks)

pub returns-clause-checks : goal.returns-clause-checks
returns-clause-checks g c =
    let found = c.in_ok-found.found in
    let lists = c.in_ok-custodians.custodians in
    let Knows = KnowsNames found (state g.S.Store c.args.connection.now) c.in_ok-owners.owners lists in
    let three = names_pass found _ _ _ c.check_and_read_meta.ensures.survives c.in_ok-found.ensures.checks
    c.check_keys_and_list_owners.ensures.survives c.in_ok-owners.owners
    c.in_ok-owners.ensures.checks _ c.check_and_list_custodians.ensures.survives lists
    c.in_ok-custodians.ensures.checks in
    let four = silent_pass Approval (λ t. KnowsCustodians t.tables.custodians lists) Knows _ _ _ (λ t k. k.1) three
    c.check_approval_rows.ensures.survives (λ t c p. p) (λ t c k. k) c.in_ok-check_approval_rows.ensures.checks in
    chain_as (before Request) Knows (KnowsCounts found) _ _ (λ t k. k.0.0) four
