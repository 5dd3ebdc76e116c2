use Rattle.std.proofs.Common.{◌+◌, ℕ, List, Result, Ok, Err, arith}
use Rattle.sqlite_trees.specs.declared.store.Store.{Ghosts}
use Rattle.register_rows.specs.declared.stored_key.Role.TheVariants.{Custodian, Approver}
use Rattle.register_tables.specs.TableReads.{seen, load_steps, Calls, CallsOver, ReadsBy, HasHeldKey, HasRow}
use Rattle.register_rows.specs.Within.Names.{count_at, HasNames}
use Rattle.register_tables.specs.{declared.counted.Counted.Counted, declared.error.StoreError.StoreError, Tables.Tables}
use Rattle.register_tables.proofs.Readings.{calls_then, calls_weaker, reads_as, reads_fail, reads_then}
use Rattle.register_rows.proofs.stored_key.load_key.Goals as goal

pub returns-in_err-key-clause-reads : goal.returns-in_err-key-clause-reads
returns-in_err-key-clause-reads g c = search (arith, reads_fail)

pub returns-in_default-clause-reads : goal.returns-in_default-clause-reads
returns-in_default-clause-reads g c = search (arith, reads_as)

pub returns-in_err-custodians-clause-reads : goal.returns-in_err-custodians-clause-reads
returns-in_err-custodians-clause-reads g c =
    let a = seen g.S.Store c.args.connection.now in
    let b = seen g.S.Store c.find_key_row.new.connection in
    let d = seen g.S.Store c.find_names_in_role.new.connection in
    let both = reads_then (HasRow c.args.number) (HasNames Custodian c.args.number) a b d c.in_ok-key.field-0
    (Err c.in_err-custodians.field-0.0) c.in_ok-key.ensures.reads c.in_err-custodians.ensures.reads in
    reads_fail (λ t names. HasRow c.args.number t c.in_ok-key.field-0 × HasNames Custodian c.args.number t names)
    (HasHeldKey c.args.number c.args.need) a d c.in_err-custodians.field-0.0 c.from_residual-in_err-custodians.result
    c.from_residual-in_err-custodians.ensures.1 both

pub returns-in_err-approvals-clause-reads : goal.returns-in_err-approvals-clause-reads
returns-in_err-approvals-clause-reads g c =
    let number = c.args.number in
    let a = seen g.S.Store c.args.connection.now in
    let b = seen g.S.Store c.find_key_row.new.connection in
    let d = seen g.S.Store c.find_names_in_role.new.connection in
    let e = seen g.S.Store c.find_names_in_role-2.new.connection in
    let First = λ (t : Tables) (names : List (List ℕ)). HasRow number t c.in_ok-key.field-0
    × HasNames Custodian number t names in
    let two = reads_then (HasRow number) (HasNames Custodian number) a b d c.in_ok-key.field-0
    (Ok c.in_ok-custodians.custodians) c.in_ok-key.ensures.reads c.in_ok-custodians.ensures.reads in
    let three = reads_then First (HasNames Approver number) a d e c.in_ok-custodians.custodians
    (Err c.in_err-approvals.field-0.0) two c.in_err-approvals.ensures.reads in search (arith, reads_fail)

pub returns-clause-reads : goal.returns-clause-reads
returns-clause-reads g c =
    let number = c.args.number in
    let a = seen g.S.Store c.args.connection.now in
    let b = seen g.S.Store c.find_key_row.new.connection in
    let d = seen g.S.Store c.find_names_in_role.new.connection in
    let e = seen g.S.Store c.find_names_in_role-2.new.connection in
    let key = c.in-Some.key in
    let First = λ (t : Tables) (names : List (List ℕ)). HasRow number t c.in_ok-key.field-0
    × HasNames Custodian number t names in
    let two = reads_then (HasRow number) (HasNames Custodian number) a b d c.in_ok-key.field-0
    (Ok c.in_ok-custodians.custodians) c.in_ok-key.ensures.reads c.in_ok-custodians.ensures.reads in
    let three = reads_then First (HasNames Approver number) a d e c.in_ok-custodians.custodians
    (Ok c.in_ok-approvals.approvals) two c.in_ok-approvals.ensures.reads in
    reads_as (λ t names. First t c.in_ok-custodians.custodians × HasNames Approver number t names)
    (HasHeldKey number c.args.need) a e c.in_ok-approvals.approvals _
    (search arith)
    three

-- ---- steps

pub returns-in_err-custodians-clause-counted : goal.returns-in_err-custodians-clause-counted
returns-in_err-custodians-clause-counted g c = search (arith, calls_weaker, calls_then)

-- the row and the custodians, and then the approvals
with_approvals : {S : Type 0} (g : Ghosts S) (number : ℕ) (a b d e : Counted S g) (row : _) (names : List (List ℕ))
    (r : Result (List (List ℕ)) StoreError)
    → ReadsBy (HasRow number) (seen g a) (seen g b) (Ok row)
    → ReadsBy (HasNames Custodian number) (seen g b) (seen g d) (Ok names)
    → ReadsBy (HasNames Approver number) (seen g d) (seen g e) r
    → Calls 2 a b → CallsOver g (λ t. 1 + count_at number Custodian t) b d
    → CallsOver g (λ t. 1 + count_at number Approver t) d e → CallsOver g (load_steps number) a e
with_approvals g number a b d e row names r one two three first second third =
    search (arith, calls_weaker, calls_then, reads_then)

pub returns-in_err-approvals-clause-counted : goal.returns-in_err-approvals-clause-counted
returns-in_err-approvals-clause-counted g c = search (arith, with_approvals)

pub returns-clause-counted : goal.returns-clause-counted
returns-clause-counted g c = search (arith, with_approvals)
