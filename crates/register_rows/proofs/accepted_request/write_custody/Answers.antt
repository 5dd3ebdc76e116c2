use Rattle.std.proofs.Common.{◌≡◌, ◌≤◌, ℕ, Result, Ok, refl, arith}
use Rattle.sqlite.specs.State.{State}
use Rattle.register_core.specs.declared.change.CustodyChange.{CustodyChange}
use Rattle.register_core.specs.declared.change.CustodyChange.TheVariants.{Kept}
use Rattle.sql_steps.proofs.Stepping.{stays}
use Rattle.register_rows.specs.Change.{with_custody}
use Rattle.register_tables.specs.declared.counted.StepCount.{StepCount}
use Rattle.register_tables.specs.{Within.StepCount.WritesInside, TableChanges.Makes}
use Rattle.register_rows.specs.Within.TableChanges.{Always}
use Rattle.register_tables.proofs.Readings.{survives_none}
use Rattle.register_rows.proofs.accepted_request.write_custody.Goals as goal

-- what is written is what was asked for
module _ {A E : Type 0} {sees : A → State} {name : A → ℕ} {most : ℕ} {asked made : CustodyChange} {old new : A}
    {before after : StepCount} {r : Result (Unit {0}) E} where
  written : (number : ℕ) → asked ≡ made → most ≤ 2
      → WritesInside sees name most (Makes Always (with_custody number made)) old new before after r
      → WritesInside sees name 2 (Makes Always (with_custody number asked)) old new before after r
  written number is few did = search arith

pub returns-in-CustodianAdded : goal.returns-in-CustodianAdded
returns-in-CustodianAdded g c =
    written c.args.number c.in-CustodianAdded.is (omega arith) c.give_or_take_role.ensures

pub returns-in-CustodianRemoved : goal.returns-in-CustodianRemoved
returns-in-CustodianRemoved g c =
    written c.args.number c.in-CustodianRemoved.is (omega arith) c.give_or_take_role-in-CustodianRemoved.ensures

pub returns-in-Approved : goal.returns-in-Approved
returns-in-Approved g c =
    written c.args.number c.in-Approved.is (omega arith) c.give_or_take_role-in-Approved.ensures

pub returns-in-Withdrawn : goal.returns-in-Withdrawn
returns-in-Withdrawn g c =
    written c.args.number c.in-Withdrawn.is (omega arith) c.give_or_take_role-in-Withdrawn.ensures

pub returns-in-ApprovalsEnded : goal.returns-in-ApprovalsEnded
returns-in-ApprovalsEnded g c =
    written c.args.number c.in-ApprovalsEnded.is (omega arith) c.end_approvals.ensures

pub returns-in-NeedSet : goal.returns-in-NeedSet
returns-in-NeedSet g c =
    written c.args.number c.in-NeedSet.is (omega arith) c.write_setting.ensures

pub returns-in-Kept : goal.returns-in-Kept
returns-in-Kept g c =
    let a = g.T.Inside.sees c.args.tx.now in
    let stood = stays (λ (_ : Unit {0}). Makes Always (with_custody c.args.number Kept)) a (tt {0})
    (λ t holds always. holds) (survives_none a) in
    written {most = 0} {made = Kept} {r = Ok (tt {0})} c.args.number c.in-Kept.is (omega arith)
    (record { same_reference = refl; counted = record { risen = omega arith; within = omega arith }; made = stood })
