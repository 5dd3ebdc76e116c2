use Rattle.std.proofs.Common.{◌≡◌, rules, subst, sym}
use Rattle.sqlite.specs.State.{Survives}
use Rattle.sql_steps.specs.Within.{Then}
use Rattle.sql_steps.proofs.Stepping.{stays, steps_then, steps_weaker}
use Rattle.register_rows.specs.declared.accepted_request.DueDate.TheVariants.{Activation, Deactivation}
use Rattle.register_tables.specs.TableChanges.{Makes, AreRightAt, with_keys_advanced}
use Rattle.register_rows.specs.Within.Due.{moved_on, with_each}
use Rattle.register_rows.specs.Within.TableChanges.{Always}
use Rattle.register_rows.proofs.DueStates.{moves_all, none_moves}
use Rattle.register_tables.proofs.Wrote.{wrote}
use Rattle.register_rows.proofs.accepted_request.advance_due.Goals as goal

pub returns : goal.returns
returns g c =
    let at = c.args.at in
    let latest = c.args.latest in
    let a = g.T.Inside.sees c.args.tx.now in
    let b = g.T.Inside.sees c.advance_keys_by_date.new.tx in
    let d = g.T.Inside.sees c.advance_keys_by_date-2.new.tx in
    let First = Makes Always (with_each (moved_on Activation at)) in
    let Next = Makes Always (with_each (moved_on Deactivation at)) in
    wrote (search rules) (search rules) (
    steps_weaker (λ _. Then First Next) (λ _. Makes (AreRightAt latest) (with_keys_advanced at)) a d
    c.advance_keys_by_date-2.result (λ _ old new. moves_all latest at c.requires old new)
    (steps_then (λ _. First) (λ _. Next) a b d c.in_ok-advance_keys_by_date.field-0 c.advance_keys_by_date-2.result
    c.in_ok-advance_keys_by_date.ensures.made c.advance_keys_by_date-2.ensures.made))

pub returns-then-eq : goal.returns-then-eq
returns-then-eq g c =
    let at = c.args.at in
    let latest = c.args.latest in
    let a = g.T.Inside.sees c.args.tx.now in
    let same : latest ≡ at = search rules in
    let none : Survives a a (λ _. ⊥) = search rules in
    wrote (search rules) (search rules)
    (stays (λ _. Makes (AreRightAt latest) (with_keys_advanced at)) a tt
    (subst (λ t. Makes (AreRightAt t) (with_keys_advanced at) a.now a.now) (sym same) (none_moves at a.now)) none)
