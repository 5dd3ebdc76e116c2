use Rattle.std.proofs.Common.{◌≡◌, ◌+◌, length, sym, subst, arith, rules}
use Rattle.sql_steps.specs.{Steps.StepsBy, Within.Then}
use Rattle.sql_steps.proofs.Stepping.{steps_then, steps_weaker}
use Rattle.register_core.specs.declared.change.Change.{Change}
use Rattle.register_core.specs.declared.change.Change.TheVariants.{Held, Made}
use Rattle.register_tables.specs.TableChanges.{Makes, HasKeys, with_owner_and_row, with_key, with_key_at}
use Rattle.register_rows.specs.Change.{with_change, with_custody}
use Rattle.register_rows.specs.Within.TableChanges.{Always}
use Rattle.register_tables.proofs.Wrote.{wrote}
use Rattle.register_rows.proofs.accepted_request.write_change.Goals as goal

pub returns-in_ok-set_owner_state_and_dates-in-Held : goal.returns-in_ok-set_owner_state_and_dates-in-Held
returns-in_ok-set_owner_state_and_dates-in-Held g c =
    let arm = c.in-Held in
    let a = g.T.Inside.sees c.args.tx.now in
    let b = g.T.Inside.sees c.set_owner_state_and_dates.new.tx in
    let d = g.T.Inside.sees c.write_custody.new.tx in
    let key = arm.key in
    let Updates = Makes Always (with_key_at key (with_owner_and_row arm.owner arm.row)) in
    let Custody = Makes Always (with_custody key arm.custody) in
    let All = λ (change : Change). Makes (HasKeys c.args.keys) (with_change change) in
    let both = steps_then (λ _. Updates) (λ _. Custody) a b d c.in_ok-set_owner_state_and_dates-in-Held.field-0
    c.write_custody.result c.in_ok-set_owner_state_and_dates-in-Held.ensures.made c.write_custody.ensures.made in
    wrote (search rules) (search rules) (
    subst (λ (change : Change). StepsBy (λ _. All change) a d c.write_custody.result) (sym arm.is)
    (steps_weaker (λ _. Then Updates Custody) (λ _. All (Held key arm.owner arm.row arm.custody)) a d
    c.write_custody.result
    (λ _ old new done t holds has. done.2 _ (done.1 t holds tt) tt) both))

pub returns-in-Made : goal.returns-in-Made
returns-in-Made g c =
    let keys = c.args.keys in
    let key = c.in-Made.key in
    let a = g.T.Inside.sees c.args.tx.now in
    let b = g.T.Inside.sees c.add_key.new.tx in
    let All = λ (change : Change). Makes (HasKeys keys) (with_change change) in
    wrote (search rules) (search rules) (
    subst (λ (change : Change). StepsBy (λ _. All change) a b c.add_key.result) (sym c.in-Made.is)
    (steps_weaker (λ _. Makes (λ t. keys + 1 ≡ length t.keys + 1) (with_key key)) (λ _. All (Made key)) a b
    c.add_key.result
    (λ _ old new done t holds has. done t holds (omega (arith, has))) c.add_key.ensures.made))

pub returns-in-PeriodSet : goal.returns-in-PeriodSet
returns-in-PeriodSet g c =
    let arm = c.in-PeriodSet in
    let a = g.T.Inside.sees c.args.tx.now in
    let b = g.T.Inside.sees c.write_setting.new.tx in
    let All = λ (change : Change). Makes (HasKeys c.args.keys) (with_change change) in
    wrote (search rules) (search rules) (
    subst (λ (change : Change). StepsBy (λ _. All change) a b c.write_setting.result) (sym arm.is)
    (search (arith, steps_weaker)))
