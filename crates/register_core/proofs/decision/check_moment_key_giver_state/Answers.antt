use Rattle.register_core.proofs.Entry.{IsIn, giver_first, state_last}
use Rattle.register_core.proofs.decision.check_moment_key_giver_state.Goals as goal

pub returns-in_err-check_giver : goal.returns-in_err-check_giver
returns-in_err-check_giver c =
    let own : IsIn c.args.view.now.latest c.args.view.now.key c.args.request.now = record {
      moment = c.in_ok-check_moment.ensures;
      key_is = c.in_ok-check_key_exists.ensures;
    } in
    giver_first own c.rule-rule.ensures.giver c.in_err-check_giver.ensures
    c.from_residual-in_err-check_giver.result c.from_residual-in_err-check_giver.ensures.1

pub returns : goal.returns
returns c =
    let own : IsIn c.args.view.now.latest c.args.view.now.key c.args.request.now = record {
      moment = c.in_ok-check_moment.ensures;
      key_is = c.in_ok-check_key_exists.ensures;
    } in
    state_last own c.rule-rule.ensures.giver c.in_ok-check_giver.ensures c.check_state.result
    (c.check_state.ensures _ c.rule-rule.ensures.states)
