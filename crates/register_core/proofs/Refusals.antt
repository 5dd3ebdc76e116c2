-- What an accepted request has passed: none of the refusals holds, each by its name.
use Rattle.std.proofs.Common.{◌≡◌, ℕ, Option, None}
use Rattle.period_core.specs.{declared.key_type.KeyType.KeyType, Period.Period}
use Rattle.register_requests.specs.declared.version.Version.{Version}
use Rattle.register_requests.specs.{declared.request.Request.Request, CommandRule.rule}
use Rattle.register_core.specs.Verdict.{moment_refusal, key_refusal, giver_refusal, state_refusal, freeze_refusal}
use Rattle.register_core.specs.Verdict.{dates_refusal, occurrence_refusal, limit_refusal, judge_in}
use Rattle.register_core.specs.{declared.view.Held.Held, CustodyRefusal.custody_refusal_in}
use Rattle.register_core.proofs.Filling.{past}

pub record IsPassed (version : Version) (last keys : ℕ) (periods : KeyType → Period) (key : Option Held) (q : Request)
    : Type 0 where
  pub in_time : moment_refusal last q.moment ≡ None
  pub known : key_refusal key q.command ≡ None
  pub giver : giver_refusal (rule q.command).giver key q.caller ≡ None
  pub state : state_refusal (rule q.command).states key q.moment ≡ None
  pub free : freeze_refusal key q.moment q.command ≡ None
  pub fit : dates_refusal periods key q.moment q.command ≡ None
  pub custody : custody_refusal_in version key q.caller q.command ≡ None
  pub occurred : occurrence_refusal q.moment q.command ≡ None
  pub numbered : limit_refusal keys q.command ≡ None

pub passes : (version : Version) (last keys : ℕ) (periods : KeyType → Period) (key : Option Held) (q : Request)
    → judge_in version last keys periods key q ≡ None → IsPassed version last keys periods key q
passes version last keys periods key q accepted =
    let entry = past _ _ accepted in
    let in_time = past _ _ entry.here in
    let known = past _ _ in_time.later in
    let giver = past _ _ known.later in
    let state = past _ _ giver.later in
    let free = past _ _ entry.later in
    let fit = past _ _ free.later in
    let custody = past _ _ fit.later in
    let occurred = past _ _ custody.later in
    record {
      in_time = in_time.here;
      known = known.here;
      giver = giver.here;
      state = state.here;
      free = free.here;
      fit = fit.here;
      custody = custody.here;
      occurred = occurred.here;
      numbered = (past _ _ occurred.later).here;
    }
