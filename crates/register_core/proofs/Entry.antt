-- The refusals of who asks, of which key and when, in the order in which the code looks for them.
use Rattle.std.proofs.Common.{◌≡◌, ℕ, Option, None, Some, Result, arith}
use Rattle.std.specs.Prelude.{IsErrAnd}
use Rattle.period_core.specs.{Fitting.first_that_holds, Within.Checks}
use Rattle.register_core.specs.Verdict.{giver_refusal, moment_refusal, key_refusal, state_refusal, entry_refusals}
use Rattle.register_core.specs.{declared.reply.Refusal.Refusal, declared.view.Held.Held}
use Rattle.register_requests.specs.declared.command_rule.Giver.{Giver}
use Rattle.register_requests.specs.{declared.request.Request.Request, CommandRule.rule}

-- neither the moment nor the key is refused
pub record IsIn (last : ℕ) (key : Option Held) (q : Request) : Type 0 where
  pub moment : moment_refusal last q.moment ≡ None
  pub key_is : key_refusal key q.command ≡ None

-- then the refusal of the rule's giver is the first, if there is one,
pub giver_first : {last : ℕ} {key : Option Held} {q : Request} {giver : Giver} {refusal : Refusal} → IsIn last key q
    → giver ≡ (rule q.command).giver → giver_refusal giver key q.caller ≡ Some refusal
    → (told : Result (Unit {0}) Refusal) → IsErrAnd told (λ x. x ≡ refusal)
    → Checks (first_that_holds (entry_refusals last key q)) told
giver_first own is refused told tells = grind arith

-- and else that of its states
pub state_last : {last : ℕ} {key : Option Held} {q : Request} {giver : Giver} → IsIn last key q
    → giver ≡ (rule q.command).giver → giver_refusal giver key q.caller ≡ None
    → (told : Result (Unit {0}) Refusal) → Checks (state_refusal (rule q.command).states key q.moment) told
    → Checks (first_that_holds (entry_refusals last key q)) told
state_last own is none told checked = grind arith
