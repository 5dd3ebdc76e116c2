-- What a request needs of the register: of the key that it names and of the periods, no more than its decision looks
-- at.
use Rattle.std.specs.Prelude.{◌≡◌, nat_lt, List, [], Option, None, IfSome, if◌then◌else◌}
use Rattle.std.specs.Option.{option_map}
use Rattle.register_requests.specs.{declared.request.Request.Request, declared.request.Command.Command}
use Rattle.register_requests.specs.{CommandRule.looks_at_custody, CommandRule.looks_at_need, Quorum.min_approvals}
use Rattle.register_core.specs.{declared.view.Held.Held, declared.view.View.View, Effect.needed_period_type}
use Rattle.register_core.specs.{History.latest, History.count, History.set_period, Verdict.named_key}

-- the key, with both lists left empty where the command looks at neither, and the least need where it does not look at
-- that
abbrev pub needed_of : Command → Held → Held
needed_of c held = record held {
  need = if looks_at_need c then held.need else min_approvals;
  custodians = if looks_at_custody c then held.custodians else [];
  approvals = if looks_at_custody c then held.approvals else [];
}

-- What the request needs of the key that it names, as it stands: nothing where its moment is below the latest, which
-- refuses it whatever the key is.
abbrev pub needed_key : List Request → Request → Option Held
needed_key h q = if nat_lt q.moment (latest h) then None else option_map (needed_of q.command) (named_key h q.command)

-- the view has what the request needs after this history
pub record Suffices (view : View) (h : List Request) (q : Request) : Type 0 where
  pub latest_is : view.latest ≡ latest h
  pub keys_are : view.keys ≡ count h
  pub period_is : IfSome (needed_period_type view.key q.command) (λ kind. view.period ≡ set_period h kind)
  pub key_is : view.key ≡ needed_key h q
