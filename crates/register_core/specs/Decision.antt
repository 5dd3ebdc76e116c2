-- What a decision to accept a request makes of the register, where the key that the request names is known.
use Rattle.std.specs.Prelude.{◌≡◌, ℕ, ◌+◌, not, List, [], ◌∷◌, ◌++◌, filter, Option, None, Some, IfSome}
use Rattle.lifecycle_core.specs.{declared.row.Row.Row, Row.IsRightAt}
use Rattle.period_core.specs.Period.{Period, period_or_default}
use Rattle.period_core.specs.{declared.key_type.KeyType.KeyType, Fitting.dates_with_defaults}
use Rattle.register_requests.specs.declared.request.Command.TheVariants.{SetPeriod}
use Rattle.register_requests.specs.declared.request.Registration.{Registration}
use Rattle.register_requests.specs.Subject.{Subject, Makes, Names, NoKey, subject}
use Rattle.register_requests.specs.{declared.request.Request.Request, declared.request.Command.Command}
use Rattle.register_core.specs.declared.change.CustodyChange.{CustodyChange}
use Rattle.register_core.specs.declared.change.CustodyChange.TheVariants.{Kept, CustodianAdded, CustodianRemoved}
use Rattle.register_core.specs.declared.change.CustodyChange.TheVariants.{Approved, Withdrawn, ApprovalsEnded, NeedSet}
use Rattle.register_core.specs.History.{set_period, latest, count, period, type}
use Rattle.register_core.specs.Settings.{KeyNeed, TypePeriod, with_need, with_period, all_needs, all_periods}
use Rattle.register_core.specs.Custody.{all_custodians, custodians, all_approvals, approvals, need, held}
use Rattle.register_core.specs.Effect.{given_dates, dates_after, owner_after, row_with_dates_at, custody_change}
use Rattle.register_core.specs.Effect.{needed_period_type}
use Rattle.register_core.specs.KeyName.{is_key_name, is_at, KeyName, key_name}
use Rattle.register_core.specs.{declared.reply.Reply.Reply, declared.view.Held.Held, declared.view.View.View}
use Rattle.register_core.specs.{declared.change.Change.Change, declared.key.Key.Key, Verdict.named_key}
use Rattle.register_core.specs.declared.change.Change.TheVariants as change

-- what an accepted request makes of the key that it names by this number, by these periods of the types
abbrev pub change_of_held_key : (KeyType → Period) → ℕ → Held → Request → Change
change_of_held_key periods key held q =
    change.Held key (owner_after held.owner q.command)
    (row_with_dates_at (dates_after (periods held.kind) held.row.dates q.moment q.command) q.moment)
    (custody_change held.row.dates q.caller q.command)

-- the key that a registration makes at the moment t
abbrev pub registered_key : (KeyType → Period) → ℕ → Registration → Key
registered_key periods t new = record {
  kind = new.kind;
  owner = new.owner;
  purpose = new.purpose;
  row = row_with_dates_at
      (dates_with_defaults (periods new.kind) (given_dates t new)) t;
}

-- what an accepted command that is about no key changes of what the register keeps besides keys
abbrev pub change_without_key : Command → Change
change_without_key (SetPeriod kind period) = change.PeriodSet kind period
change_without_key c = change.Nothing

-- what an accepted request about this subject changes, where the key that it names stands so
abbrev pub change_of : (KeyType → Period) → Subject → Option Held → Request → Change
change_of periods (Makes registration) key q = change.Made (registered_key periods q.moment registration)
change_of periods (Names key) None q = change.Nothing
change_of periods (Names key) (Some held) q = change_of_held_key periods key held q
change_of periods NoKey key q = change_without_key q.command

-- what an accepted request changes, where the key that it names stands so
abbrev pub change_by_request : (KeyType → Period) → Option Held → Request → Change
change_by_request periods key q = change_of periods (subject q.command) key q

-- the reply to a request with this change, where this many keys were made before it
abbrev pub reply_to : ℕ → ℕ → Change → Reply
reply_to keys t (change.Made key) = record { key = keys + 1; state = Some key.row.state; moment = t }
reply_to keys t (change.Held key owner row custody) = record { key = key; state = Some row.state; moment = t }
reply_to keys t (change.PeriodSet kind period) = record { key = 0; state = None; moment = t }
reply_to keys t change.Nothing = record { key = 0; state = None; moment = t }

-- the reply to the request, where the decision rests on this view and accepts it
abbrev pub reply_of_view : View → Request → Reply
reply_of_view view q = reply_to view.keys q.moment (change_by_request (period_or_default view.period) view.key q)

-- the key's row is right at t
abbrev pub IsRightKey : Option Held → ℕ → Type 0
IsRightKey None t = Unit {0}
IsRightKey (Some held) t = IsRightAt held.row t

-- the view is that of this history and this command
pub record IsViewOf (view : View) (h : List Request) (c : Command) : Type 0 where
  pub latest_is : view.latest ≡ latest h
  pub keys_are : view.keys ≡ count h
  pub period_is : IfSome (needed_period_type view.key c) (λ kind. view.period ≡ set_period h kind)
  pub key_is : view.key ≡ named_key h c

-- ---- what a change leads to

-- what the change of a key's custody makes of the custodians of all keys
abbrev pub custodians_by : ℕ → CustodyChange → List (KeyName) → List (KeyName)
custodians_by key (CustodianAdded name) entries = entries ++ key_name key name ∷ []
custodians_by key (CustodianRemoved name) entries = filter (λ entry. not (is_key_name key name entry)) entries
custodians_by key _ entries = entries

-- what the change of a key's custody makes of the approvals of all keys
abbrev pub approvals_by : ℕ → CustodyChange → List (KeyName) → List (KeyName)
approvals_by key (CustodianRemoved name) entries = filter (λ entry. not (is_key_name key name entry)) entries
approvals_by key (Approved name) entries = entries ++ key_name key name ∷ []
approvals_by key (Withdrawn name) entries = filter (λ entry. not (is_key_name key name entry)) entries
approvals_by key ApprovalsEnded entries = filter (λ entry. not (is_at key entry)) entries
approvals_by key _ entries = entries

-- what the change of a key's custody makes of the needs that are set
abbrev pub needs_by : ℕ → CustodyChange → List KeyNeed → List KeyNeed
needs_by key (NeedSet need) sets = with_need key need sets
needs_by key _ sets = sets

-- the custodians, the approvals and the needs after the request are those before it, with the change
pub record CustodyLead (h : List Request) (q : Request) (key : ℕ) (custody : CustodyChange) : Type 0 where
  pub custodians_are : all_custodians (h ++ q ∷ []) ≡ custodians_by key custody (all_custodians h)
  pub approvals_are : all_approvals (h ++ q ∷ []) ≡ approvals_by key custody (all_approvals h)
  pub needs_are : all_needs (h ++ q ∷ []) ≡ needs_by key custody (all_needs h)

-- what a change makes of the periods that are set
abbrev pub periods_by : Change → List TypePeriod → List TypePeriod
periods_by (change.PeriodSet kind period) sets = with_period kind period sets
periods_by _ sets = sets

-- the periods after the request are those before it, with the change
abbrev pub PeriodsLead : List Request → Request → Change → Type 0
PeriodsLead h q change = all_periods (h ++ q ∷ []) ≡ periods_by change (all_periods h)

-- key k stands so in the history, with the custody that it has there
abbrev pub Stands : List Request → ℕ → KeyType → List ℕ → Row → Type 0
Stands h k kind owner row = held h k ≡ Some (record {
  kind = kind;
  owner = owner;
  row = row;
  need = need h k;
  custodians = custodians h k;
  approvals = approvals h k;
})

-- The key that the change is of stands as the change says, once the request is at the end of this history. Its
-- custodians and approvals are those that the change leaves; at no other key does anybody come or go. So are the
-- periods that are set.
abbrev pub LeadsTo : List Request → Request → Change → Type 0
LeadsTo h q (change.Made key) =
    Stands (h ++ q ∷ []) (count h + 1) key.kind key.owner key.row × CustodyLead h q (count h + 1) Kept
    × PeriodsLead h q (change.Made key)
LeadsTo h q (change.Held key owner row custody) =
    Stands (h ++ q ∷ []) key (type h key) owner row × CustodyLead h q key custody
    × PeriodsLead h q (change.Held key owner row custody)
LeadsTo h q (change.PeriodSet kind period) =
    CustodyLead h q 0 Kept × PeriodsLead h q (change.PeriodSet kind period)
LeadsTo h q change.Nothing = CustodyLead h q 0 Kept × PeriodsLead h q change.Nothing
