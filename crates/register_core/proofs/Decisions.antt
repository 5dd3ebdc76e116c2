-- What an accepted request changes is what the history with it at its end says of its key and of its custody.
use Rattle.std.proofs.Common.{◌≡◌, ℕ, ◌+◌, ◌≤◌, nat_le, Bool, true, ◌&&◌, cond, List, [], ◌∷◌, ◌++◌, Option, None, Some}
use Rattle.std.proofs.Common.{refl, ap, ◌∙◌, arith}
use Rattle.std.specs.{Prelude.is_some, Option.option_and_then}
use Rattle.lifecycle_core.specs.declared.dates.Dates.{Dates}
use Rattle.period_core.specs.Fitting.{dates_with_defaults}
use Rattle.register_requests.specs.declared.request.Command.TheVariants.{Advance, SetPeriod}
use Rattle.register_requests.specs.declared.request.Registration.{Registration}
use Rattle.register_requests.specs.Subject.{Subject, Makes, Names, NoKey, subject, named_by, key_by, named}
use Rattle.register_requests.specs.Within.Subject.{key_concerned, count_by}
use Rattle.register_requests.specs.{declared.request.Request.Request, declared.request.Command.Command, Version.current}
use Rattle.register_core.specs.History.{latest, count, period, type, dates, owner}
use Rattle.register_core.specs.Effect.{given_dates, dates_after, owner_after, row_with_dates_at}
use Rattle.register_core.specs.Custody.{custodians, approvals, need, held}
use Rattle.register_core.specs.Decision.{change_of_held_key, registered_key, change_of, change_by_request}
use Rattle.register_core.specs.Decision.{change_without_key, reply_to, Stands, LeadsTo}
use Rattle.register_core.specs.{declared.reply.Refusal.TheVariants.UnknownKey, Verdict.key_refusal, Verdict.named_key}
use Rattle.register_core.specs.{Verdict.judgement, Settings.all_periods, declared.view.Held.Held}
use Rattle.register_core.specs.{declared.change.Change.Change, KeptReply.reply, CustodyRefusal.custody_refusal_in}
use Rattle.register_core.proofs.Histories.{latest_grows, count_grows, key_named, kind_named, owner_named, dates_named}
use Rattle.register_core.proofs.Histories.{kind_made, owner_made, dates_made, periods_next}
use Rattle.register_core.proofs.CustodyLeads.{IsNew, nobody_changes, custody_lead}
use Rattle.register_core.proofs.{Filling.past, Refusals.IsPassed, Refusals.passes}
use Rattle.register_core.specs.declared.change.Change.TheVariants as change

-- ---- a key as it stands

-- key k as it stands, where it is a key
abbrev pub standing : List Request → ℕ → Held
standing h k = record {
  kind = type h k;
  owner = owner h k;
  row = row_with_dates_at (dates h k) (latest h);
  need = need h k;
  custodians = custodians h k;
  approvals = approvals h k;
}

abbrev pub is_there : List Request → ℕ → Bool
is_there h k = nat_le 1 k && nat_le k (count h)

pub there : (h : List Request) (k : ℕ) → 1 ≤ k → k ≤ count h → is_there h k ≡ true
there h k low high = grind arith

-- the key that a history holds is there, and stands so
pub held_stands : (h : List Request) (k : ℕ) (key : Held) → Some key ≡ held h k
    → (is_there h k ≡ true) × (key ≡ standing h k)
held_stands h k key e = grind arith

pub count_named : (h : List Request) (q : Request) (k : ℕ) → named q.command ≡ Some k → count (h ++ q ∷ []) ≡ count h
count_named h q k names = grind (arith, count_grows)

pub held_named : (h : List Request) (q : Request) (k : ℕ) → named q.command ≡ Some k → is_there h k ≡ true →
    Stands (h ++ q ∷ []) k (type h k) (owner_after (owner h k) q.command)
    (row_with_dates_at (dates_after (period h (type h k)) (dates h k) q.moment q.command) q.moment)
held_named h q k names is =
    cc (
      count_named h q k names,
      kind_named h q k names,
      owner_named h q k names,
      dates_named h q k names,
      latest_grows h q,
    )

pub held_made : (h : List Request) (q : Request) (r : Registration) → subject q.command ≡ Makes r →
    let key = registered_key (period h) q.moment r in Stands (h ++ q ∷ []) (count h + 1) key.kind key.owner key.row
held_made h q r makes =
    let counted : count (h ++ q ∷ []) ≡ count h + 1 = count_grows h q ∙ ap (λ s. count h + count_by s) makes in
    let is = there (h ++ q ∷ []) (count h + 1) (omega arith) (omega (arith, counted)) in
    cc (is, kind_made h q r makes, owner_made h q r makes, dates_made h q r makes, latest_grows h q)

-- ---- replies

reply_of_key : (h : List Request) (q : Request) (k : ℕ) (d : Dates) → key_concerned (count h) q.command ≡ Some k
    → dates (h ++ q ∷ []) k ≡ d →
    record { key = k; state = Some (row_with_dates_at d q.moment).state; moment = q.moment } ≡ reply h q
reply_of_key h q k d is same = cc

-- ---- periods that stay

periods_made : (h : List Request) (q : Request) (r : Registration) → subject q.command ≡ Makes r
    → all_periods (h ++ q ∷ []) ≡ all_periods h
periods_made h q r makes = grind (arith, periods_next)

periods_named : (h : List Request) (q : Request) (k : ℕ) → named q.command ≡ Some k
    → all_periods (h ++ q ∷ []) ≡ all_periods h
periods_named h q k names = grind (arith, periods_next)

-- ---- changes

-- the change's reply is the request's, and the change leads to what the history says
abbrev Agrees : List Request → Request → Change → Type 0
Agrees h q change = (reply_to (count h) q.moment change ≡ reply h q) × LeadsTo h q change

agrees_made : (h : List Request) (q : Request) (r : Registration) → subject q.command ≡ Makes r
    → Agrees h q (change.Made (registered_key (period h) q.moment r))
agrees_made h q r makes =
    let given : Dates = given_dates q.moment r in
    let replies =
    reply_of_key h q (count h + 1) (dates_with_defaults (period h r.kind) given) (ap (key_by (count h)) makes)
    (dates_made h q r makes) in
    (replies, (held_made h q r makes, nobody_changes h q (count h + 1) (ap named_by makes), periods_made h q r makes))

agrees_named : (h : List Request) (q : Request) (k : ℕ) → named q.command ≡ Some k → is_there h k ≡ true → IsNew h q k →
    Agrees h q (change_of_held_key (period h) k (standing h k) q)
agrees_named h q k names is new = search (reply_of_key, key_named, dates_named, held_named, custody_lead, periods_named)

pub unknown_named : (c : Command) (k : ℕ) → named c ≡ Some k → key_refusal None c ≡ Some UnknownKey
unknown_named c k names = ap (λ (key : Option ℕ). cond (is_some key) (Some UnknownKey) None) names

pub new_names : (h : List Request) (q : Request) (k : ℕ)
    → custody_refusal_in current (Some (standing h k)) q.caller q.command ≡ None → IsNew h q k
new_names h q k free = grind (arith, past)

agrees_key : (h : List Request) (q : Request) (k : ℕ) (key : Option Held) → named q.command ≡ Some k → key ≡ held h k
    → IsPassed current (latest h) (count h) (period h) key q → Agrees h q (change_of (period h) (Names k) key q)
agrees_key h q k None names is passed = cc
agrees_key h q k (Some key) names is passed =
    let stands = held_stands h k key is in
    let new = new_names h q k (rw stands.1 at passed.custody) in
    rw stands.1 (agrees_named h q k names stands.0 new)

-- a command about no key
agrees_without : (h : List Request) (q : Request) (c : Command) → q.command ≡ c → subject c ≡ NoKey
    → Agrees h q (change_without_key c)
agrees_without h q (SetPeriod kind period) is none = (cc, (nobody_changes h q 0 (rw is refl), cc (periods_next h q)))
agrees_without h q Advance is none = (cc, (nobody_changes h q 0 (rw is refl), cc (periods_next h q)))
agrees_without h q c is none = absurd cc

agrees_by : (h : List Request) (q : Request) (s : Subject) (key : Option Held) → subject q.command ≡ s
    → key ≡ named_key h q.command → IsPassed current (latest h) (count h) (period h) key q
    → Agrees h q (change_of (period h) s key q)
agrees_by h q (Makes r) key is view passed = agrees_made h q r is
agrees_by h q (Names k) key is view passed =
    agrees_key h q k key (ap named_by is) (view ∙ ap (λ (s : Subject). option_and_then (held h) (named_by s)) is) passed
agrees_by h q NoKey key is view passed = agrees_without h q q.command refl is

-- ---- accepted requests

pub accepted_agrees : (h : List Request) (q : Request) → judgement h q ≡ None
    → Agrees h q (change_by_request (period h) (named_key h q.command) q)
accepted_agrees h q accepted = search (agrees_by, passes)

-- so do as many keys and a change that are these
pub agrees_as : (h : List Request) (q : Request) (keys : ℕ) (change : Change) → keys ≡ count h
    → change ≡ change_by_request (period h) (named_key h q.command) q → judgement h q ≡ None
    → (reply_to keys q.moment change ≡ reply h q) × LeadsTo h q change
agrees_as h q keys change counted same accepted =
    let agrees = accepted_agrees h q accepted in grind arith
