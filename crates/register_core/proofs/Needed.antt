-- A decision on what a request needs of its key is the decision on that key as it stands.
use Rattle.std.proofs.Common.{◌≡◌, ℕ, List, Option, None, IfSome, Some, ap, refl, sym, ◌∙◌, arith}
use Rattle.std.proofs.lemmas.Bool.Decides.{nat_tests}
use Rattle.period_core.specs.{declared.key_type.KeyType.KeyType, Period.Period, Period.period_or_default}
use Rattle.register_requests.specs.Subject.{Subject, subject}
use Rattle.register_requests.specs.{declared.request.Request.Request, declared.request.Command.Command}
use Rattle.register_core.specs.History.{latest, count, period, set_period}
use Rattle.register_core.specs.Verdict.{dates_refusal, judge, judge_view, judgement, named_key}
use Rattle.register_core.specs.Decision.{change_of, change_by_request, reply_of_view, IsViewOf, LeadsTo}
use Rattle.register_core.specs.{declared.view.Held.Held, declared.view.View.View, KeptReply.reply}
use Rattle.register_core.specs.{Effect.needed_period_type, Need.needed_key, Need.Suffices}
use Rattle.register_core.proofs.Decisions.{agrees_as}

-- ---- the lists that a command does not look at

-- ---- the periods that a command does not look at

-- the periods are one for the type that the command is held to
abbrev pub AreSoFor : Option KeyType → (KeyType → Period) → (KeyType → Period) → Type 0
AreSoFor needed periods others = IfSome needed (λ kind. periods kind ≡ others kind)

-- a period that is set for that type, if one is, as the others have it
pub so_for : (needed : Option KeyType) (set : Option Period) (sets : KeyType → Option Period)
    → IfSome needed (λ kind. set ≡ sets kind)
    → AreSoFor needed (period_or_default set) (λ kind. period_or_default (sets kind) kind)
so_for None set sets is = tt
so_for (Some kind) set sets is = ap (λ (told : Option Period). period_or_default told kind) is

fit_so : (periods others : KeyType → Period) (key : Option Held) (t : ℕ) (c : Command)
    → AreSoFor (needed_period_type key c) periods others → dates_refusal periods key t c ≡ dates_refusal others key t c
fit_so periods others key t c same = grind arith

pub judge_by : (last keys : ℕ) (periods others : KeyType → Period) (key : Option Held) (q : Request)
    → AreSoFor (needed_period_type key q.command) periods others
    → judge last keys periods key q ≡ judge last keys others key q
judge_by last keys periods others key q same = rw (fit_so periods others key q.moment q.command same)

change_so : (periods others : KeyType → Period) (s : Subject) (key : Option Held) (q : Request) → subject q.command ≡ s
    → AreSoFor (needed_period_type key q.command) periods others → change_of periods s key q ≡ change_of others s key q
change_so periods others s key q is same = grind arith

pub changed_by : (periods others : KeyType → Period) (key : Option Held) (q : Request)
    → AreSoFor (needed_period_type key q.command) periods others → change_by_request periods key q
    ≡ change_by_request others key q
changed_by periods others key q same = change_so periods others (subject q.command) key q refl same

-- ---- a moment below the latest

-- ---- the decision

-- what is needed gives the judgement of the request after the history
pub judged_so : (h : List Request) (q : Request)
    → judge (latest h) (count h) (period h) (needed_key h q) q ≡ judgement h q
judged_so h q = grind (arith, nat_tests)

-- what is needed gives what the accepted request changes
pub changed_so : (h : List Request) (q : Request) → judgement h q ≡ None →
    change_by_request (period h) (needed_key h q) q ≡ change_by_request (period h) (named_key h q.command) q
changed_so h q accepted = grind (arith, nat_tests)

-- ---- a view that suffices

-- its judgement is the history's
pub judged_by : (h : List Request) (view : View) (q : Request) → Suffices view h q → judge_view view q ≡ judgement h q
judged_by h view q is =
    let period_is = so_for _ view.period (set_period h) is.period_is in
    cc (
      judge_by view.latest view.keys (period_or_default view.period) (period h) view.key q period_is,
      is.latest_is,
      is.keys_are,
      is.key_is,
      judged_so h q,
    )

-- and where it accepts, the reply and what the change leads to are
pub needed_agrees : (h : List Request) (view : View) (q : Request) → Suffices view h q → judge_view view q ≡ None →
    (reply_of_view view q ≡ reply h q) × LeadsTo h q (change_by_request (period_or_default view.period) view.key q)
needed_agrees h view q is accepted =
    let judged : judgement h q ≡ None = sym (judged_by h view q is) ∙ accepted in
    let period_is = so_for _ view.period (set_period h) is.period_is in
    agrees_as h q view.keys (change_by_request (period_or_default view.period) view.key q) is.keys_are
    (cc (
      changed_by (period_or_default view.period) (period h) view.key q period_is,
      is.key_is,
      changed_so h q judged,
    ))
    judged

-- ---- a view of the whole key

pub whole_judged : (h : List Request) (view : View) (q : Request) → IsViewOf view h q.command
    → judge_view view q ≡ judgement h q
whole_judged h view q is =
    cc (
      judge_by view.latest view.keys (period_or_default view.period) (period h) view.key q
          (so_for _ view.period (set_period h) is.period_is),
      is.latest_is,
      is.keys_are,
      is.key_is,
    )

pub whole_agrees : (h : List Request) (view : View) (q : Request) → IsViewOf view h q.command
    → judge_view view q ≡ None
    → (reply_of_view view q ≡ reply h q) × LeadsTo h q (change_by_request (period_or_default view.period) view.key q)
whole_agrees h view q is accepted =
    agrees_as h q view.keys (change_by_request (period_or_default view.period) view.key q) is.keys_are
    (cc (
      changed_by (period_or_default view.period) (period h) view.key q
          (so_for _ view.period (set_period h) is.period_is),
      is.key_is,
    ))
    (sym (whole_judged h view q is) ∙ accepted)
