use Rattle.std.proofs.Common.{arith, ◌≡◌, ℕ, Option, Some, subst, sym, ◌∙◌}
use Rattle.std.specs.Prelude.{IfSome}
use Rattle.period_core.specs.Period.{period_or_default}
use Rattle.register_requests.specs.declared.request.Command.{Command}
use Rattle.register_requests.specs.Subject.{Names, Subject, named, subject}
use Rattle.register_core.specs.Effect.{dates_after, dates_before, type_of}
use Rattle.register_core.specs.{declared.view.Held.Held, Decision.change_of, Within.AreDatesAfter}
use Rattle.register_core.proofs.effect.change_by_request.Goals as goal

named_subject : (c : Command) (key : ℕ) → Some key ≡ named c → subject c ≡ Names key
named_subject c key is = grind arith

pub returns-in-Some-Some : goal.returns-in-Some-Some
returns-in-Some-Some c set is =
    let q = c.args.request.now in
    let key = c.in-Some-Some.key in
    let held = c.in-Some-Some.held in
    let names = named_subject q.command key c.in-Some-Some.ensures in
    let after : Option Held → Type 0 = λ named. AreDatesAfter set named q.moment q.command c.args.dates in
    let dates =
    subst (λ (s : Subject). IfSome (type_of (Some held) s) (λ kind.
    c.args.dates ≡ dates_after (period_or_default set kind) (dates_before (Some held)) q.moment q.command)) names
    (subst after c.in-Some-Some.is-1 is) in
    c.change_of_held_key.ensures (period_or_default set) dates
    ∙ sym (λ i. change_of (period_or_default set) (names i) (c.in-Some-Some.is-1 i) q)
