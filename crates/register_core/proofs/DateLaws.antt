-- The dates of each key over lawful histories: they fit, and move only where they may.
use Rattle.std.proofs.Common.{◌≡◌, ℕ, cond, List, [], ◌∷◌, ◌++◌, None, sym, ap, subst, ◌∙◌, arith, inl, inr}
use Rattle.lifecycle_core.specs.declared.dates.Dates.{Dates}
use Rattle.period_core.specs.Period.{Period}
use Rattle.register_requests.specs.declared.request.Request.{Request}
use Rattle.register_core.specs.History.{period, type, dates, dated_by}
use Rattle.register_core.specs.Laws.{IsAccepted, HasKey, MovesOnly}
use Rattle.register_core.specs.{Effect.dates_after, Effect.sets_dates, Verdict.judgement, Fold.IsLawful}
use Rattle.register_core.proofs.Histories.{count_grows, dates_other, dated_other, dates_named, dated_named, dated_made}
use Rattle.register_core.proofs.OnKey.{IsOn, IsMade, dates_when_made, given_to, which}
use Rattle.register_core.proofs.DateSteps.{nothing_moves, IsSound, Steps, step, filled_fits}
use Rattle.register_core.proofs.{Verdicts.judged, Decisions.standing, Lawful.lawful_holds}

sound_as : (period other_period : Period) (d other : Dates) → other_period ≡ period → other ≡ d
    → IsSound period d → IsSound other_period other
sound_as period other_period d other same_period same sound = grind arith

-- the dates that the key is registered with
pub made_sound : (h : List Request) (q : Request) (k : ℕ) → IsMade h q k
    → IsSound (dated_by (h ++ q ∷ []) k) (dates (h ++ q ∷ []) k)
made_sound h q k made =
    let r = made.registration in
    let given : Dates = given_to q r in
    let span : Period = period h r.kind in
    let fit =
    filled_fits span given (grind arith) in
    let set = ap (dated_by (h ++ q ∷ [])) made.next ∙ dated_made h q r made.makes in
    let its = dates_when_made h q k made in
    grind arith

-- what the request makes of the dates of the key that it names
on_steps : (h : List Request) (q : Request) (k : ℕ) → IsOn h q k → IsSound (dated_by h k) (dates h k)
    → Steps (cond (sets_dates q.command) (period h (type h k)) (dated_by h k)) (dates h k) q.moment
    (dates_after (period h (type h k)) (dates h k) q.moment q.command)
on_steps h q k on sound =
    step (period h) (dated_by h k) (standing h k) q.moment k q.command on.names sound on.fits_state on.not_frozen on.fit

abbrev AllSound : List Request → Type 0
AllSound h = (k : ℕ) → HasKey h k → IsSound (dated_by h k) (dates h k)

sound_next : (h : List Request) (q : Request) → IsLawful h → judgement h q ≡ None → AllSound h → AllSound (h ++ q ∷ [])
sound_next h q lawful accepted before k has = elim (which h q k accepted has.1) [
  | inl made ↦ made_sound h q k made
  | inr (inl on) ↦
      grind (arith, on_steps, sound_as, dated_named, dates_named)
  | inr (inr other) ↦
      grind (arith, dated_other, dates_other)
]

pub all_sound : (h : List Request) → IsLawful h → AllSound h
all_sound h lawful = lawful_holds AllSound sound_next (λ k has. absurd (omega (arith, has.0, has.1))) h lawful

pub sound_after : (h : List Request) (q : Request) → IsAccepted h q → AllSound (h ++ q ∷ [])
sound_after h q is = sound_next h q is.lawful (judged h q is.accepted) (all_sound h is.lawful)

pub freeze : (h : List Request) (q : Request) → IsAccepted h q → (k : ℕ) → HasKey h k
    → MovesOnly (dates h k) q.moment (dates (h ++ q ∷ []) k)
freeze h q is k has = elim (which h q k (judged h q is.accepted) (omega (arith, has.1, count_grows h q))) [
  | inl made ↦ absurd (let next = made.next in omega (arith, next, has.1))
  | inr (inl on) ↦
      let steps = on_steps h q k on (all_sound h is.lawful k has) in
      subst (MovesOnly (dates h k) q.moment) (sym (dates_named h q k on.names)) steps.moves
  | inr (inr other) ↦ grind (arith, dates_other, nothing_moves)
]
