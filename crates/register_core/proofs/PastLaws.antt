-- What was done to a key of a lawful history is not later than the latest moment.
use Rattle.std.proofs.Common.{◌≡◌, ℕ, ◌≤◌, List, [], ◌∷◌, ◌++◌, None, Some, IsTrue, arith, inl, inr}
use Rattle.lifecycle_core.specs.declared.dates.Dates.{Dates}
use Rattle.period_core.specs.{Period.Period, Fitting.is_not_after}
use Rattle.register_requests.specs.declared.request.Command.TheVariants.{Register as Registers, Activate, SetDates}
use Rattle.register_requests.specs.declared.request.Command.TheVariants.{Revoke, Destroy}
use Rattle.register_requests.specs.{declared.request.Request.Request, declared.request.Command.Command, Subject.named}
use Rattle.register_core.specs.Verdict.{occurrence_refusal, judgement}
use Rattle.register_core.specs.{History.latest, History.dates, Effect.dates_after, Fold.IsLawful, Laws.HasKey}
use Rattle.register_core.proofs.Histories.{latest_grows, dates_other, dates_named}
use Rattle.register_core.proofs.{Lawful.lawful_holds, OnKey.dates_when_made, OnKey.not_after, OnKey.which}

pub record IsPast (t : ℕ) (d : Dates) : Type 0 where
  pub initial : d.initial ≤ t
  pub destroy : IsTrue (is_not_after d.destroy (Some t))
  pub compromise : IsTrue (is_not_after d.compromise (Some t))
  pub occurrence : IsTrue (is_not_after d.compromise_occurrence d.compromise)

-- what is past stays so
later : (t u : ℕ) (d : Dates) → t ≤ u → IsPast t d → IsPast u d
later t u d le past = grind arith

-- what the command that names the key at t makes of its dates
past_after : (p : Period) (d : Dates) (t k : ℕ) (c : Command) → named c ≡ Some k → occurrence_refusal t c ≡ None
    → IsPast t d → IsPast t (dates_after p d t c)
past_after p d t k (Registers new) names early past = cc
past_after p d t k (Activate key) names early past = grind arith
past_after p d t k (SetDates key activation protect_stop deactivation) names early past = grind arith
past_after p d t k (Revoke key reason occurrence) names early past = grind arith
past_after p d t k (Destroy key) names early past = grind arith
past_after p d t k c names early past = past

abbrev AllPast : List Request → Type 0
AllPast h = (k : ℕ) → HasKey h k → IsPast (latest h) (dates h k)

past_next : (h : List Request) (q : Request) → IsLawful h → judgement h q ≡ None → AllPast h → AllPast (h ++ q ∷ [])
past_next h q lawful accepted before k has =
    let moved : (d : Dates) → IsPast (latest h) d
    → IsPast q.moment d = λ d. later (latest h) q.moment d (not_after h q accepted) in
    rw latest_grows (elim (which h q k accepted has.1) [
      | inl made ↦ rw (dates_when_made h q k made) (grind arith)
      | inr (inl on) ↦
          rw (dates_named h q k on.names)
          (past_after _ _ q.moment k q.command on.names on.occurred (moved _ (before k (on.low, on.high))))
      | inr (inr other) ↦ grind (arith, dates_other)
    ])

pub all_past : (h : List Request) → IsLawful h → AllPast h
all_past h lawful = lawful_holds AllPast past_next (λ k has. absurd (omega (arith, has.0, has.1))) h lawful
