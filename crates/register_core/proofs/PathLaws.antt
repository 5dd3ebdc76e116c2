-- Each accepted request takes each key along the standard's transitions.
use Rattle.std.proofs.Common.{◌≡◌, ℕ, ◌+◌, ◌≤◌, List, [], ◌∷◌, ◌++◌, Option, None, Some, sym, subst, arith, inl, inr}
use Rattle.lifecycle_core.specs.declared.state.State.{State}
use Rattle.lifecycle_core.specs.{declared.dates.Dates.Dates, State.state_at, Transition.HasPath}
use Rattle.lifecycle_core.proofs.Transitions.{time_leads}
use Rattle.period_core.specs.Period.{Period}
use Rattle.register_requests.specs.declared.request.Request.{Request}
use Rattle.register_core.specs.History.{latest, count, period, dates}
use Rattle.register_core.specs.Laws.{IsAccepted, HasKey, MovesOnly, state_of_key}
use Rattle.register_core.proofs.OnKey.{not_after, IsOn, IsMade, IsOther, dates_when_made, given_to, which}
use Rattle.register_core.proofs.DateSteps.{filled_keeps, then, path_made, path_named}
use Rattle.register_core.proofs.{Verdicts.judged, Histories.dates_other, Histories.dates_named, DateLaws.freeze}

-- key k is there: its state before is that of its dates at the latest moment
from_there : (h : List Request) (k : ℕ) (to : Option State) → k ≤ count h
    → HasPath (Some (state_at (dates h k) (latest h))) to → HasPath (state_of_key h k) to
from_there h k to high path = grind arith

from_none : (h : List Request) (k : ℕ) (to : Option State) → k ≡ count h + 1 → HasPath None to
    → HasPath (state_of_key h k) to
from_none h k to next path = grind arith

made_path : (h : List Request) (q : Request) (k : ℕ) → IsMade h q k
    → HasPath (state_of_key h k) (Some (state_at (dates (h ++ q ∷ []) k) q.moment))
made_path h q k made =
    let given : Dates = given_to q made.registration in
    let p : Period = period h made.registration.kind in
    let its = dates_when_made h q k made in
    grind (arith, filled_keeps, from_none, path_made)

on_path : (h : List Request) (q : Request) (k : ℕ) → IsAccepted h q → IsOn h q k
    → HasPath (state_of_key h k) (Some (state_at (dates (h ++ q ∷ []) k) q.moment))
on_path h q k is on =
    let d = dates h k in
    let its = dates_named h q k on.names in
    let moves = subst (MovesOnly d q.moment) its (freeze h q is k (on.low, on.high)) in
    from_there h k _ on.high (then _ (Some (state_at d q.moment)) _
    (time_leads d (latest h) q.moment (not_after h q (judged h q is.accepted)))
    (grind (arith, path_named)))

other_path : (h : List Request) (q : Request) (k : ℕ) → IsAccepted h q → IsOther h q k
    → HasPath (state_of_key h k) (Some (state_at (dates (h ++ q ∷ []) k) q.moment))
other_path h q k is other =
    from_there h k _ other.high
    (subst (λ (x : Dates). HasPath (Some (state_at (dates h k) (latest h))) (Some (state_at x q.moment)))
    (sym (dates_other h q k other.other))
    (time_leads (dates h k) (latest h) q.moment (not_after h q (judged h q is.accepted))))

pub path : (h : List Request) (q : Request) → IsAccepted h q → (k : ℕ) → HasKey (h ++ q ∷ []) k
    → HasPath (state_of_key h k) (Some (state_at (dates (h ++ q ∷ []) k) q.moment))
path h q is k has = elim (which h q k (judged h q is.accepted) has.1) [
  | inl made ↦ made_path h q k made
  | inr (inl on) ↦ on_path h q k is on
  | inr (inr other) ↦ other_path h q k is other
]
