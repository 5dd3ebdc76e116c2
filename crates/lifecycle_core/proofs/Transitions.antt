-- Which pairs are transitions, by a check, and the paths along which time takes a key.
use Rattle.std.specs.Prelude.{◌≡◌, ℕ, ◌≤◌, Bool, true, false, not, ◌&&◌, if◌then◌else◌, Option, Some, None, is_some, []}
use Rattle.std.specs.Prelude.{◌∷◌, refl}
use Rattle.std.proofs.Common.{lit<, arith}
use Rattle.std.proofs.lemmas.Bool.Decides.{nat_tests}
use Rattle.lifecycle_core.specs.declared.state.State.TheVariants.{PreActive, Active, Deactivated, Compromised}
use Rattle.lifecycle_core.specs.declared.state.State.TheVariants.{Destroyed, DestroyedCompromised}
use Rattle.lifecycle_core.specs.{declared.state.State.State, declared.dates.Dates.Dates, State.state_at}
use Rattle.lifecycle_core.specs.{State.is_reached_at, Transition.IsTransition, Transition.HasPath}

-- whether a pair is a transition
abbrev pub is_transition : Option State → State → Bool
is_transition None PreActive = true
is_transition (Some PreActive) Destroyed = true
is_transition (Some PreActive) Compromised = true
is_transition (Some PreActive) Active = true
is_transition (Some Active) Compromised = true
is_transition (Some Active) Deactivated = true
is_transition (Some Deactivated) Destroyed = true
is_transition (Some Deactivated) Compromised = true
is_transition (Some Compromised) DestroyedCompromised = true
is_transition (Some Destroyed) DestroyedCompromised = true
is_transition _ _ = false

-- a pair that passes stands in the list
pub listed : (from : Option State) (to : State) → is_transition from to ≡ true → IsTransition from to
listed None PreActive passes = (0, lit< tt, refl)
listed (Some PreActive) Destroyed passes = (1, lit< tt, refl)
listed (Some PreActive) Compromised passes = (2, lit< tt, refl)
listed (Some PreActive) Active passes = (3, lit< tt, refl)
listed (Some Active) Compromised passes = (4, lit< tt, refl)
listed (Some Active) Deactivated passes = (5, lit< tt, refl)
listed (Some Deactivated) Destroyed passes = (6, lit< tt, refl)
listed (Some Deactivated) Compromised passes = (7, lit< tt, refl)
listed (Some Compromised) DestroyedCompromised passes = (8, lit< tt, refl)
listed (Some Destroyed) DestroyedCompromised passes = (9, lit< tt, refl)
listed _ _ passes = cc

-- time takes a key along transitions: the states that the dates give, by whether each is set or reached
abbrev state_by : (destroyed compromised activated deactivated : Bool) → State
state_by destroyed compromised activated deactivated =
    if destroyed && compromised then DestroyedCompromised else
    (if destroyed then Destroyed else
    (if compromised then Compromised else
    (if not activated then PreActive else
    (if deactivated then Deactivated else
    Active))))

-- a date that is reached stays so
stays_reached : (date : Option ℕ) (t u : ℕ) → t ≤ u → is_reached_at date t ≡ true → is_reached_at date u ≡ true
stays_reached None t u le reached = reached
stays_reached (Some date) t u le reached = grind (arith, nat_tests)

stays : (state : Option State) → HasPath state state
stays state = ([], refl)

one_step : (from to : State) → is_transition (Some from) to ≡ true → HasPath (Some from) (Some to)
one_step from to passes = ((Some from, to) ∷ [], (refl, listed (Some from) to passes, refl))

-- the states before and after, by the dates reached before and after
moves : (destroyed compromised activated deactivated activated' deactivated' : Bool) →
    (activated ≡ true → activated' ≡ true) → (deactivated ≡ true → deactivated' ≡ true) →
    HasPath (Some (state_by destroyed compromised activated deactivated))
    (Some (state_by destroyed compromised activated' deactivated'))
moves true true _ _ _ _ stay stay' = stays _
moves true false _ _ _ _ stay stay' = stays _
moves false true _ _ _ _ stay stay' = stays _
moves false false false _ false _ stay stay' = stays _
moves false false false _ true false stay stay' = one_step PreActive Active refl
moves false false false _ true true stay stay' = (
  (Some PreActive, Active) ∷ (Some Active, Deactivated) ∷ [],
  (refl, listed (Some PreActive) Active refl, (refl, listed (Some Active) Deactivated refl, refl)),
)
moves false false true _ false _ stay stay' = let e : false ≡ true = stay refl in cc
moves false false true false true false stay stay' = stays _
moves false false true false true true stay stay' = one_step Active Deactivated refl
moves false false true true true false stay stay' = let e : false ≡ true = stay' refl in cc
moves false false true true true true stay stay' = stays _

pub time_leads : (d : Dates) (t u : ℕ) → t ≤ u → HasPath (Some (state_at d t)) (Some (state_at d u))
time_leads d t u le =
    moves (is_some d.destroy) (is_some d.compromise)
    (is_reached_at d.activation t) (is_reached_at d.deactivation t)
    (is_reached_at d.activation u) (is_reached_at d.deactivation u)
    (stays_reached d.activation t u le) (stays_reached d.deactivation t u le)
