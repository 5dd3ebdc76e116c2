-- The transitions between the states of a key, and the paths that they make: KMIP 1.2, State.
use Rattle.std.specs.Prelude.{◌≡◌, List, [], ◌∷◌, Contains, Option, None, Some}
use Rattle.lifecycle_core.specs.declared.state.State.{State}
use Rattle.lifecycle_core.specs.declared.state.State.TheVariants.{PreActive, Active, Deactivated, Compromised}
use Rattle.lifecycle_core.specs.declared.state.State.TheVariants.{Destroyed, DestroyedCompromised}

-- the ten transitions in the standard's order, each from a state to a state; the first creates the
-- key, which has no state before it
abbrev pub transitions : List (Option State × State)
transitions =
    (None, PreActive) ∷
    (Some PreActive, Destroyed) ∷
    (Some PreActive, Compromised) ∷
    (Some PreActive, Active) ∷
    (Some Active, Compromised) ∷
    (Some Active, Deactivated) ∷
    (Some Deactivated, Destroyed) ∷
    (Some Deactivated, Compromised) ∷
    (Some Compromised, DestroyedCompromised) ∷
    (Some Destroyed, DestroyedCompromised) ∷
    []

-- a key may go from the one state to the other by one of KMIP 1.2's ten transitions (section 3.22)
abbrev pub IsTransition : Option State → State → Type 0
IsTransition from to = Contains transitions (from, to)

-- a path is a list of transitions, perhaps empty, joined end to end
abbrev pub IsPath : Option State → List (Option State × State) → Option State → Type 0
IsPath from [] to = from ≡ to
IsPath from (step ∷ path) to =
    (step.0 ≡ from) × IsTransition step.0 step.1 × IsPath (Some step.1) path to

-- a path leads from the one to the other
abbrev pub HasPath : Option State → Option State → Type 0
HasPath from to = (path : List (Option State × State)) × IsPath from path to
