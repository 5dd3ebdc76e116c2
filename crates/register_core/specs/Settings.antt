-- What is set beside the keys themselves: the usage period of a type, and the approvals that a key needs.
use Rattle.std.specs.Prelude.{ℕ, ◌==◌, not, List, [], ◌∷◌, ◌++◌, filter, find, fold, Option}
use Rattle.std.specs.Option.{option_map}
use Rattle.period_core.specs.{declared.key_type.KeyType.KeyType, KeyType.key_type_code, Period.Period}
use Rattle.register_requests.specs.declared.request.Command.TheVariants.{SetPeriod, SetQuorum}
use Rattle.register_requests.specs.{declared.request.Request.Request, declared.request.Command.Command}

-- a type with the period that the office set for it
pub record TypePeriod : Type 0 where
  pub kind : KeyType
  pub period : Period

-- a key with the number of approvals that its owner asks for
pub record KeyNeed : Type 0 where
  pub key : ℕ
  pub need : ℕ

-- ---- periods

-- the period of this type, in the place of the one that was set before, if one was
abbrev pub with_period : KeyType → Period → List TypePeriod → List TypePeriod
with_period kind period sets =
    filter (λ (set : TypePeriod). not (key_type_code set.kind == key_type_code kind)) sets
    ++ record { kind = kind; period = period } ∷ []

-- the periods that are set after a command, where these were before it
abbrev pub periods_after : List TypePeriod → Command → List TypePeriod
periods_after before (SetPeriod kind period) = with_period kind period before
periods_after before _ = before

-- the periods that were set, each as it was set last
abbrev pub all_periods : List Request → List TypePeriod
all_periods h = fold (λ before q. periods_after before q.command) [] h

-- the period that is set for a type among these, or none
abbrev pub period_at : KeyType → List TypePeriod → Option Period
period_at kind sets =
    option_map (λ (set : TypePeriod). set.period)
    (find (λ (set : TypePeriod). key_type_code set.kind == key_type_code kind) sets)

-- ---- needs

-- the need of this key, in the place of the one that was set before, if one was
abbrev pub with_need : ℕ → ℕ → List KeyNeed → List KeyNeed
with_need key need sets =
    filter (λ (set : KeyNeed). not (set.key == key)) sets ++ record { key = key; need = need } ∷ []

-- the needs that are set after a command, where these were before it
abbrev pub needs_after : List KeyNeed → Command → List KeyNeed
needs_after before (SetQuorum key need) = with_need key need before
needs_after before _ = before

-- the needs that were set, each as it was set last
abbrev pub all_needs : List Request → List KeyNeed
all_needs h = fold (λ before q. needs_after before q.command) [] h

-- the need that is set for a key among these, or none
abbrev pub need_at : ℕ → List KeyNeed → Option ℕ
need_at key sets = option_map (λ (set : KeyNeed). set.need) (find (λ (set : KeyNeed). set.key == key) sets)
