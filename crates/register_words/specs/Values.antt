-- The values among the program's words. Their forms are those of the fields of a request line; the bounds on days and
-- exchanges are this register's own.
use Rattle.std.specs.Prelude.{◌≡◌, ◌≤◌, ℕ, List, decimal, Option, None, Some}
use Rattle.moment_core.specs.Moment.{last_second}
use Rattle.register_requests.specs.{Name.IsName, Number.IsNumber}
use Rattle.register_words.specs.{declared.values.Bounds.Bounds, declared.values.GivenBounds.GivenBounds}
use Rattle.register_words.specs.{declared.values.GivenTerms.GivenTerms, declared.values.Terms.Terms}

-- for how many days a report looks ahead at most
abbrev pub max_days : ℕ
max_days = 36_500

-- the text is that of a moment
abbrev pub IsMomentText : List ℕ → ℕ → Type 0
IsMomentText text moment = (text ≡ decimal moment) × (moment ≤ last_second)

-- the text is the name of a caller
abbrev pub IsCaller : List ℕ → List ℕ → Type 0
IsCaller text name = (text ≡ name) × IsName name

-- the text is the number of a request
abbrev pub IsFirst : List ℕ → ℕ → Type 0
IsFirst text number = (text ≡ decimal number) × IsNumber number

-- a whole number within these bounds
abbrev pub IsBetween : ℕ → ℕ → List ℕ → ℕ → Type 0
IsBetween least most text number = (text ≡ decimal number) × (least ≤ number) × (number ≤ most)

-- the days that a report looks ahead
abbrev pub IsDays : List ℕ → ℕ → Type 0
IsDays = IsBetween 0 max_days

-- a port of TCP
abbrev pub IsPort : List ℕ → ℕ → Type 0
IsPort = IsBetween 1 65_535

-- how many exchanges are served at most
abbrev pub max_exchanges : ℕ
max_exchanges = 1_000_000

-- how many exchanges are to be served
abbrev pub IsExchanges : List ℕ → ℕ → Type 0
IsExchanges = IsBetween 1 max_exchanges

-- the port, and how many exchanges are to be served, as they were given
pub record AreBounds (given : GivenBounds) (bounds : Bounds) : Type 0 where
  pub port : IsPort given.port.now bounds.port
  pub exchanges : IsExchanges given.exchanges.now bounds.exchanges

-- the moment, the caller and the number of the first request of an import, as they were given
pub record AreTerms (given : GivenTerms) (terms : Terms) : Type 0 where
  pub moment : IsMomentText given.moment.now terms.moment
  pub caller : IsCaller given.caller.now terms.caller
  pub first : IsFirst given.first.now terms.first

-- what is read of what was given is its value, and nothing is read only where it has none
abbrev pub ReadsValue : {T X : Type 0} → (T → X → Type 0) → T → Option X → Type 0
ReadsValue Is given None = (value : _) → Is given value → ⊥
ReadsValue Is given (Some value) = Is given value
