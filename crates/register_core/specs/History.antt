-- The model of the register: the list of the requests that it accepted, oldest first, and what that list says of
-- each key. A key's number is its place in the order of registration, from 1.
use Rattle.std.specs.Prelude.{ℕ, List, [], ◌∷◌, ◌++◌, length, fold, Option, None, unwrap_or, if◌then◌else◌}
use Rattle.std.specs.List.{filter_map}
use Rattle.lifecycle_core.specs.declared.dates.Dates.{Dates}
use Rattle.period_core.specs.declared.key_type.KeyType.TheVariants.{DataEncryption}
use Rattle.period_core.specs.{declared.key_type.KeyType.KeyType, Period.Period, Period.periods}
use Rattle.register_requests.specs.Subject.{registration_by, key_by, is_key, subject}
use Rattle.register_requests.specs.{declared.request.Request.Request, declared.request.Registration.Registration}
use Rattle.register_core.specs.Effect.{kind_by, owner_after, period_after, sets_dates, unset_dates, dates_after}

-- the moment of the latest accepted request, 0 before the first
abbrev pub latest : List Request → ℕ
latest h = fold (λ before q. q.moment) 0 h

-- ---- keys

-- the keys that were made, in order: the k-th registration made key k
abbrev pub registrations : List Request → List Registration
registrations h = filter_map (λ q. registration_by (subject q.command)) h

-- how many keys the history made
abbrev pub count : List Request → ℕ
count h = length (registrations h)

-- a request with the history before it
pub record Placed : Type 0 where
  pub before : List Request
  pub request : Request

-- of the requests after this history, those that made or name key k, in order
abbrev pub own_from : List Request → List Request → ℕ → List Placed
own_from before [] k = []
own_from before (q ∷ later) k =
    (if is_key k (key_by (count before) (subject q.command)) then record { before = before; request = q } ∷ [] else [])
    ++ own_from (before ++ q ∷ []) later k

-- the requests that made or name key k, in order, each with the history before it
abbrev pub own : List Request → ℕ → List Placed
own h k = own_from [] h k

-- ---- usage periods

-- the period of a type that the office set last, if it set one
abbrev pub set_period : List Request → KeyType → Option Period
set_period h kind = fold (λ before q. period_after kind before q.command) None h

-- the period of a type after a history: the one that was set last, or the table's
abbrev pub period : List Request → KeyType → Period
period h kind = unwrap_or (fold (λ before q. period_after kind before q.command) None h) (periods kind)

-- ---- what the requests of a key give it

-- the type of key k; of a number that no key has it says nothing
abbrev pub type : List Request → ℕ → KeyType
type h k = fold (λ before p. kind_by before (subject p.request.command)) DataEncryption (own h k)

-- the dates that the requests of key k give it, one after the other, each by the period that its type had before it
abbrev pub dates : List Request → ℕ → Dates
dates h k =
    fold (λ d p. dates_after (period p.before (type h k)) d p.request.moment p.request.command) unset_dates (own h k)

-- the period that the dates of key k had to fit when a command gave it dates last
abbrev pub dated_by : List Request → ℕ → Period
dated_by h k =
    fold (λ before p. if sets_dates p.request.command then period p.before (type h k) else before) (periods (type h k))
    (own h k)

-- the owner that the latest of the key's requests which names one gives it
abbrev pub owner : List Request → ℕ → List ℕ
owner h k = fold (λ before p. owner_after before p.request.command) [] (own h k)
