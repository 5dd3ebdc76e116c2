-- What an input asks for, rule by rule; each rule is reached where none before it holds. It speaks of the whole input,
-- and of no step in which it is read.
use Rattle.std.specs.Prelude.{◌≡◌, ◌≢◌, ℕ, ◌<◌, ◌≤◌, List, [], ◌∷◌, length, take, map, codes, decimal, Option, Some}
use Rattle.std.specs.Prelude.{None}
use Rattle.httparse.specs.{Grammar.RequestHead, Spans.name_and_value}
use Rattle.http_messages.specs.HeaderFields.{HeaderLines, values_of, IsLength}
use Rattle.http_messages.specs.declared.asked.Asked.TheVariants.{Reject, ShowKey, ShowUsage, Apply}
use Rattle.http_messages.specs.declared.asked.Rejection.TheVariants.{BadRequest, NoRoute, MethodNotAllowed}
use Rattle.http_messages.specs.declared.asked.Rejection.TheVariants.{LengthRequired, TooLarge}
use Rattle.http_messages.specs.declared.route.Route.TheVariants.{Requests, Show, Usage}
use Rattle.http_messages.specs.{Head.HasHead, Head.HasBadHead, Head.HasLargeHead, Route.IsRouteOf, Route.method_of}
use Rattle.http_messages.specs.{CommandBody.IsBodyOf, declared.asked.Asked.Asked, declared.route.Route.Route}
use Rattle.register_requests.specs.{Name.IsName, Number.IsNumber, declared.request.Command.Command}

-- the names and the values of a head's header lines
abbrev pub lines_of : RequestHead → HeaderLines
lines_of h = map name_and_value h.fields

-- how many bytes a body has at most
abbrev pub max_body_length : ℕ
max_body_length = 65_536

-- ---- header lines

-- a head of HTTP/1.1 has one Host
abbrev pub HasHost : ℕ → HeaderLines → Type 0
HasHost minor lines = minor ≡ 1 → length (values_of (codes "host") lines) ≡ 1

-- just one header line has this name, and its value is this one
abbrev pub IsOneValue : List ℕ → HeaderLines → List ℕ → Type 0
IsOneValue name lines v = values_of name lines ≡ v ∷ []

-- no transfer coding is named
abbrev pub IsPlain : HeaderLines → Type 0
IsPlain lines = values_of (codes "transfer-encoding") lines ≡ []

-- the body is announced to have this many bytes
abbrev pub Announces : HeaderLines → ℕ → Type 0
Announces lines n = (v : List ℕ) × IsOneValue (codes "content-length") lines v × IsLength v n

-- the request is this caller's, under this number
pub record IsFrom (lines : HeaderLines) (caller : List ℕ) (number : ℕ) : Type 0 where
  pub caller_is : IsOneValue (codes "caller") lines caller
  pub name : IsName caller
  pub number_is : IsOneValue (codes "request-number") lines (decimal number)
  pub in_range : IsNumber number

-- ---- what is asked for

-- a body whose head announces n bytes and names its sender
pub data AsksBody (n : ℕ) (caller : List ℕ) (number : ℕ) (rest : List ℕ) : Asked → Type 0 where
  cut_short : length rest < n → AsksBody n caller number rest (Reject BadRequest)
  no_command : n ≤ length rest → ((q : Command) → IsBodyOf (take n rest) q → ⊥)
      → AsksBody n caller number rest (Reject BadRequest)
  command : (q : Command) → n ≤ length rest → IsBodyOf (take n rest) q
      → AsksBody n caller number rest (Apply (record { caller = caller; number = number; command = q }))

-- a request with the method POST for the route of requests
pub data AsksPost (lines : HeaderLines) (rest : List ℕ) : Asked → Type 0 where
  encoded : (IsPlain lines → ⊥) → AsksPost lines rest (Reject LengthRequired)
  no_length : values_of (codes "content-length") lines ≡ [] → AsksPost lines rest (Reject LengthRequired)
  bad_length : IsPlain lines → values_of (codes "content-length") lines ≢ []
      → ((n : ℕ) → Announces lines n → ⊥) → AsksPost lines rest (Reject BadRequest)
  large_body : (n : ℕ) → IsPlain lines → Announces lines n → max_body_length < n
      → AsksPost lines rest (Reject TooLarge)
  no_sender : (n : ℕ) → IsPlain lines → Announces lines n → n ≤ max_body_length
      → ((caller : List ℕ) (number : ℕ) → IsFrom lines caller number → ⊥)
      → AsksPost lines rest (Reject BadRequest)
  sent : (n number : ℕ) (caller : List ℕ) (a : Asked) → IsPlain lines → Announces lines n
      → n ≤ max_body_length → IsFrom lines caller number → AsksBody n caller number rest a
      → AsksPost lines rest a

-- a whole head with the rest of the input after it
pub data AsksAfter (h : RequestHead) (rest : List ℕ) : Asked → Type 0 where
  no_host : (HasHost h.minor (lines_of h) → ⊥) → AsksAfter h rest (Reject BadRequest)
  no_path : HasHost h.minor (lines_of h) → IsRouteOf h.target None → AsksAfter h rest (Reject NoRoute)
  no_method : (r : Route) → HasHost h.minor (lines_of h) → IsRouteOf h.target (Some r) → h.method ≢ method_of r
      → AsksAfter h rest (Reject (MethodNotAllowed r))
  show : (key : ℕ) → HasHost h.minor (lines_of h) → IsRouteOf h.target (Some (Show key))
      → h.method ≡ codes "GET" → AsksAfter h rest (ShowKey key)
  usage : (key : ℕ) → HasHost h.minor (lines_of h) → IsRouteOf h.target (Some (Usage key))
      → h.method ≡ codes "GET" → AsksAfter h rest (ShowUsage key)
  post : (a : Asked) → HasHost h.minor (lines_of h) → IsRouteOf h.target (Some Requests)
      → h.method ≡ codes "POST" → AsksPost (lines_of h) rest a → AsksAfter h rest a

-- an input that is not empty, by what its head is: none that is taken, one too large, or a whole one
pub data AsksSome (input : List ℕ) : Asked → Type 0 where
  bad_head : HasBadHead input → AsksSome input (Reject BadRequest)
  large_head : HasLargeHead input → AsksSome input (Reject TooLarge)
  whole_head : (h : RequestHead) (rest : List ℕ) (a : Asked) → HasHead input h rest → AsksAfter h rest a
      → AsksSome input a

-- what a whole input asks for, or nothing where it is empty
abbrev pub AsksFor : List ℕ → Option Asked → Type 0
AsksFor input None = input ≡ []
AsksFor input (Some a) = AsksSome input a
