-- What functions within the crate say of one another: no public contract stands on it.
use Rattle.http_messages.specs.declared.route.Route.TheVariants.{Requests, Show, Usage}
use Rattle.http_messages.specs.{declared.route.Route.Route, declared.route.RoutePattern.RoutePattern}
use Rattle.http_messages.specs.declared.head.TheConstants.{MAX_EXCHANGE_READS}
use Rattle.http_messages.specs.{declared.asked.AskFault.TheVariants.ReadFault, declared.asking.Asking.Asking}
use Rattle.http_messages.specs.{CommandBody.IsAskedInRange, HeaderFields.HeaderLines, declared.asking.Post.Post}
use Rattle.http_messages.specs.declared.route.RoutePattern.TheVariants as kept
use Rattle.std.specs.Prelude.{◌≡◌, ℕ, ◌<◌, ◌≤◌, ◌^◌, List, ◌++◌, length, take, Option, Some, None, Vec, IfOk, IfErr}
use Rattle.std.specs.Prelude.{IfSome, [], ◌∷◌, codes}
use Rattle.std.specs.Io.KnownBytes.{Consumes, IsAtEnd}
use Rattle.std.specs.declared.alloc.Global.{Global}
use Rattle.streams.specs.{declared.watched.Watched.Watched, Watched.IsFaulted}
use Rattle.http_messages.specs.Content.{HasRead, TellsFault}
use Rattle.httparse.specs.Grammar.{RequestHead}
use Rattle.http_messages.specs.Route.{IsRouteOf, method_of}
use Rattle.http_messages.specs.Asked.{lines_of, HasHost, IsPlain, Announces, IsFrom, max_body_length}
use Rattle.lifecycle_core.specs.declared.dates.Dates.{Dates}
use Rattle.serde_json.specs.Data.{Members, Data}
use Rattle.http_messages.specs.CommandValue.{number_data, date_data, members_of, fields_members}
use Rattle.register_requests.specs.{declared.command_fields.Fields.Fields, declared.command_fields.Shape.Shape}
use Rattle.register_requests.specs.{declared.command_fields.CommandKind.CommandKind, Fields.shape_of}
use Rattle.register_requests.specs.Within.Fields.{AreFieldsInRange}

-- ---- beside `specs/CommandValue.antt`

-- ---- fields and commands

-- the members are those of a command of this kind with the fields, whatever the value of the kind among them
abbrev pub HasMembers : CommandKind → Members → Fields → Type 0
HasMembers of members fields = (kind : Data) × (members ≡ fields_members of kind fields)

-- the members are those of fields of this shape, in their ranges
abbrev pub IsShaped : CommandKind → Shape → Members → Fields → Type 0
IsShaped of shape members fields =
    AreFieldsInRange fields × (shape_of fields ≡ shape) × HasMembers of members fields

-- ---- beside `specs/Route.antt`

-- the pattern that the router keeps for a route
abbrev pub pattern_of : Route → RoutePattern
pattern_of Requests = kept.Requests
pattern_of (Show key) = kept.Key
pattern_of (Usage key) = kept.Usage

-- ---- what a whole head says of the request before its body is read

-- the head has the Host that it must have, and the target and the method of this route
pub record IsFor (h : RequestHead) (r : Route) : Type 0 where
  pub host : HasHost h.minor (lines_of h)
  pub target : IsRouteOf h.target (Some r)
  pub method : h.method ≡ method_of r

-- the header lines of a POST say this
pub record Says (lines : HeaderLines) (p : Post) : Type 0 where
  pub plain : IsPlain lines
  pub length : Announces lines p.length
  pub short : p.length ≤ max_body_length
  pub sender : IsFrom lines p.sender.caller p.sender.number

-- ---- beside `specs/Content.antt`

-- What reading an input gives and leaves: so many bytes were read, of which the asking counts few; what is asked for is
-- in range; a fault is the reader's own or the bound on reads, and that is never passed.
pub record ReadsInput {R : Type 0} (remaining : R → Option (List ℕ)) (old new : Watched R) (count : ℕ)
    (asking : Asking) : Type 0 where
  pub read : HasRead (remaining old.inner) (remaining new.inner) count
  pub few : asking.read < 2 ^ 32
  pub in_range : IfOk asking.asked (λ o. IfSome o IsAskedInRange)
  pub tells : TellsFault old.failed new.failed asking.asked
  pub fault : IfErr asking.asked (λ fault. fault ≡ ReadFault → IsFaulted new.failed MAX_EXCHANGE_READS new.turns)
  pub bounded : old.turns ≤ MAX_EXCHANGE_READS → new.turns ≤ MAX_EXCHANGE_READS

-- the first n of the bytes after the head, of which some were read with the head, or none where there are fewer
abbrev pub GetsBody : List ℕ → ℕ → Option (List ℕ) → Option (List ℕ) → Option (Vec ℕ Global) → Type 0
GetsBody after n old new (Some body) =
    (more : List ℕ) × Consumes old new more × (n ≤ length (after ++ more)) × (body.items ≡ take n (after ++ more))
GetsBody after n old new None = (more : List ℕ) × Consumes old new more × IsAtEnd new × (length (after ++ more) < n)

-- ---- beside `specs/AnswerValue.antt`

-- the dates of a key
abbrev pub date_members : Dates → Members
date_members dates =
    members_of ((codes "activation", date_data dates.activation)
    ∷ (codes "compromised", date_data dates.compromise)
    ∷ (codes "deactivation", date_data dates.deactivation)
    ∷ (codes "destroyed", date_data dates.destroy)
    ∷ (codes "initial", number_data dates.initial)
    ∷ (codes "occurrence", date_data dates.compromise_occurrence)
    ∷ (codes "protect_stop", date_data dates.protect_stop) ∷ [])
