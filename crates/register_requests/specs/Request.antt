-- Requests in their ranges, and the one line of each. All of it is this register's own.
use Rattle.std.specs.Prelude.{IfSome, ◌≡◌, Bool, true, false, ◌&&◌, nat_lt, ℕ, ◌≤◌, List, [], ◌∷◌, ◌++◌, length}
use Rattle.std.specs.Prelude.{codes, decimal, flat_map, Option, None, Some}
use Rattle.moment_core.specs.Moment.{IsMoment}
use Rattle.register_requests.specs.declared.request.Command.TheVariants.{Register, Activate, SetDates, Revoke, Assign}
use Rattle.register_requests.specs.declared.request.Command.TheVariants.{AddCustodian, RemoveCustodian, Approve}
use Rattle.register_requests.specs.declared.request.Command.TheVariants.{Withdraw, Destroy, Advance, SetQuorum}
use Rattle.register_requests.specs.declared.request.Command.TheVariants.{SetPeriod}
use Rattle.register_requests.specs.declared.request.Edit.TheVariants.{Keep, Clear, Set}
use Rattle.register_requests.specs.{Name.IsName, Number.IsNumber, Purpose.IsPurpose, Quorum.IsQuorum}
use Rattle.register_requests.specs.{declared.request.Request.Request, declared.request.Command.Command}
use Rattle.register_requests.specs.{declared.request.Edit.Edit, CommandRule.rule, Subject.named}
use Rattle.period_core.specs.{KeyType.key_type_text, Period.IsPeriod}
use Rattle.lifecycle_core.specs.Reason.{reason_code, is_compromise}

-- ---- ranges

-- a date that is given is a moment
abbrev pub IsDate : Option ℕ → Type 0
IsDate date = IfSome date IsMoment

-- the greatest number that a request can name a key by
abbrev pub max_key_number : ℕ
max_key_number = 4_294_967_295

-- the number of a key in a request
abbrev pub IsKeyNumber : ℕ → Type 0
IsKeyNumber key = (1 ≤ key) × (key ≤ max_key_number)

-- an edit that sets a date sets it to a moment
abbrev pub IsEdit : Edit → Type 0
IsEdit Keep = Unit {0}
IsEdit Clear = Unit {0}
IsEdit (Set date) = IsMoment date

-- Each argument of the command is in its range, and a revocation gives an occurrence only where its reason is a
-- compromise. Own.
abbrev pub IsCommand : Command → Type 0
IsCommand (Register new) =
    IsName new.owner × IsDate new.activation × IsDate new.protect_stop × IsDate new.deactivation × IsPurpose new.purpose
IsCommand (Activate key) = IsKeyNumber key
IsCommand (SetDates key activation protect_stop deactivation) =
    IsKeyNumber key × IsEdit activation × IsEdit protect_stop × IsEdit deactivation
IsCommand (Revoke key reason occurrence) =
    IsKeyNumber key × IsDate occurrence × (is_compromise reason ≡ false → occurrence ≡ None)
IsCommand (Assign key owner) = IsKeyNumber key × IsName owner
IsCommand (AddCustodian key name) = IsKeyNumber key × IsName name
IsCommand (RemoveCustodian key name) = IsKeyNumber key × IsName name
IsCommand (Approve key) = IsKeyNumber key
IsCommand (Withdraw key) = IsKeyNumber key
IsCommand (Destroy key) = IsKeyNumber key
IsCommand Advance = Unit {0}
IsCommand (SetQuorum key need) = IsKeyNumber key × IsQuorum need
IsCommand (SetPeriod kind period) = IsPeriod period

-- A request's moment, caller, number and command are in their ranges (own).
pub record IsRequest (q : Request) : Type 0 where
  pub moment : IsMoment q.moment
  pub caller : IsName q.caller
  pub number : IsNumber q.number
  pub command : IsCommand q.command

-- a key that is named has a number from 1 on
abbrev pub is_numbered : Option ℕ → Bool
is_numbered None = true
is_numbered (Some key) = nat_lt 0 key

-- What the types of a command's parts leave open of these ranges: a key that is named has a number from 1 on, and an
-- occurrence is given only with a compromise.
abbrev pub is_in_range : Command → Bool
is_in_range (Revoke key reason (Some occurrence)) = nat_lt 0 key && is_compromise reason
is_in_range c = is_numbered (named c)

-- ---- texts

-- a moment, or - for none
abbrev pub date_text : Option ℕ → List ℕ
date_text None = codes "-"
date_text (Some date) = decimal date

-- = for a date that stays, - for one that is unset
abbrev pub edit_text : Edit → List ℕ
edit_text Keep = codes "="
edit_text Clear = codes "-"
edit_text (Set date) = decimal date

-- The texts of a command's arguments in the order of its line. A purpose comes last, since it may hold spaces. Own.
abbrev pub argument_texts : Command → List (List ℕ)
argument_texts (Register new) =
    key_type_text new.kind ∷ new.owner ∷ date_text new.activation ∷ date_text new.protect_stop
    ∷ date_text new.deactivation ∷ new.purpose ∷ []
argument_texts (Activate key) = decimal key ∷ []
argument_texts (SetDates key activation protect_stop deactivation) =
    decimal key ∷ edit_text activation ∷ edit_text protect_stop ∷ edit_text deactivation ∷ []
argument_texts (Revoke key reason occurrence) = decimal key ∷ decimal (reason_code reason) ∷ date_text occurrence ∷ []
argument_texts (Assign key owner) = decimal key ∷ owner ∷ []
argument_texts (AddCustodian key name) = decimal key ∷ name ∷ []
argument_texts (RemoveCustodian key name) = decimal key ∷ name ∷ []
argument_texts (Approve key) = decimal key ∷ []
argument_texts (Withdraw key) = decimal key ∷ []
argument_texts (Destroy key) = decimal key ∷ []
argument_texts Advance = []
argument_texts (SetQuorum key need) = decimal key ∷ decimal need ∷ []
argument_texts (SetPeriod kind period) = key_type_text kind ∷ decimal period.originator ∷ decimal period.recipient ∷ []

-- these texts, each after one space
abbrev pub spaced : List (List ℕ) → List ℕ
spaced texts = flat_map (λ text. codes " " ++ text) texts

-- the word of a command, and its arguments
abbrev pub command_text : Command → List ℕ
command_text c = (rule c).word ++ spaced (argument_texts c)

-- the one text of a request: its moment, caller, number and command, with a space between
abbrev pub request_text : Request → List ℕ
request_text q = decimal q.moment ++ spaced (q.caller ∷ decimal q.number ∷ command_text q.command ∷ [])

-- The bytes, without the LF that ends the line, are the text of a request whose values are in their ranges; they are at
-- most 1024. Own.
pub record IsLineOf (bytes : List ℕ) (q : Request) : Type 0 where
  pub request : IsRequest q
  pub within : length bytes ≤ 1024
  pub text : bytes ≡ request_text q

-- what the bytes stand for: the value whose text they are, or none where they are the text of no value
abbrev pub IsReadAs : {A : Type 0} → (List ℕ → A → Type 0) → List ℕ → Option A → Type 0
IsReadAs {A} IsText bytes None = (x : A) → IsText bytes x → ⊥
IsReadAs IsText bytes (Some x) = IsText bytes x

-- what the line stands for: the request whose line it is, or none where it is the line of no request
abbrev pub IsItem : List ℕ → Option Request → Type 0
IsItem bytes item = IsReadAs IsLineOf bytes item
