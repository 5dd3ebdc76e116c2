-- The refusals of custodians and of approvals, each where its condition holds.
use Rattle.std.specs.Prelude.{ℕ, nat_lt, nat_le, Bool, not, List, [], ◌∷◌, Option, None, Some, length, if◌then◌else◌}
use Rattle.std.specs.Str.{bytes_eq}
use Rattle.period_core.specs.Fitting.{first_that_holds}
use Rattle.register_requests.specs.declared.request.Command.TheVariants.{Assign, AddCustodian, RemoveCustodian, Approve}
use Rattle.register_requests.specs.declared.request.Command.TheVariants.{Withdraw, Destroy}
use Rattle.register_requests.specs.declared.version.Version.{Version}
use Rattle.register_requests.specs.{declared.request.Command.Command, Name.is_among, Version.custodians_of}
use Rattle.register_core.specs.declared.reply.Refusal.TheVariants.{AlreadyCustodian, NoSuchCustodian, TooManyCustodians}
use Rattle.register_core.specs.declared.reply.Refusal.TheVariants.{OwnerCustodian, AlreadyApproved, NoApproval}
use Rattle.register_core.specs.declared.reply.Refusal.TheVariants.{ApprovalsMissing}
use Rattle.register_core.specs.{declared.view.Held.Held, declared.reply.Refusal.Refusal}

-- this refusal, where its condition holds
abbrev pub refused_if : Bool → Refusal → Option Refusal
refused_if holds refusal = if holds then Some refusal else None

-- the name to add is a custodian of the key already, the key has as many as it may have in this version, or its owner
-- would be one
abbrev pub addition_refusals : Version → Held → List ℕ → List (Option Refusal)
addition_refusals version held name =
    refused_if (is_among name held.custodians) AlreadyCustodian
    ∷ refused_if (nat_le (custodians_of version) (length held.custodians)) TooManyCustodians
    ∷ refused_if (bytes_eq name held.owner) OwnerCustodian
    ∷ []

-- The refusal of a caller's command by the custody of a key that stands so: its custodians, or its approvals and how
-- many a destruction needs. Of an assignment the new owner is none of the custodians. Of a key that is not there, none.
abbrev pub custody_refusal_in : Version → Option Held → List ℕ → Command → Option Refusal
custody_refusal_in version (Some held) caller (AddCustodian key name) =
    first_that_holds (addition_refusals version held name)
custody_refusal_in version (Some held) caller (RemoveCustodian key name) =
    refused_if (not (is_among name held.custodians)) NoSuchCustodian
custody_refusal_in version (Some held) caller (Assign key owner) =
    refused_if (is_among owner held.custodians) OwnerCustodian
custody_refusal_in version (Some held) caller (Approve key) =
    refused_if (is_among caller held.approvals) AlreadyApproved
custody_refusal_in version (Some held) caller (Withdraw key) =
    refused_if (not (is_among caller held.approvals)) NoApproval
custody_refusal_in version (Some held) caller (Destroy key) =
    let have = length held.approvals in refused_if (nat_lt have held.need) (ApprovalsMissing have held.need)
custody_refusal_in version _ caller _ = None
