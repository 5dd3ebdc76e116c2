-- The rule of each command: its word, the first version of the register that knows it, who may give it, and of a key in
-- which states. All of it is this register's own, within the transitions of the State attribute, KMIP 1.2 section 3.22.
use Rattle.std.specs.Prelude.{ℕ, ◌==◌, Bool, true, false, List, [], ◌∷◌, if◌then◌else◌, codes}
use Rattle.std.specs.List.{list_any}
use Rattle.lifecycle_core.specs.declared.state.State.TheVariants.{PreActive, Active, Deactivated, Compromised}
use Rattle.lifecycle_core.specs.declared.state.State.TheVariants.{Destroyed, DestroyedCompromised}
use Rattle.lifecycle_core.specs.{declared.state.State.State, State.state_code, Reason.is_compromise}
use Rattle.register_requests.specs.declared.command_rule.Giver.TheVariants.{Anybody, Owner, Custodian, Office}
use Rattle.register_requests.specs.declared.command_rule.KeyPart.TheVariants.{Row, Custody, CustodyAndNeed}
use Rattle.register_requests.specs.declared.request.Command.TheVariants.{Register, Activate, SetDates, Revoke, Assign}
use Rattle.register_requests.specs.declared.request.Command.TheVariants.{AddCustodian, RemoveCustodian, Approve}
use Rattle.register_requests.specs.declared.request.Command.TheVariants.{Withdraw, Destroy, Advance, SetQuorum}
use Rattle.register_requests.specs.declared.request.Command.TheVariants.{SetPeriod}
use Rattle.register_requests.specs.declared.version.Version.TheVariants.{First, Second}
use Rattle.register_requests.specs.{declared.command_rule.Giver.Giver, declared.command_rule.KeyPart.KeyPart}
use Rattle.register_requests.specs.{declared.request.Command.Command, declared.version.Version.Version}

-- What is asked of a command beside its moment, its key and its dates: its word in a line, the first version of the
-- register that knows it, who may give it, and the states of a key for which it is.
pub record Rule : Type 0 where
  pub word : List ℕ
  pub since : Version
  pub giver : Giver
  pub states : List State

-- All six states of KMIP 1.2, section 3.22.
abbrev pub any_state : List State
any_state = PreActive ∷ Active ∷ Deactivated ∷ Compromised ∷ Destroyed ∷ DestroyedCompromised ∷ []

-- The states in which a key is not destroyed: all but Destroyed and Destroyed Compromised.
abbrev pub not_destroyed : List State
not_destroyed = PreActive ∷ Active ∷ Deactivated ∷ Compromised ∷ []

-- The states from which a key may be destroyed: a transition leads from each to Destroyed or Destroyed Compromised.
abbrev pub before_destruction : List State
before_destruction = PreActive ∷ Deactivated ∷ Compromised ∷ []

-- The states in which a key is not known to be compromised.
abbrev pub before_compromise : List State
before_compromise = PreActive ∷ Active ∷ Deactivated ∷ Destroyed ∷ []

-- The states in which the key's dates may be changed by hand. Own.
abbrev pub dated_by_hand : List State
dated_by_hand = PreActive ∷ Active ∷ []

-- The word of each command, the first version that knows it, who may give it, and the states of its key in which it is
-- taken, within the transitions of KMIP 1.2, section 3.22. Own.
abbrev pub rule : Command → Rule
rule (Register new) = record { word = codes "register"; since = First; giver = Anybody; states = any_state }
rule (Activate key) = record { word = codes "activate"; since = First; giver = Owner; states = PreActive ∷ [] }
rule (SetDates key activation protect_stop deactivation) =
    record { word = codes "set"; since = First; giver = Owner; states = dated_by_hand }
rule (Revoke key reason occurrence) = record {
  word = codes "revoke";
  since = First;
  giver = if is_compromise reason then Anybody else Owner;
  states = if is_compromise reason then before_compromise else Active ∷ [];
}
rule (Assign key owner) = record { word = codes "assign"; since = First; giver = Owner; states = any_state }
rule (AddCustodian key name) = record { word = codes "add-custodian"; since = First; giver = Owner; states = any_state }
rule (RemoveCustodian key name) =
    record { word = codes "remove-custodian"; since = First; giver = Owner; states = not_destroyed }
rule (Approve key) = record { word = codes "approve"; since = First; giver = Custodian; states = before_destruction }
rule (Withdraw key) = record { word = codes "withdraw"; since = First; giver = Custodian; states = not_destroyed }
rule (Destroy key) = record { word = codes "destroy"; since = First; giver = Owner; states = before_destruction }
rule Advance = record { word = codes "advance"; since = First; giver = Anybody; states = any_state }
rule (SetQuorum key need) = record { word = codes "set-quorum"; since = Second; giver = Owner; states = any_state }
rule (SetPeriod kind period) = record { word = codes "set-period"; since = Second; giver = Office; states = any_state }

-- ---- what it says

-- what a decision on the command looks at of the key that it names
abbrev pub looks_at : Command → KeyPart
looks_at (Assign key owner) = Custody
looks_at (AddCustodian key name) = Custody
looks_at (RemoveCustodian key name) = Custody
looks_at (Approve key) = Custody
looks_at (Withdraw key) = Custody
looks_at (Destroy key) = CustodyAndNeed
looks_at _ = Row

-- the state is one of these
abbrev pub is_one_of : List State → State → Bool
is_one_of states state = list_any (λ s. state_code s == state_code state) states

-- the key's custodians, or the approvals of its destruction, are in this part of it
abbrev pub has_custody : KeyPart → Bool
has_custody Row = false
has_custody Custody = true
has_custody CustodyAndNeed = true

-- how many approvals the destruction needs is in it
abbrev pub has_need : KeyPart → Bool
has_need Row = false
has_need Custody = false
has_need CustodyAndNeed = true

-- a decision on the command looks at the key's custodians, or at the approvals of its destruction
abbrev pub looks_at_custody : Command → Bool
looks_at_custody c = has_custody (looks_at c)

-- a decision on the command looks at how many approvals the destruction needs
abbrev pub looks_at_need : Command → Bool
looks_at_need c = has_need (looks_at c)
