-- Custodians of keys, and approvals of their destruction, as the accepted requests say. All of it is this register's
-- own.
use Rattle.std.specs.Prelude.{ℕ, nat_le, Bool, false, not, ◌&&◌, ◌||◌, List, [], ◌∷◌, ◌++◌, filter, fold, Option, None}
use Rattle.std.specs.Prelude.{Some, is_none, unwrap_or, if◌then◌else◌}
use Rattle.std.specs.List.{list_any}
use Rattle.lifecycle_core.specs.{State.state_at, Reason.is_compromise}
use Rattle.register_requests.specs.declared.request.Command.{Command}
use Rattle.register_requests.specs.declared.request.Command.TheVariants.{Revoke, AddCustodian, RemoveCustodian, Approve}
use Rattle.register_requests.specs.declared.request.Command.TheVariants.{Withdraw}
use Rattle.register_requests.specs.{declared.request.Request.Request, Quorum.min_approvals}
use Rattle.register_core.specs.KeyName.{KeyName, is_key_name, is_at, names_at}
use Rattle.register_core.specs.History.{latest, count, own, type, dates, owner}
use Rattle.register_core.specs.{declared.view.Held.Held, Names.sorted_names, Effect.need_after}

-- ---- custodians

-- the custodian that a command adds
abbrev pub added_by : Command → List (KeyName)
added_by (AddCustodian key name) = record { key = key; name = name } ∷ []
added_by _ = []

-- the command adds this custodian, or removes it
abbrev pub is_about : KeyName → Command → Bool
is_about entry (AddCustodian key name) = is_key_name key name entry
is_about entry (RemoveCustodian key name) = is_key_name key name entry
is_about entry _ = false

-- no later request adds this custodian again or removes it
abbrev pub stays_custodian : List Request → KeyName → Bool
stays_custodian later entry = not (list_any (λ q. is_about entry q.command) later)

-- the custodians of all keys: each that was added, and later neither added again nor removed
abbrev pub all_custodians : List Request → List (KeyName)
all_custodians [] = []
all_custodians (q ∷ later) = filter (stays_custodian later) (added_by q.command) ++ all_custodians later

-- the custodians of key k, in order of their bytes
abbrev pub custodians : List Request → ℕ → List (List ℕ)
custodians h k = sorted_names (names_at k (all_custodians h))

-- ---- approvals

-- the approval that a caller's command gives
abbrev pub approved_by : List ℕ → Command → List (KeyName)
approved_by caller (Approve key) = record { key = key; name = caller } ∷ []
approved_by caller _ = []

-- The caller's command, after these requests, ends the approval: it is withdrawn or given anew, its custodian is
-- removed, or the key is compromised and was not destroyed before.
abbrev pub ends_by : List Request → KeyName → List ℕ → Command → Bool
ends_by before entry caller (Approve key) = is_key_name key caller entry
ends_by before entry caller (Withdraw key) = is_key_name key caller entry
ends_by before entry caller (RemoveCustodian key name) = is_key_name key name entry
ends_by before entry caller (Revoke key reason occurrence) =
    is_at key entry && is_compromise reason && is_none (dates before key).destroy
ends_by before entry caller _ = false

-- one of the later requests, which follow these, ends the approval
abbrev pub is_ended : List Request → KeyName → List Request → Bool
is_ended before entry [] = false
is_ended before entry (q ∷ later) = ends_by before entry q.caller q.command || is_ended (before ++ q ∷ []) entry later

-- the approvals that the later requests, which follow these, gave and did not end
abbrev pub approvals_from : List Request → List Request → List (KeyName)
approvals_from before [] = []
approvals_from before (q ∷ later) =
    filter (λ entry. not (is_ended (before ++ q ∷ []) entry later)) (approved_by q.caller q.command)
    ++ approvals_from (before ++ q ∷ []) later

-- the approvals of the destruction of all keys: each that was given, and that nothing later ended
abbrev pub all_approvals : List Request → List (KeyName)
all_approvals h = approvals_from [] h

-- those whose approval of the destruction of key k stands, in order of their bytes
abbrev pub approvals : List Request → ℕ → List (List ℕ)
approvals h k = sorted_names (names_at k (all_approvals h))

-- how many approvals the destruction of key k needs (own)
abbrev pub need : List Request → ℕ → ℕ
need h k = unwrap_or (fold (λ before p. need_after before p.request.command) None (own h k)) min_approvals

-- ---- a key as it stands

-- key k as it stands at the latest moment, or none where there is no such key
abbrev pub held : List Request → ℕ → Option Held
held h k =
    if nat_le 1 k && nat_le k (count h)
    then Some (record {
      kind = type h k;
      owner = owner h k;
      row = record { dates = dates h k; state = state_at (dates h k) (latest h) };
      need = need h k;
      custodians = custodians h k;
      approvals = approvals h k;
    })
    else None
