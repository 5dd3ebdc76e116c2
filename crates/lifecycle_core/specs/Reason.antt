-- The reasons for which a key is revoked: KMIP 1.2, Revocation Reason.
use Rattle.std.specs.Prelude.{ℕ, Bool, true, false}
use Rattle.lifecycle_core.specs.declared.reason.Reason.{Reason}
use Rattle.lifecycle_core.specs.declared.reason.Reason.TheVariants.{Unspecified, KeyCompromise, CaCompromise}
use Rattle.lifecycle_core.specs.declared.reason.Reason.TheVariants.{AffiliationChanged, Superseded}
use Rattle.lifecycle_core.specs.declared.reason.Reason.TheVariants.{CessationOfOperation, PrivilegeWithdrawn}

-- the value of a reason in KMIP 1.2: its Revocation Reason Code Enumeration
abbrev pub reason_code : Reason → ℕ
reason_code Unspecified = 1
reason_code KeyCompromise = 2
reason_code CaCompromise = 3
reason_code AffiliationChanged = 4
reason_code Superseded = 5
reason_code CessationOfOperation = 6
reason_code PrivilegeWithdrawn = 7

-- the reasons that make a key compromised: both kinds of compromise (this register's own)
abbrev pub is_compromise : Reason → Bool
is_compromise KeyCompromise = true
is_compromise CaCompromise = true
is_compromise _ = false
