-- What a name may be at a key, and the texts that speak of each.
use Rattle.std.specs.Prelude.{ℕ, List, codes}
use Rattle.register_core.specs.KeyName.{KeyName, key_name}
use Rattle.register_rows.specs.declared.stored_key.Role.TheVariants.{Custodian, Approver}
use Rattle.register_rows.specs.declared.stored_key.RoleChange.{RoleChange}
use Rattle.register_rows.specs.declared.stored_key.RoleChange.TheVariants.{Given, Taken}
use Rattle.register_rows.specs.Within.TableChanges.{with_custodian, with_approval, without_custodian, without_approval}
use Rattle.register_rows.specs.declared.stored_key.Role.{Role}
use Rattle.register_tables.specs.Tables.{Tables}

abbrev pub names_of : Role → Tables → List KeyName
names_of Custodian t = t.custodians
names_of Approver t = t.approvals

-- the tables where a name is given a role at a key, or loses it
abbrev pub with_role_changed : RoleChange → ℕ → List ℕ → Tables → Tables
with_role_changed (Given Custodian) key name t = with_custodian (key_name key name) t
with_role_changed (Given Approver) key name t = with_approval (key_name key name) t
with_role_changed (Taken Custodian) key name t = without_custodian key name t
with_role_changed (Taken Approver) key name t = without_approval key name t

abbrev pub change_text : RoleChange → List ℕ
change_text (Given Custodian) = codes "INSERT INTO custodian (key_no, name) VALUES (?1, ?2)"
change_text (Given Approver) = codes "INSERT INTO approval (key_no, name) VALUES (?1, ?2)"
change_text (Taken Custodian) = codes "DELETE FROM custodian WHERE key_no = ?1 AND name = ?2"
change_text (Taken Approver) = codes "DELETE FROM approval WHERE key_no = ?1 AND name = ?2"

abbrev pub select_text : Role → List ℕ
select_text Custodian = codes "SELECT name FROM custodian WHERE key_no = ?1"
select_text Approver = codes "SELECT name FROM approval WHERE key_no = ?1"
