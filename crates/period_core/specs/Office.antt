-- The usage periods that an office sets for types, in the place of this register's own.
use Rattle.std.specs.Prelude.{◌==◌, Option, if◌then◌else◌}
use Rattle.period_core.specs.declared.key_type.KeyType.TheVariants.{DataEncryption, Authentication, KeyWrapping}
use Rattle.period_core.specs.declared.key_type.KeyType.TheVariants.{PrivateSignature, PrivateAuthentication}
use Rattle.period_core.specs.declared.key_type.KeyType.TheVariants.{PrivateTransport, Master}
use Rattle.period_core.specs.{declared.key_type.KeyType.KeyType, declared.office.OfficePeriods.OfficePeriods}
use Rattle.period_core.specs.{KeyType.key_type_code, Period.Period, Period.period_or_default}

-- what is set for a type
abbrev pub set_in : OfficePeriods → KeyType → Option Period
set_in set DataEncryption = set.data_encryption
set_in set Authentication = set.authentication
set_in set KeyWrapping = set.key_wrapping
set_in set PrivateSignature = set.private_signature
set_in set PrivateAuthentication = set.private_authentication
set_in set PrivateTransport = set.private_transport
set_in set Master = set.master

-- the period that is set for a type, or the type's own
abbrev pub period_in : OfficePeriods → KeyType → Period
period_in set kind = period_or_default (set_in set kind) kind

-- those of which this is set for each type
abbrev pub of_each : (KeyType → Option Period) → OfficePeriods
of_each f = record {
  data_encryption = f DataEncryption;
  authentication = f Authentication;
  key_wrapping = f KeyWrapping;
  private_signature = f PrivateSignature;
  private_authentication = f PrivateAuthentication;
  private_transport = f PrivateTransport;
  master = f Master;
}

-- the periods of the types, with this one for this type
abbrev pub with_set : OfficePeriods → KeyType → Option Period → OfficePeriods
with_set set kind period =
    of_each (λ other. if key_type_code other == key_type_code kind then period else set_in set other)
