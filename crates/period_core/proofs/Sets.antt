-- What is set for each type, once something is set for one.
use Rattle.std.proofs.Common.{◌≡◌, ◌==◌, cond, Option, refl}
use Rattle.period_core.specs.{declared.key_type.KeyType.KeyType, declared.office.OfficePeriods.OfficePeriods}
use Rattle.period_core.specs.{KeyType.key_type_code, Office.of_each, Office.set_in, Office.with_set, Period.Period}
use Rattle.period_core.proofs.Types.{of_each_type}

of_its_own : (f : KeyType → Option Period) (kind : KeyType) → set_in (of_each f) kind ≡ f kind
of_its_own f = of_each_type (λ kind. set_in (of_each f) kind ≡ f kind) refl refl refl refl refl refl refl

pub set_then : (set : OfficePeriods) (kind : KeyType) (period : Option Period) (other : KeyType)
    → set_in (with_set set kind period) other
    ≡ cond (key_type_code other == key_type_code kind) period (set_in set other)
set_then set kind period other =
    of_its_own (λ x. cond (key_type_code x == key_type_code kind) period (set_in set x)) other
