-- The seven types.
use Rattle.std.proofs.Common.{List, [], ◌∷◌, arith}
use Rattle.std.specs.Prelude.{All}
use Rattle.period_core.specs.declared.key_type.KeyType.{KeyType}
use Rattle.period_core.specs.declared.key_type.KeyType.TheVariants.{DataEncryption, Authentication, KeyWrapping}
use Rattle.period_core.specs.declared.key_type.KeyType.TheVariants.{PrivateSignature, PrivateAuthentication}
use Rattle.period_core.specs.declared.key_type.KeyType.TheVariants.{PrivateTransport, Master}

abbrev pub types : List KeyType
types = DataEncryption ∷ Authentication ∷ KeyWrapping ∷ PrivateSignature ∷ PrivateAuthentication ∷ PrivateTransport ∷
    Master ∷ []

-- what holds of the seven holds of each type
pub of_each_type : (P : KeyType → Type 0) → P DataEncryption → P Authentication → P KeyWrapping → P PrivateSignature
    → P PrivateAuthentication → P PrivateTransport → P Master → (kind : KeyType) → P kind
of_each_type P a b c d e f g DataEncryption = a
of_each_type P a b c d e f g Authentication = b
of_each_type P a b c d e f g KeyWrapping = c
of_each_type P a b c d e f g PrivateSignature = d
of_each_type P a b c d e f g PrivateAuthentication = e
of_each_type P a b c d e f g PrivateTransport = f
of_each_type P a b c d e f g Master = g

-- what holds of each type in the list holds of each type
pub each : (P : KeyType → Type 0) → All P types → (kind : KeyType) → P kind
each P all =
    of_each_type P (all 0 Master (omega arith)) (all 1 Master (omega arith)) (all 2 Master (omega arith))
    (all 3 Master (omega arith)) (all 4 Master (omega arith)) (all 5 Master (omega arith)) (all 6 Master (omega arith))
