-- The checks of opening are met where each table's is. The crates above name no table, and go by the list of all.
use Rattle.std.proofs.Common.{inl, inr, List, [], ◌∷◌, sym, subst}
use Rattle.sqlite_rules.specs.Lists.{Has}
use Rattle.register_tables.specs.declared.table.TableName.TheVariants.{Keys}
use Rattle.register_checks.specs.OpeningChecks.{AreKeys, MeetsCheck, MeetsChecks}
use Rattle.register_tables.specs.{declared.table.TableName.TableName, Tables.all_tables}
use Rattle.register_checks.specs.Stored.{Stored}
use Rattle.register_tables.proofs.EachTable.{in_all}

-- the checks of these tables are met
abbrev pub AreMet : List TableName → Stored → Type 0
AreMet [] t = Unit {0}
AreMet (name ∷ names) t = MeetsCheck name t × AreMet names t

met : (names : List TableName) (t : Stored) → AreMet names t → (name : TableName) → Has names name → MeetsCheck name t
met [] t all name has = absurd has
met (n ∷ names) t all name (inl same) = subst (λ (m : TableName). MeetsCheck m t) (sym same) all.0
met (n ∷ names) t all name (inr later) = met names t all.1 name later

pub all_met : (t : Stored) → AreMet all_tables t → MeetsChecks t
all_met t all name = met all_tables t all name (in_all name)

-- and what they say of the keys
pub keys_met : (t : Stored) → MeetsChecks t → AreKeys t.version t.tables.counts t.tables.keys
keys_met t meets = meets Keys
