-- What is proved of each index of keys by its name.
use Rattle.std.proofs.Common.{◌≡◌, [], take, Ok, refl}
use Rattle.sqlite.specs.Command.TheVariants.{CreateIndex}
use Rattle.sqlite.specs.{Change.indexed, Compile.index_defined_by, Listing.understood, Schema.Schema}
use Rattle.sqlite.proofs.Callers.{IsPlain, command_of, statement_of}
use Rattle.sqlite_schema.specs.declared.schema.Index.{Index}
use Rattle.sqlite_tied.specs.Compute.{everything}
use Rattle.register_tables.specs.declared.key_index.KeyIndex.TheVariants.{Activation, Deactivation, ProtectStop}
use Rattle.register_tables.specs.Schema.{schema_with, made_indexes, index_of}
use Rattle.register_tables.specs.Within.Schema.{index_place}
use Rattle.register_tables.specs.KeyIndex.{index_text}
use Rattle.register_tables.specs.{declared.key_index.KeyIndex.KeyIndex, declared.table.TableName.TheVariants.Keys}
use Rattle.register_tables.specs.Tables.{fresh, place_of}
use Rattle.register_tables.specs.Within.Tables.{keys}

-- the schema with the indexes before it
abbrev pub schema_before : KeyIndex → Schema
schema_before index = schema_with (fresh (take (index_place index) made_indexes))

-- an index as its text gives it: the tree is left open
abbrev pub unplaced : KeyIndex → Index
unplaced index = record (index_of index) { tree = 0 }

-- what the text means where the tables and the indexes before it are made
pub record IsCreate (index : KeyIndex) : Type 0 where
  pub is : command_of (understood (schema_before index) (index_text index)) ≡ CreateIndex (place_of Keys)
  pub whole : statement_of (index_text index) (understood (schema_before index) (index_text index)) ≡ index_text index
  pub plain : IsPlain (understood (schema_before index) (index_text index))
  pub defined : index_defined_by (keys (fresh [])) (index_text index) ≡ Ok (unplaced index)
  pub same : indexed (schema_before index) (keys (fresh [])) (unplaced index) ≡ indexed (schema_before index)
      (keys (fresh [])) (index_of index)

pub create_is : (index : KeyIndex) → IsCreate index
unfolding understood everything
create_is Activation = record { is = refl; whole = refl; plain = (refl, refl); defined = refl; same = refl }
create_is Deactivation = record { is = refl; whole = refl; plain = (refl, refl); defined = refl; same = refl }
create_is ProtectStop = record { is = refl; whole = refl; plain = (refl, refl); defined = refl; same = refl }
