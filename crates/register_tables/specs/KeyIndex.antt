-- The statements that make the indexes of keys.
use Rattle.std.specs.Prelude.{ℕ, List, codes}
use Rattle.register_tables.specs.declared.key_index.KeyIndex.{KeyIndex}
use Rattle.register_tables.specs.declared.key_index.KeyIndex.TheVariants.{Activation, Deactivation, ProtectStop}

-- the statement that makes the index
abbrev pub index_text : KeyIndex → List ℕ
index_text Activation = codes "CREATE INDEX keys_by_activation ON keys (state, activation)"
index_text Deactivation = codes "CREATE INDEX keys_by_deactivation ON keys (state, deactivation)"
index_text ProtectStop = codes "CREATE INDEX keys_by_protect_stop ON keys (state, protect_stop, number)"
