-- The names with a role at a key.
use Rattle.std.specs.Prelude.{◌≡◌, ℕ, List, length}
use Rattle.register_core.specs.{KeyName.names_at, Names.sorted_names}
use Rattle.register_tables.specs.Tables.{Tables}
use Rattle.register_rows.specs.{declared.stored_key.Role.Role, Within.Roles.names_of}

-- the names with a role at a key, in order
abbrev pub HasNames : Role → ℕ → Tables → List (List ℕ) → Type 0
HasNames role key t names = names ≡ sorted_names (names_at key (names_of role t))

-- how many names stand at a key, with each role
abbrev pub count_at : ℕ → Role → Tables → ℕ
count_at key role t = length (names_at key (names_of role t))
