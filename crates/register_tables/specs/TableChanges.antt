-- What the calls of the store make of the tables.
use Rattle.std.specs.Prelude.{◌≡◌, ◌==◌, if◌then◌else◌, ℕ, suc, zero, List, [], ◌∷◌, ◌++◌, length, map, slice_get}
use Rattle.std.specs.Prelude.{Option, None}
use Rattle.std.specs.List.{AllByRecursion}
use Rattle.sqlite.specs.Effect.{Database}
use Rattle.lifecycle_core.specs.{declared.row.Row.Row, Row.IsRightAt, State.state_at}
use Rattle.register_core.specs.{declared.kept_reply.KeptReply.KeptReply, declared.key.Key.Key, Settings.with_period}
use Rattle.period_core.specs.{declared.key_type.KeyType.KeyType, Period.Period}
use Rattle.register_tables.specs.Tables.{Tables, numbered}
use Rattle.register_tables.specs.Schema.{Holds}

-- where the database holds tables of which P says something, it comes to hold what f makes of them
abbrev pub Makes : (Tables → Type 0) → (Tables → Tables) → Database → Database → Type 0
Makes P f old new = (t : Tables) → Holds t old → P t → Holds (f t) new

-- the tables have as many keys
abbrev pub HasKeys : ℕ → Tables → Type 0
HasKeys count t = length t.keys ≡ count

-- each key is in the state that its dates give at a moment
abbrev pub AreRightAt : ℕ → Tables → Type 0
AreRightAt latest t = AllByRecursion (λ k. IsRightAt k.row latest) t.keys

-- the key with its state at a moment
abbrev pub advanced : ℕ → Key → Key
advanced at k = record k { row = record { dates = k.row.dates; state = state_at k.row.dates at } }

-- the tables with each key in the state that its dates give at a moment
abbrev pub with_keys_advanced : ℕ → Tables → Tables
with_keys_advanced at t = record t { keys = map (advanced at) t.keys }

-- the tables with one more key
abbrev pub with_key : Key → Tables → Tables
with_key k t = record t { keys = t.keys ++ k ∷ [] }

-- an accepted request is kept, with the moment of its reply as the latest, and the number of keys after it
abbrev pub with_recorded : KeptReply → ℕ → Tables → Tables
with_recorded kept key_count t =
    record t {
      counts = record { latest = kept.reply.moment; key_count = key_count };
      requests = t.requests ++ kept ∷ [];
    }

-- what f makes of a key, where the number is its own
abbrev pub where_number : ℕ → (Key → Key) → ℕ × Key → Key
where_number number f numbered = if numbered.0 == number then f numbered.1 else numbered.1

-- what f makes of the key with this number, in its place
abbrev pub with_key_at : ℕ → (Key → Key) → Tables → Tables
with_key_at number f t = record t { keys = map (where_number number f) (numbered t.keys) }

-- a key with an owner and a row; its Initial Date stays
abbrev pub with_owner_and_row : List ℕ → Row → Key → Key
with_owner_and_row owner row k =
    record k {
      owner = owner;
      row = record { dates = record row.dates { initial = k.row.dates.initial }; state = row.state };
    }

-- the key with this number
abbrev pub key_at : List Key → ℕ → Option Key
key_at keys zero = None
key_at keys (suc before) = slice_get keys before

-- ---- what is set

-- the period of the type, in the place of the one that was set before, if one was
abbrev pub with_period_set : KeyType → Period → Tables → Tables
with_period_set kind period t = record t { periods = with_period kind period t.periods }
