-- What one accepted request makes of the tables. That this is what the history says is proved of `apply`.
use Rattle.std.specs.Prelude.{ℕ, ◌+◌}
use Rattle.register_core.specs.declared.kept_reply.KeptReply.{KeptReply}
use Rattle.register_core.specs.{declared.change.Change.Change, KeptReply.IsKeptReply}
use Rattle.register_tables.specs.TableChanges.{AreRightAt, HasKeys, with_recorded, with_keys_advanced}
use Rattle.register_rows.specs.Change.{made_count, with_change}
use Rattle.register_tables.specs.Tables.{Tables}

-- each key moved on to the moment of the reply, then the change, then what is kept; this many keys were made before
abbrev pub with_request : ℕ → Change → KeptReply → Tables → Tables
with_request keys change kept t =
    with_recorded kept (keys + made_count change) (with_change change (with_keys_advanced kept.reply.moment t))

-- the tables have as many keys, each in its state at the latest moment, and what is to be kept is in its ranges
pub record CanTake (keys latest : ℕ) (kept : KeptReply) (t : Tables) : Type 0 where
  pub counted : HasKeys keys t
  pub right : AreRightAt latest t
  pub in_range : IsKeptReply kept
