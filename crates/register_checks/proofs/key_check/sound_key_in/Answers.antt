use Rattle.register_tables.proofs.Decoding.{one_key, same_number}
use Rattle.register_checks.proofs.key_check.sound_key_in.Goals.{else-shown-from-via-then-shown-from+else-is_sound_key}
use Rattle.register_checks.proofs.key_check.sound_key_in.Goals.{else-shown-from-via-else-shown-from}
use Rattle.register_checks.proofs.key_check.sound_key_in.Goals as goal
use Rattle.std.proofs.Common.{arith}

pub returns-else-shown-from : goal.returns-else-shown-from
returns-else-shown-from c k shows sound =
    search (
      arith,
      one_key,
      same_number,
      else-shown-from-via-then-shown-from+else-is_sound_key,
      else-shown-from-via-else-shown-from,
    )
