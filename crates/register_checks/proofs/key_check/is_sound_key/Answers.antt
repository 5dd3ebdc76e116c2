use Rattle.std.proofs.Common.{rules}
use Rattle.register_checks.proofs.key_check.is_sound_key.Goals as goal

pub returns-then-are_event_dates_past : goal.returns-then-are_event_dates_past
returns-then-are_event_dates_past c = search rules
