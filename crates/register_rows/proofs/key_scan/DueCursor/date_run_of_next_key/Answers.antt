use Rattle.std.proofs.Common.{rules}
use Rattle.register_rows.proofs.key_scan.DueCursor.date_run_of_next_key.Goals as goal

pub returns-then-eq : goal.returns-then-eq
returns-then-eq c = search rules
