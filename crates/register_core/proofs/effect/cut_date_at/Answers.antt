use Rattle.std.proofs.Common.{rules, arith}
use Rattle.register_core.proofs.effect.cut_date_at.Goals as goal

pub returns-in-Some : goal.returns-in-Some
returns-in-Some c = search (rules, arith)
