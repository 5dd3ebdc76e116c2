use Rattle.std.proofs.Common.{rules}
use Rattle.period_core.proofs.period.Period.new.Goals as goal

pub invariant_of-result : goal.invariant_of-result
invariant_of-result c = search rules

pub returns-then-recipient-le-MAX_MONTHS-clause-in_range : goal.returns-then-recipient-le-MAX_MONTHS-clause-in_range
returns-then-recipient-le-MAX_MONTHS-clause-in_range c = search rules
