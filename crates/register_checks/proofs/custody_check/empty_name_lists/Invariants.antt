use Rattle.std.proofs.Common.{◌≡◌, length}
use Rattle.register_checks.specs.Within.CheckedRows.{AreEmpty}
use Rattle.register_checks.proofs.custody_check.empty_name_lists.Given as goal

-- the lists so far
abbrev pub invariant-loop : goal.invariant-loop
invariant-loop l = AreEmpty l.lists.items × (length l.lists.items ≡ l.counter)
