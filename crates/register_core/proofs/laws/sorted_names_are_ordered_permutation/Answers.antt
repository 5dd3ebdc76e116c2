use Rattle.register_core.proofs.NameOrder.{sorted_names_permuted, sorted_names_sorted}
use Rattle.register_core.proofs.laws.sorted_names_are_ordered_permutation.Goals as goal

pub returns-clause-same : goal.returns-clause-same
returns-clause-same c = sorted_names_permuted

pub returns-clause-order : goal.returns-clause-order
returns-clause-order c = sorted_names_sorted
