use Rattle.register_core.proofs.NameOrder.{sorted_names_from_sorted}
use Rattle.register_core.proofs.names.Names.sorted_from_vec.Goals as goal

pub returns : goal.returns
returns c names same =
    sorted_names_from_sorted _ _ names c.sort_unstable.ensures.permutation c.sort_unstable.ensures.sorted same
