use Rattle.key_rows.proofs.DueRows.{one_list}
use Rattle.key_rows.proofs.laws.selection_of_rows_is_unique.Goals as goal

pub returns : goal.returns
returns c = one_list
