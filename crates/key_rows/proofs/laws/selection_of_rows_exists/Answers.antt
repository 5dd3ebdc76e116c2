use Rattle.key_rows.proofs.DueRows.{a_list}
use Rattle.key_rows.proofs.laws.selection_of_rows_exists.Goals as goal

pub returns : goal.returns
returns c = a_list
