use Rattle.register_desk.proofs.KeyRowsOf.{row_in_files}
use Rattle.register_desk.proofs.laws.rows_in_files_have_the_state_of_their_dates.Goals as goal

pub returns : goal.returns
returns c = row_in_files
