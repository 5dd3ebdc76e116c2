use Rattle.key_rows.proofs.DueRows.{first_begin}
use Rattle.key_rows.proofs.laws.first_rows_begin_the_due_rows.Goals as goal

pub returns : goal.returns
returns c = first_begin
