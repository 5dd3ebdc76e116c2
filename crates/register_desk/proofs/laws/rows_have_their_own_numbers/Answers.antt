use Rattle.register_desk.proofs.KeyRowsOf.{own_numbers}
use Rattle.register_desk.proofs.laws.rows_have_their_own_numbers.Goals as goal

pub returns : goal.returns
returns c = own_numbers
