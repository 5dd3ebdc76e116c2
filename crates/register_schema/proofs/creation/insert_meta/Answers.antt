use Rattle.std.proofs.Common.{arith, rules}
use Rattle.register_schema.proofs.Creating.{row_params, row_text, adds_meta}
use Rattle.register_schema.proofs.Beside.{inserts_meta}
use Rattle.register_tables.proofs.Wrote.{altered}
use Rattle.register_schema.proofs.creation.insert_meta.Goals as goal

pub returns : goal.returns
returns g c =
    altered row_text row_params (search rules) (adds_meta _ _) (inserts_meta _ _) (search arith) c.execute.ensures.runs
    c.execute.ensures.survives
