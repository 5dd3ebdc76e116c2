use Rattle.std.proofs.Common.{arith, rules}
use Rattle.register_schema.proofs.VersionSet.{sets_second, version_params, version_text}
use Rattle.register_schema.proofs.Beside.{updates_meta}
use Rattle.register_tables.proofs.Wrote.{altered}
use Rattle.register_schema.proofs.migration.set_version.Goals as goal

pub returns : goal.returns
returns g c =
    altered version_text version_params (search rules) (sets_second _ _) (updates_meta _ _) (search arith)
    c.execute.ensures.runs c.execute.ensures.survives
