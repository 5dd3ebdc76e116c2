use Rattle.std.proofs.Common.{rules}
use Rattle.key_rows.specs.Export.{export_header}
use Rattle.key_rows.proofs.export.export_header.Goals as goal

pub returns : goal.returns
unfolding export_header
returns c = search rules
