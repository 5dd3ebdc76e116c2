use Rattle.std.proofs.Common.{rules}
use Rattle.register_requests.proofs.command_fields.CommandKind.word_shape_and_version.Goals as goal

pub returns-in-Advance-clause-shape : goal.returns-in-Advance-clause-shape
returns-in-Advance-clause-shape c = search rules
