use Rattle.std.proofs.Common.{rules}
use Rattle.http_messages.proofs.asking.read_asked.Goals as goal

pub returns-clause-read : goal.returns-clause-read
returns-clause-read g c = search rules
