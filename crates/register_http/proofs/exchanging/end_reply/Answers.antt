use Rattle.std.proofs.Common.{refl}
use Rattle.register_http.proofs.exchanging.end_reply.Goals as goal

pub returns-in-Memory : goal.returns-in-Memory
returns-in-Memory c = rw c.in-Memory.is refl
