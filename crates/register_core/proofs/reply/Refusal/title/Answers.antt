use Rattle.std.proofs.Common.{sym, ap}
use Rattle.register_core.specs.{Reply.refusal_title, declared.reply.Refusal.Refusal}
use Rattle.register_core.proofs.reply.Refusal.title.Goals as goal

pub returns-in-Full-clause-number : goal.returns-in-Full-clause-number
returns-in-Full-clause-number c = ap (λ (refusal : Refusal). (refusal_title refusal).0) (sym c.in-Full.is)
