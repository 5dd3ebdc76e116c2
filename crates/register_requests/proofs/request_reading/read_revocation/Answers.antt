use Rattle.std.proofs.Common.{arith}
use Rattle.register_requests.proofs.Lines.{no_revocation, no_cause}
use Rattle.register_requests.proofs.request_reading.read_revocation.Goals as goal

pub returns-in_err-key : goal.returns-in_err-key
returns-in_err-key c =
    rw c.from_residual.ensures (no_revocation c.args.bytes.now c.in_err-key.ensures)

pub returns-then-not-is_compromise : goal.returns-then-not-is_compromise
returns-then-not-is_compromise c =
    no_cause c.args.bytes.now _ c.in_ok-key.ensures (λ cause. absurd (grind arith))
