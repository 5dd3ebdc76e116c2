use Rattle.std.proofs.Common.{ℕ, ◌≤◌, subst}
use Rattle.register_program.proofs.Answered.{answered_in}
use Rattle.register_program.proofs.laws.answered_requests_stand.Goals as goal

pub returns : goal.returns
returns c h traffic end life served enough q was =
    answered_in served.clients life.items h end life.applied q
    (subst (λ (n : ℕ). n ≤ life.applied) served.known enough) served.attends.refused was
