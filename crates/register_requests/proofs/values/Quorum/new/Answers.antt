use Rattle.std.proofs.Common.{refl}
use Rattle.std.proofs.lemmas.Map.Keys.{le_from_is_le}
use Rattle.register_requests.specs.Quorum.{IsQuorum}
use Rattle.register_requests.proofs.values.Quorum.new.Goals as goal

is_quorum : (c : goal.Then-contains) → IsQuorum c.args.approvals
is_quorum c =
    let within = c.if-contains.ensures.cases in
    let low = le_from_is_le 2 _ (rw c.new.ensures.start at within.0) in
    let high = le_from_is_le _ 5 (rw c.new.ensures.end at within.1) in
    (low, high)

pub invariant_of-result : goal.invariant_of-result
invariant_of-result c = is_quorum c

pub returns-then-contains-clause-in_range : goal.returns-then-contains-clause-in_range
returns-then-contains-clause-in_range c = (λ _. is_quorum c, λ _. refl)
