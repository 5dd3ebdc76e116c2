use Rattle.std.proofs.Common.{arith}
use Rattle.std.proofs.lemmas.Grind.{common_steps}
use Rattle.register_requests.proofs.Texts.{no_field, split_there}
use Rattle.register_requests.proofs.field_values.split_first_field.Goals as goal

pub returns : goal.returns
returns c =
    let there = split_there c.args.bytes.now c.in_ok-end.end (c.in_ok-end.ensures.place) in
    grind (arith, common_steps)

pub returns-in_err-end : goal.returns-in_err-end
returns-in_err-end c = rw c.from_residual.ensures (no_field c.args.bytes.now c.in_err-end.ensures.place)
