use Rattle.register_requests.specs.Within.Text.{filled_length, filled_rest}
use Rattle.register_requests.proofs.values.Text.new.Goals as goal

pub invariant_of-result : goal.invariant_of-result
invariant_of-result g c =
    rw c.copy_from_slice.ensures.after (
      c.requires,
      filled_length g.row.N c.args.bytes.now c.requires,
      filled_rest g.row.N c.args.bytes.now,
    )
