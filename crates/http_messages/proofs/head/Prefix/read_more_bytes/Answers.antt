use Rattle.std.proofs.Common.{◌≤◌, ◌++◌, length, take, rules, ap, ◌∙◌, length-take-le}
use Rattle.http_messages.proofs.Prefixes.{take-refilled}
use Rattle.http_messages.proofs.head.Prefix.read_more_bytes.Goals as goal

pub returns-clause-bytes : goal.returns-clause-bytes
returns-clause-bytes g c =
    let held = c.self.inside.bytes in
    let within : c.self.inside.filled ≤ length held = search rules in
    let some : c.in_ok-count.count ≤ length c.read_piece.new.piece = c.in_ok-count.ensures.bound in
    let more = take c.in_ok-count.count c.read_piece.new.piece in (
      more,
      take-refilled held c.read_piece.new.piece c.self.inside.filled _ c.in_ok-count.count within some
          ∙ ap (λ l. l ++ more) c.self.view_is,
      length-take-le _ _ some,
      c.in_ok-count.ensures.bytes,
    )
