use Rattle.std.proofs.Common.{rules, ◌≡◌}
use Rattle.std.specs.Prelude.{IfOk, string_bytes}
use Rattle.key_rows.proofs.Padding.{formatted, line_text}
use Rattle.key_rows.proofs.report.report_line.Goals as goal

pub returns : goal.returns
returns c =
    let r = c.args.row.now in
    let written : IfOk c.format.result (λ line. string_bytes line ≡ formatted c.args.latest c.args.until r) =
    search rules in
    rw (← line_text c.args.latest c.args.until r) written
