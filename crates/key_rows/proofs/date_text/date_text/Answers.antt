use Rattle.std.proofs.Common.{subst, sym}
use Rattle.std.proofs.lemmas.Str.{IsUtf8-from_ascii}
use Rattle.std.specs.Str.{IsAscii}
use Rattle.key_rows.proofs.Printable.{moment_ascii}
use Rattle.key_rows.proofs.date_text.date_text.Goals as goal

pub unreachable-requires : goal.unreachable-requires
unreachable-requires c =
    let text = subst IsAscii (sym c.write-bytes.ensures) (moment_ascii c.in-Some.moment) in
    c.in_default-from_utf8.ensures.cases.0 (IsUtf8-from_ascii _ text)
