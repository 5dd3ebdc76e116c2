-- The values so far are those of the lines so far.
use Rattle.std.proofs.Common.{map, take}
use Rattle.httparse.specs.Spans.{header_bytes}
use Rattle.http_messages.specs.HeaderFields.{AreGathered}
use Rattle.http_messages.proofs.header_fields.HeaderFields.gather_lines.Given as goal

abbrev pub invariant-loop-line : goal.invariant-loop-line
invariant-loop-line l = AreGathered (map (header_bytes l.prefix) (take l.line-index l.headers)) l.fields
